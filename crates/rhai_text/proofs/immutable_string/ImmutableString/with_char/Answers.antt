use Rattle.std.proofs.Common.{◌≡◌, ◌≤◌, ◌∷◌, [], ◌++◌, length, take, drop, set, IfOk, sym, ◌∙◌, ap, subst, arith, length-drop}
use Rattle.std.proofs.lemmas.List.{set_past}
use Rattle.std.proofs.lemmas.Str.{chars_from_encodes, cons_from_encodes, length-le-encodes}
use Rattle.std.specs.Char.{encode_utf8}
use Rattle.std.specs.Str.{chars}
use Rattle.rhai_text.proofs.Texts.{chars-one, set-at_drop}
use Rattle.rhai_text.proofs.immutable_string.ImmutableString.with_char.Goals as goal

-- the text has no character at the index, so it is unchanged
pub returns-in-None : goal.returns-in-None
returns-in-None c =
    let cs = chars c.as_str-text.result.now in
    let past : length cs ≤ c.args.index =
    omega (arith, ap length (c.chars-after.ensures.rest ∙ c.split_at_char.ensures.back_bytes), c.in-None.ensures.steps.0.0, length-drop c.args.index cs, length-le-encodes (drop c.args.index cs))
    in
    subst (λ xs. IfOk c.copy.result (λ t. t ≡ xs)) (sym c.as_str-text.ensures.characters ∙ sym (set_past cs c.args.index c.args.character past) ∙ ap (λ xs. set xs c.args.index c.args.character) c.as_str-text.ensures.characters) c.copy.ensures

pub returns : goal.returns
returns c =
    let cs = chars c.as_str-text.result.now in
    let back = c.as_str.result.now in
    let next =
    cons_from_encodes (drop c.args.index cs) back c.in-Some.field-0
    (sym c.split_at_char.ensures.back_bytes ∙ sym c.chars-after.ensures.rest ∙ c.in-Some.ensures.steps.0 ∙ ap (λ bs. encode_utf8 c.in-Some.field-0 ++ bs) (sym c.as_str.ensures))
    in
    let one : chars c.encode_utf8-encoded.result.now ≡ c.args.character ∷ [] = chars-one c.encode_utf8-encoded.result.now c.args.character c.encode_utf8-encoded.utf8 c.encode_utf8-encoded.ensures.value in
    let rest : chars back ≡ next.0 = sym (chars_from_encodes next.0 back c.as_str.utf8 next.2) in
    subst (λ xs. IfOk c.joined.result (λ t. t ≡ xs))
    (ap (λ xs. xs ++ (chars c.encode_utf8-encoded.result.now ++ chars back)) c.split_at_char.ensures.front
    ∙ ap (λ xs. take c.args.index cs ++ (xs ++ chars back)) one
    ∙ ap (λ xs. take c.args.index cs ++ (c.args.character ∷ xs)) rest
    ∙ sym (set-at_drop cs next.0 c.args.index c.in-Some.field-0 c.args.character next.1)
    ∙ ap (λ xs. set xs c.args.index c.args.character) c.as_str-text.ensures.characters)
    c.joined.ensures
