use Rattle.std.proofs.Common.{◌≡◌, ◌<◌, ◌+◌, Some, length, drop, inl, inr, refl, rules, arith, ap, ◌∙◌, subst, length-drop}
use Rattle.std.specs.Str.{chars, encode_utf8_all}
use Rattle.rhai_packs.specs.Places.{cut_place}
use Rattle.rhai_packs.specs.Texts.{IsFoundAt, IsFoundFrom}
use Rattle.rhai_packs.proofs.texts.index_of_from.Goals as goal

pub overflow_add-result : goal.overflow_add-result
overflow_add-result c =
    let text = c.args.text.now in
    let start = c.cut_place-start.result in
    let rest : chars c.split_at_character.result.1.now ≡ drop start text = c.split_at_character.ensures.others ∙ ap (drop start) c.as_str.ensures.characters in
    record { fits = omega (arith, c.in_ok-place.ensures.within, ap length rest, length-drop start text, c.len-length.ensures, c.len-length.type_inv, c.cut_place-start.ensures.bound) }

pub returns-then-start-length : goal.returns-then-start-length
returns-then-start-length c =
    let place : c.cut_place-start.result ≡ cut_place (length c.args.text.now) c.args.index = search rules in
    inl (omega (arith, place, c.if-start-length.true, c.len-length.ensures), refl)

pub returns : goal.returns
returns c =
    let text = c.args.text.now in
    let part = c.args.part.now in
    let start = c.cut_place-start.result in
    let place : start ≡ cut_place (length text) c.args.index = search rules in
    let within : start < length text = search rules in
    let bytes : c.split_at_character.result.1.now ≡ encode_utf8_all (drop start text) = c.split_at_character.ensures.back ∙ ap (λ cs. encode_utf8_all (drop start cs)) c.as_str.ensures.characters in
    let found : IsFoundAt (encode_utf8_all (drop start text)) part (Some c.in_ok-place.place) = subst (λ b. IsFoundAt b part (Some c.in_ok-place.place)) bytes c.in_ok-place.ensures.found in
    subst (λ k. IsFoundFrom text part k (Some (start + c.in_ok-place.place))) place (inr (within, (Some c.in_ok-place.place, found, refl)))
