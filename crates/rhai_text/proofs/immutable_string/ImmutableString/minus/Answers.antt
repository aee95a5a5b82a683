use Rattle.std.proofs.Common.{◌≡◌, ◌<◌, [], IfOk, length, string_bytes, sym, ◌∙◌, ap, subst, arith}
use Rattle.std.proofs.lemmas.Bool.{eqb-true}
use Rattle.std.proofs.lemmas.List.{nil_from_length}
use Rattle.std.proofs.lemmas.Str.{chars-nil, chars_from_encodes, IsUtf8-string_bytes}
use Rattle.std.specs.Str.{chars}
use Rattle.rhai_text.specs.Text.{minus}
use Rattle.rhai_text.proofs.Replaced.{ReplacesMatches-minus}
use Rattle.rhai_text.proofs.immutable_string.ImmutableString.minus.Goals as goal

pub returns-then-is_empty : goal.returns-then-is_empty
returns-then-is_empty c =
    let none : c.args.pattern.now ≡ [] = nil_from_length c.args.pattern.now (eqb-true (length c.args.pattern.now) 0 (sym c.is_empty.ensures ∙ c.if-is_empty.true)) in
    subst (λ cs. IfOk c.copy.result (λ t. t ≡ minus c.args.self.now cs)) (sym (ap chars none ∙ chars-nil)) c.copy.ensures

pub returns : goal.returns
returns c =
    let some : 0 < length c.args.pattern.now = grind (arith, c.is_empty.ensures, c.if-is_empty.false) in
    let text = c.in_ok-text.text in
    let pattern = c.args.pattern in
    let bytes = ReplacesMatches-minus c.in_ok-text.ensures.ok.0 pattern c.as_str.result.now (string_bytes text) c.utf8.pattern some c.as_str.utf8 c.in_ok-text.ensures.ok.1 in
    subst (λ cs. IfOk c.from_string.result (λ t. t ≡ cs))
    (sym (chars_from_encodes (minus (chars c.as_str.result.now) (chars pattern.now)) (string_bytes text) (IsUtf8-string_bytes text) (sym bytes))
    ∙ ap (λ cs. minus cs (chars pattern.now)) c.as_str.ensures.characters)
    c.from_string.ensures
