use Rattle.std.proofs.Common.{◌≡◌, ◌++◌, length, take, drop, rules, arith, sym, ap, ◌∙◌, length-append}
use Rattle.std.proofs.lemmas.List.{take-append-drop}
use Rattle.std.proofs.lemmas.Str.{IsUtf8-take, chars-append}
use Rattle.std.specs.Str.{chars, IsCharBoundary}
use Rattle.rhai_packs.proofs.texts.place_of.Goals as goal

pub returns-clause-within : goal.returns-clause-within
returns-clause-within c =
    let text = c.args.text.now in
    let i = c.in_ok-place.place in
    let cut : IsCharBoundary text i = search rules in
    let whole : chars text ≡ chars (take i text) ++ chars (drop i text) =
    ap chars (sym (take-append-drop i text)) ∙ chars-append (take i text) (drop i text) (IsUtf8-take text i c.utf8.text cut) in
    let counted : c.count.result ≡ length (chars (take i text)) = search rules in
    omega (arith, counted, ap length whole, length-append (chars (take i text)) (chars (drop i text)))
