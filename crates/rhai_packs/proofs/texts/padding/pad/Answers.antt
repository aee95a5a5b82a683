use Rattle.std.proofs.Common.{◌≡◌, ◌++◌, is_ok, if◌then◌else◌, length, ap, subst, ◌∙◌, rules}
use Rattle.std.specs.Str.{chars, encode_utf8_all}
use Rattle.rhai_text.proofs.ForCallers.{chars-one}
use Rattle.rhai_text.specs.declared.error.SizeKind.TheVariants as size
use Rattle.rhai_packs.specs.Padding.{cycled}
use Rattle.rhai_packs.specs.Places.{missing}
use Rattle.rhai_packs.specs.Sizes.{IsLimited, may_grow}
use Rattle.rhai_packs.proofs.Padding.{cycled-one}
use Rattle.rhai_packs.proofs.texts.padding.pad.Goals as goal

pub returns-clause-answer : goal.returns-clause-answer
returns-clause-answer c =
    let m = missing (length c.args.text.now) c.args.count in
    let one = ap (cycled m) (chars-one c.encode_utf8.result.now c.args.character c.encode_utf8.utf8 c.encode_utf8.ensures.value) ∙ cycled-one m c.args.character in
    let given : IsLimited size.Text (may_grow c.args.limits.now.text (length (encode_utf8_all c.args.text.now)) (length (encode_utf8_all (cycled m (chars c.encode_utf8.result.now))))) c.pad_with_string.result = search rules in
    subst (λ cs. IsLimited size.Text (may_grow c.args.limits.now.text (length (encode_utf8_all c.args.text.now)) (length (encode_utf8_all cs))) c.pad_with_string.result) one given

pub returns-clause-text : goal.returns-clause-text
returns-clause-text c =
    let m = missing (length c.args.text.now) c.args.count in
    let one = ap (cycled m) (chars-one c.encode_utf8.result.now c.args.character c.encode_utf8.utf8 c.encode_utf8.ensures.value) ∙ cycled-one m c.args.character in
    let given : c.pad_with_string.new.text ≡ (if is_ok c.pad_with_string.result then c.args.text.now ++ cycled m (chars c.encode_utf8.result.now) else c.args.text.now) = search rules in
    given ∙ ap (λ cs. if is_ok c.pad_with_string.result then c.args.text.now ++ cs else c.args.text.now) one
