use Rattle.std.proofs.Common.{◌++◌, ◌+◌, ◌*◌, ◌/◌, length, ap, subst, sym, ◌∙◌}
use Rattle.std.specs.Str.{encode_utf8_all}
use Rattle.rhai_text.specs.declared.error.SizeKind.TheVariants as size
use Rattle.rhai_packs.specs.Sizes.{IsRefusal, may_grow}
use Rattle.rhai_packs.proofs.Padding.{padding_spelled, padding_bytes}
use Rattle.rhai_packs.proofs.texts.padding.extended.Goals as goal

pub returns-in-Ok-clause-ok : goal.returns-in-Ok-clause-ok
returns-in-Ok-clause-ok c =
    c.in-Ok.ensures
    ∙ ap (λ cs. c.args.text.now ++ cs) (padding_spelled c.args.padding.now c.first_characters-part.result.now c.args.more c.args.width c.utf8.padding c.first_characters-part.utf8 c.requires.long c.requires.some c.first_characters-part.ensures)

pub returns-in-Err-clause-answer : goal.returns-in-Err-clause-answer
returns-in-Err-clause-answer c =
    let n = (c.args.more / c.args.width) * length c.args.padding.now + length c.first_characters-part.result.now in
    let bytes = padding_bytes c.args.padding.now c.first_characters-part.result.now c.args.more c.args.width c.utf8.padding c.first_characters-part.utf8 c.requires.long c.requires.some c.first_characters-part.ensures in
    subst (λ k. IsRefusal size.Text (may_grow c.args.limits.now.text (length (encode_utf8_all c.args.text.now)) k) c.in-Err.refusal) bytes
    (subst (λ l. IsRefusal size.Text (may_grow c.args.limits.now.text l n) c.in-Err.refusal) c.len.ensures (c.in-Err.ensures n c.bytes_of.ensures))

pub returns-in-Ok-clause-answer : goal.returns-in-Ok-clause-answer
returns-in-Ok-clause-answer c =
    let n = (c.args.more / c.args.width) * length c.args.padding.now + length c.first_characters-part.result.now in
    let bytes = padding_bytes c.args.padding.now c.first_characters-part.result.now c.args.more c.args.width c.utf8.padding c.first_characters-part.utf8 c.requires.long c.requires.some c.first_characters-part.ensures in
    ap (λ k. may_grow c.args.limits.now.text (length (encode_utf8_all c.args.text.now)) k) (sym bytes)
    ∙ ap (λ l. may_grow c.args.limits.now.text l n) (sym c.len.ensures)
    ∙ c.in_default.ensures n c.bytes_of.ensures

pub returns-in-Err-padded-clause-answer : goal.returns-in-Err-padded-clause-answer
returns-in-Err-padded-clause-answer c =
    let n = (c.args.more / c.args.width) * length c.args.padding.now + length c.first_characters-part.result.now in
    let bytes = padding_bytes c.args.padding.now c.first_characters-part.result.now c.args.more c.args.width c.utf8.padding c.first_characters-part.utf8 c.requires.long c.requires.some c.first_characters-part.ensures in
    ap (λ k. may_grow c.args.limits.now.text (length (encode_utf8_all c.args.text.now)) k) (sym bytes)
    ∙ ap (λ l. may_grow c.args.limits.now.text l n) (sym c.len.ensures)
    ∙ c.in_default.ensures n c.bytes_of.ensures
