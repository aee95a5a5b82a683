use Rattle.rhai_packs.proofs.Padding.{not_empty}
use Rattle.rhai_packs.proofs.texts.padding.pad_with_string.Goals as goal

pub returns-in-Err-clause-empty : goal.returns-in-Err-clause-empty
returns-in-Err-clause-empty c e = absurd (not_empty c.args.padding.now c.count-width.result c.count-width.ensures c.if-width-eq0.false e)
