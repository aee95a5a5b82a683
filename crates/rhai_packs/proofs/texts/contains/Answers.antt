use Rattle.std.proofs.Common.{sym}
use Rattle.rhai_packs.proofs.Found.{found}
use Rattle.rhai_packs.proofs.texts.contains.Goals as goal

pub returns : goal.returns
returns c = rw (sym c.as_str.ensures.bytes) (found c.contains.result c.as_str.result.now c.args.part.now c.contains.ensures.cases)
