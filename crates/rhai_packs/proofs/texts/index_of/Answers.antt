use Rattle.std.proofs.Common.{sym}
use Rattle.rhai_packs.proofs.texts.index_of.Goals as goal

pub returns : goal.returns
returns c = rw (sym c.as_str.ensures.bytes) c.place_of.ensures.found
