use Rattle.std.proofs.Common.{string_bytes, sym, rules}
use Rattle.rhai_packs.proofs.texts.remove.Goals as goal

pub returns-clause-ok : goal.returns-clause-ok
returns-clause-ok c = (string_bytes c.in_ok-made.made, rw (sym c.as_str.ensures.bytes) c.in_ok-made.ensures.ok, search rules)
