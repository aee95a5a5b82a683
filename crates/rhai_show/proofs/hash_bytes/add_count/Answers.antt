use Rattle.rhai_show.proofs.Pushed.{added_as}
use Rattle.rhai_show.specs.HashBytes.{count_bytes}
use Rattle.rhai_show.proofs.hash_bytes.add_count.Goals as goal

pub returns-clause-bytes : goal.returns-clause-bytes
unfolding count_bytes
returns-clause-bytes c = added_as c.add_bytes.result _ _ _ _ c.to_le_bytes.ensures c.add_bytes.ensures
