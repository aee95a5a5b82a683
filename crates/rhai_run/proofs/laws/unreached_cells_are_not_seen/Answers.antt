use Rattle.rhai_run.proofs.Fitting.{alike_with_one_more}
use Rattle.rhai_run.proofs.laws.unreached_cells_are_not_seen.Goals as goal

pub returns : goal.returns
returns c w t h k = record { first = h; second = k; same = alike_with_one_more w t h }
