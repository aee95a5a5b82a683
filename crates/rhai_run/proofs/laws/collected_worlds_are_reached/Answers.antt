use Rattle.rhai_run.proofs.Collecting.{nothing_unreached}
use Rattle.rhai_run.proofs.laws.collected_worlds_are_reached.Goals as goal

pub returns : goal.returns
returns c = nothing_unreached
