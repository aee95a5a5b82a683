use Rattle.rhai_run.proofs.Collecting.{again_stays}
use Rattle.rhai_run.proofs.laws.collecting_again_changes_nothing.Goals as goal

pub returns : goal.returns
returns c = again_stays
