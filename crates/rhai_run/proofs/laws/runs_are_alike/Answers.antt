use Rattle.rhai_run.proofs.Runs.{runs_alike}
use Rattle.rhai_run.proofs.laws.runs_are_alike.Goals as goal

pub returns : goal.returns
returns c = runs_alike
