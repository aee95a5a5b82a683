use Rattle.rhai_run.proofs.Fitting.{fits-step}
use Rattle.rhai_run.proofs.laws.steps_fit.Goals as goal

pub returns : goal.returns
returns c = fits-step
