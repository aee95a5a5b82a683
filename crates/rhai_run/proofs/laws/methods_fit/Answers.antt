use Rattle.rhai_run.proofs.Fitting.{fits-done}
use Rattle.rhai_run.proofs.laws.methods_fit.Goals as goal

pub returns : goal.returns
returns c = fits-done
