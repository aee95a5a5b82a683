use Rattle.rhai_run.proofs.Fitting.{fits-empty_state}
use Rattle.rhai_run.proofs.laws.empty_state_fits.Goals as goal

pub returns : goal.returns
returns c = fits-empty_state
