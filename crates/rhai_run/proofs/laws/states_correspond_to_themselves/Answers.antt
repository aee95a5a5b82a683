use Rattle.rhai_run.proofs.Fitting.{fits_closed}
use Rattle.rhai_run.proofs.laws.states_correspond_to_themselves.Goals as goal

pub returns : goal.returns
returns c w h = record { first = h; second = h; same = fits_closed w h }
