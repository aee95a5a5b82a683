use Rattle.rhai_run.proofs.Collecting.{keeps_reached, least_kept}
use Rattle.rhai_run.proofs.laws.reached_cells_are_kept.Goals as goal

pub returns-clause-kept : goal.returns-clause-kept
returns-clause-kept c = keeps_reached

pub returns-clause-least : goal.returns-clause-least
returns-clause-least c = least_kept
