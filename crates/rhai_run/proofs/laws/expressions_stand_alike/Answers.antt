use Rattle.rhai_run.proofs.Expressions.ProgramsAlike.{commands_alike}
use Rattle.rhai_run.proofs.laws.expressions_stand_alike.Goals as goal

pub returns : goal.returns
returns c = commands_alike
