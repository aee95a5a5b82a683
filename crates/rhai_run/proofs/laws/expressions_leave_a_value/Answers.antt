use Rattle.rhai_run.proofs.Expressions.Left.{value_left, entries_left}
use Rattle.rhai_run.proofs.laws.expressions_leave_a_value.Goals as goal

pub returns-clause-hand : goal.returns-clause-hand
returns-clause-hand c = value_left

pub returns-clause-scope : goal.returns-clause-scope
returns-clause-scope c = entries_left
