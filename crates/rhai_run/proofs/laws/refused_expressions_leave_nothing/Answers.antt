use Rattle.rhai_run.proofs.Expressions.Left.{nothing_left}
use Rattle.rhai_run.proofs.laws.refused_expressions_leave_nothing.Goals as goal

pub returns-clause-hand : goal.returns-clause-hand
returns-clause-hand c w e why f = (nothing_left w e why f).0

pub returns-clause-scope : goal.returns-clause-scope
returns-clause-scope c w e why f = (nothing_left w e why f).1
