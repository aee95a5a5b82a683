use Rattle.rhai_ops.proofs.Agree.{agree}
use Rattle.rhai_ops.proofs.laws.assignments_agree.Goals as goal

pub returns-clause-content : goal.returns-clause-content
returns-clause-content c = agree
