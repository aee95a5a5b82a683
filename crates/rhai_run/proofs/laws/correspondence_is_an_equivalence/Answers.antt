use Rattle.rhai_run.proofs.Equivalences.{composed, symmetric}
use Rattle.rhai_run.proofs.laws.correspondence_is_an_equivalence.Goals as goal

pub returns-clause-symmetric : goal.returns-clause-symmetric
returns-clause-symmetric c = symmetric

pub returns-clause-composes : goal.returns-clause-composes
returns-clause-composes c = composed
