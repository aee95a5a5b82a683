use Rattle.rhai_value.proofs.Firsts.{firsts_are}
use Rattle.rhai_value.proofs.laws.orders.first_occurrences_are_distinct.Goals as goal

pub returns-clause-each : goal.returns-clause-each
returns-clause-each c = firsts_are
