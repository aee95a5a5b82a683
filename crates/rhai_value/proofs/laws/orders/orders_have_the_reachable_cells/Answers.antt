use Rattle.rhai_value.proofs.Ordered.{one_order, order_distinct, order_reached}
use Rattle.rhai_value.proofs.Rounds.{order_exists}
use Rattle.rhai_value.proofs.laws.orders.orders_have_the_reachable_cells.Goals as goal

pub returns-clause-distinct : goal.returns-clause-distinct
returns-clause-distinct c = order_distinct

pub returns-clause-each : goal.returns-clause-each
returns-clause-each c = order_reached

pub returns-clause-exists : goal.returns-clause-exists
returns-clause-exists c = order_exists

pub returns-clause-one : goal.returns-clause-one
returns-clause-one c = one_order
