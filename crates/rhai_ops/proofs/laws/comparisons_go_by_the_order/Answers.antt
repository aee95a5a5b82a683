use Rattle.rhai_ops.proofs.Orders.{compared_by_order}
use Rattle.rhai_ops.proofs.laws.comparisons_go_by_the_order.Goals as goal

pub returns : goal.returns
returns c = compared_by_order
