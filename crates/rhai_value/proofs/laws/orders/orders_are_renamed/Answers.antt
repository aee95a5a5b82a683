use Rattle.rhai_value.proofs.Ordered.{orders_paired}
use Rattle.rhai_value.proofs.laws.orders.orders_are_renamed.Goals as goal

pub returns : goal.returns
returns c = orders_paired
