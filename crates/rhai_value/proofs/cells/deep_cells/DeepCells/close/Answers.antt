use Rattle.rhai_value.proofs.Paths.{opened-less}
use Rattle.rhai_value.proofs.cells.deep_cells.DeepCells.close.Goals as goal

pub invariant_of-self : goal.invariant_of-self
invariant_of-self c = opened-less c.self.inside.order.items c.pop.new.self.items c.in-Some.cell _ _ c.self.invariant c.in-Some.ensures.items c.remove.ensures.updates
