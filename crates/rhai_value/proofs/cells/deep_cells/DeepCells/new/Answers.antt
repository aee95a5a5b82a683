use Rattle.std.proofs.Common.{refl}
use Rattle.rhai_value.proofs.cells.deep_cells.DeepCells.new.Goals as goal

pub invariant_of-result : goal.invariant_of-result
invariant_of-result c = rw c.new.ensures.items (record { same = λ q. rw c.new-2.ensures.empty refl; once = tt })
