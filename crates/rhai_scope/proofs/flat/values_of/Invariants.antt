use Rattle.std.proofs.Common.{◌≡◌, ◌++◌, map}
use Rattle.rhai_scope.specs.Items.{flat_left}
use Rattle.rhai_scope.proofs.flat.values_of.Given as goal

abbrev pub invariant-loop-item : goal.invariant-loop-item
invariant-loop-item l = l.values.items ++ map (λ x. x.2) (flat_left l.item-iterator) ≡ map (λ x. x.2) (flat_left l.fn.items)
