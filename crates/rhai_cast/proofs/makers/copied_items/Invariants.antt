use Rattle.std.proofs.Common.{◌≡◌, ◌≤◌, length, map, take, vec_capacity}
use Rattle.rhai_value.specs.Tree.{copy}
use Rattle.rhai_cast.proofs.makers.copied_items.Given as goal

abbrev pub invariant-loop-item : goal.invariant-loop-item
invariant-loop-item g l = record {
  room : length l.items ≤ vec_capacity l.values;
  copied : l.values.items ≡ map (λ x. copy (g.T.Variant.tree x)) (take l.item-index l.items);
}
