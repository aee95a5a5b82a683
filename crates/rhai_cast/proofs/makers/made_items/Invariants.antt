use Rattle.std.proofs.Common.{◌≡◌, ◌≤◌, ◌+◌, ◌++◌, length, map, vec_len, vec_capacity}
use Rattle.std.specs.Vec.Iter.{into_iter_items}
use Rattle.rhai_cast.proofs.makers.made_items.Given as goal

abbrev pub invariant-loop-item : goal.invariant-loop-item
invariant-loop-item g l = record {
  room : vec_len l.values + length (into_iter_items l.item-iterator) ≤ vec_capacity l.values;
  made : l.values.items ++ map g.T.Variant.tree (into_iter_items l.item-iterator) ≡ map g.T.Variant.tree l.fn.items.items;
}
