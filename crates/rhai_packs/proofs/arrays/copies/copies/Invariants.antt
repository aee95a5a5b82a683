use Rattle.std.proofs.Common.{◌≡◌, ◌≤◌, length, map, take, vec_capacity}
use Rattle.rhai_value.specs.Tree.{copy}
use Rattle.rhai_packs.proofs.arrays.copies.copies.Given as goal

abbrev pub invariant-loop-item : goal.invariant-loop-item
invariant-loop-item l = record {
  room : length l.items ≤ vec_capacity l.made;
  copied : l.made.items ≡ map copy (take l.item-index l.items);
}
