use Rattle.std.proofs.Common.{◌≡◌, ◌≤◌, replicate, vec_capacity}
use Rattle.rhai_value.specs.Tree.{copy}
use Rattle.rhai_packs.proofs.arrays.copies.repeated.Given as goal

abbrev pub invariant-loop : goal.invariant-loop
invariant-loop l = record {
  room : l.count ≤ vec_capacity l.made;
  copied : l.made.items ≡ replicate l.counter (copy l.item);
}
