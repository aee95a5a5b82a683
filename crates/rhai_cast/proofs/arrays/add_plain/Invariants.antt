use Rattle.std.proofs.Common.{◌≡◌, ◌+◌, ◌≤◌, ◌++◌, List, length, map, option_map, drop, vec_len, vec_capacity}
use Rattle.rhai_value.specs.declared.cells.store.Cell.{Cell}
use Rattle.rhai_value.specs.Rows.{trees_of}
use Rattle.rhai_cast.specs.Arrays.{read_all}
use Rattle.rhai_cast.proofs.arrays.add_plain.Given as goal

abbrev pub invariant-loop-item : goal.invariant-loop-item
invariant-loop-item g l =
    let k = g.T.Variant.KIND in
    record {
      room : vec_len l.xs + length (drop l.item-index l.item-items) ≤ vec_capacity l.xs;
      read : (s : List Cell) → option_map (λ ys. map g.T.Variant.tree l.xs.items ++ ys) (read_all k s (trees_of (drop l.item-index l.item-items))) ≡ read_all k s (trees_of l.item-items);
    }
