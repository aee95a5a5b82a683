use Rattle.std.proofs.Common.{◌≡◌, ◌+◌, ◌≤◌, ◌++◌, length, vec_len, vec_capacity}
use Rattle.std.specs.Vec.Iter.{into_iter_items}
use Rattle.rhai_run.proofs.vectors.append_in_room.Given as goal

abbrev pub invariant-loop-value : goal.invariant-loop-value
invariant-loop-value l =
    let left = into_iter_items l.value-iterator in
    record {
      room : vec_len l.values + length left ≤ vec_capacity l.values;
      items : l.values.items ++ left ≡ l.fn.values.items ++ l.fn.last.items;
    }
