use Rattle.std.proofs.Common.{◌≡◌, ◌++◌, map, option_map}
use Rattle.std.specs.Vec.Iter.{into_iter_items}
use Rattle.rhai_value.specs.Rows.{trees_of}
use Rattle.rhai_cast.specs.Arrays.{read_all, first_unread}
use Rattle.rhai_cast.proofs.arrays.read_each.Given as goal

-- the items read so far, and those read from the rest, are those read from all
abbrev pub invariant-loop-item : goal.invariant-loop-item
invariant-loop-item g l =
    let k = g.T.Variant.KIND in
    let all = trees_of l.fn.items.items in
    let rest = trees_of (into_iter_items l.item-iterator) in
    record {
      read : option_map (λ ys. map g.T.Variant.tree l.xs.items ++ ys) (read_all k l.store rest) ≡ read_all k l.store all;
      unread : first_unread k l.store rest ≡ first_unread k l.store all;
    }
