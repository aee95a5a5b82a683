use Rattle.std.proofs.Common.{◌≡◌, ◌-◌, ◌≤◌, length, drop}
use Rattle.rhai_value.specs.Coats.{painted_from}
use Rattle.rhai_value.specs.Rows.{trees_of}
use Rattle.rhai_value.specs.Tree.{nodes_trees}
use Rattle.rhai_value.proofs.walk.paint_far.items_coat_step.Given as goal

abbrev pub invariant-loop-next : goal.invariant-loop-next
invariant-loop-next l = record {
  within : l.next ≤ length l.items.items;
  painted : painted_from l.mode l.next l.items.items ≡ painted_from l.mode l.fn.next l.fn.items.items;
  fewer : nodes_trees (trees_of (drop l.next l.items.items)) ≤ nodes_trees (trees_of (drop l.fn.next l.fn.items.items));
}

abbrev pub decreases-loop-next : goal.decreases-loop-next
decreases-loop-next l = length l.items.items - l.next
