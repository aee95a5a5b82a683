use Rattle.std.proofs.Common.{◌≡◌, ◌≤◌, length}
use Rattle.rhai_value.specs.Levels.{items_copy, nodes_in}
use Rattle.rhai_value.proofs.walk.copy_far.items_step.Given as goal

abbrev pub invariant-loop-item : goal.invariant-loop-item
invariant-loop-item g l = record {
  same : items_copy g.M.Modes.after l.fn.items ≡ items_copy g.M.Modes.after l.items;
  fewer : nodes_in l.items.rest.now ≤ nodes_in l.fn.items.rest.now;
}

abbrev pub decreases-loop-item : goal.decreases-loop-item
decreases-loop-item g l = length l.items.rest.now
