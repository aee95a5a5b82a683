use Rattle.std.proofs.Common.{◌≡◌, ◌+◌, ◌*◌, ◌<◌, ◌≤◌, drop}
use Rattle.rhai_value.specs.Locked.{any_locked, is_locked, is_one_locked, is_field_locked}
use Rattle.rhai_value.specs.Rows.{trees_of, fields_of}
use Rattle.rhai_value.specs.Tree.{nodes, nodes_trees, nodes_fields}
use Rattle.rhai_value.proofs.walk.locked.+locks.Given as goal

abbrev pub invariant-locks_items-loop-item : goal.invariant-locks_items-loop-item
invariant-locks_items-loop-item l = record {
  fewer : nodes_trees (trees_of (drop l.item-index l.item-items)) ≤ nodes_trees (trees_of l.items.items);
  same : is_one_locked l.store (trees_of (drop l.item-index l.item-items)) ≡ is_one_locked l.store (trees_of l.items.items);
}

abbrev pub invariant-locks_map-loop-value : goal.invariant-locks_map-loop-value
invariant-locks_map-loop-value l = record {
  fewer : nodes_fields (fields_of l.value-iterator) ≤ nodes_fields (fields_of l.map);
  same : is_field_locked l.store (fields_of l.value-iterator) ≡ is_field_locked l.store (fields_of l.map);
}

abbrev pub decreases-locks : goal.decreases-locks
decreases-locks l = 4 * nodes l.value.now + 1

abbrev pub decreases-locks_items : goal.decreases-locks_items
decreases-locks_items l = 4 * nodes_trees (trees_of l.items.now.items) + 2

abbrev pub decreases-locks_map : goal.decreases-locks_map
decreases-locks_map l = 4 * nodes_fields (fields_of l.map.now) + 3

abbrev pub decreases-locks_far : goal.decreases-locks_far
decreases-locks_far l = 4 * nodes l.value.now

abbrev pub invariant-locks_far-loop-found : goal.invariant-locks_far-loop-found
invariant-locks_far-loop-found l = record {
  same : any_locked l.store l.visits ≡ is_locked l.store l.value;
  fewer : nodes_trees (trees_of l.visits) < nodes l.value;
}

abbrev pub decreases-locks_far-loop-found : goal.decreases-locks_far-loop-found
decreases-locks_far-loop-found l = nodes_trees (trees_of l.visits)

abbrev pub decreases-is_locked_or_entered : goal.decreases-is_locked_or_entered
decreases-is_locked_or_entered l = 4 * nodes l.found.now + 2
