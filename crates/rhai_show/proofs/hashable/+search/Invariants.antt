use Rattle.std.proofs.Common.{◌≡◌, ◌+◌, ◌*◌, ◌≤◌, ◌∷◌, drop, map, reverse}
use Rattle.rhai_value.specs.Rows.{trees_of, fields_of}
use Rattle.rhai_show.specs.Clean.{values_in, FieldsHaveNoHolders}
use Rattle.rhai_show.specs.Rests.{items_keyed, rows_keyed, rest_weight, level_of}
use Rattle.rhai_show.specs.Weights.{weight}
use Rattle.rhai_show.proofs.CleanRests.{Searching}
use Rattle.rhai_show.proofs.Rests.{weight_left}
use Rattle.rhai_show.proofs.Searches.{SoFar}
use Rattle.rhai_show.proofs.hashable.+search.Given as goal

abbrev pub decreases-is_clean : goal.decreases-is_clean
decreases-is_clean l = 2 * weight l.store.now l.path.now l.value.now + 1

abbrev pub decreases-is_held_clean : goal.decreases-is_held_clean
decreases-is_held_clean l = 2 * weight l.store.now l.path.now l.value.now

abbrev pub decreases-is_far_clean : goal.decreases-is_far_clean
decreases-is_far_clean l = 2 * weight l.store.now l.path.now l.value.now

abbrev pub decreases-are_clean : goal.decreases-are_clean
decreases-are_clean l = 2 * rest_weight (weight l.store.now l.path.now) (items_keyed l.items.now)

abbrev pub decreases-is_map_clean : goal.decreases-is_map_clean
decreases-is_map_clean l = 2 * rest_weight (weight l.store.now l.path.now) (rows_keyed l.map.now)

abbrev pub invariant-is_far_clean-loop-child : goal.invariant-is_far_clean-loop-child
invariant-is_far_clean-loop-child l = Searching l.store l.value l.fn.path l.fn.seen l.path l.seen (map level_of (l.top ∷ reverse l.frames.items))

abbrev pub decreases-is_far_clean-loop-child : goal.decreases-is_far_clean-loop-child
decreases-is_far_clean-loop-child l = weight_left l.store l.path (map level_of (l.top ∷ reverse l.frames.items))

abbrev pub invariant-are_clean-loop-item : goal.invariant-are_clean-loop-item
invariant-are_clean-loop-item l = record {
  path : l.path ≡ l.fn.path;
  so_far : SoFar l.store l.fn.path l.fn.seen l.seen (trees_of (drop l.item-index l.items)) (trees_of l.items);
}

abbrev pub invariant-is_map_clean-loop-value : goal.invariant-is_map_clean-loop-value
invariant-is_map_clean-loop-value l = record {
  path : l.path ≡ l.fn.path;
  so_far : SoFar l.store l.fn.path l.fn.seen l.seen (values_in (fields_of l.value-iterator)) (values_in (fields_of l.map));
  left : rest_weight (weight l.store l.fn.path) (rows_keyed l.value-iterator) ≤ rest_weight (weight l.store l.fn.path) (rows_keyed l.map);
  free_left : FieldsHaveNoHolders (fields_of l.map) → FieldsHaveNoHolders (fields_of l.value-iterator);
}
