use Rattle.std.proofs.Common.{◌≡◌, ◌+◌, ◌*◌, ◌≤◌, ◌++◌, true, drop, length, ◌∷◌, []}
use Rattle.std.specs.List.{All, flat_map}
use Rattle.rhai_value.specs.Tree.{nodes, nodes_trees, nodes_fields}
use Rattle.rhai_value.specs.Rows.{trees_of, fields_of}
use Rattle.rhai_show.specs.Clean.{are_plain, values_in}
use Rattle.rhai_show.specs.HashBytes.{count_bytes, hash_bytes}
use Rattle.rhai_show.specs.HashRows.{row_bytes}
use Rattle.rhai_show.specs.InRange.{IsPlainInRange, IsRowInRange}
use Rattle.rhai_show.proofs.Measures.{left_in}
use Rattle.rhai_show.proofs.hash.+write.Given as goal

abbrev pub decreases-add_value : goal.decreases-add_value
decreases-add_value l = left_in l.store.now l.path.now + 4 * nodes l.value.now

abbrev pub decreases-add_held : goal.decreases-add_held
decreases-add_held l = left_in l.store.now l.path.now

abbrev pub decreases-add_items : goal.decreases-add_items
decreases-add_items l = left_in l.store.now l.path.now + (4 * nodes_trees (trees_of l.items.now) + 1)

abbrev pub decreases-add_map : goal.decreases-add_map
decreases-add_map l = left_in l.store.now l.path.now + (4 * nodes_fields (fields_of l.map.now) + 1)

-- the bytes so far and those of the remaining items are the whole
abbrev pub invariant-add_items-loop-item : goal.invariant-add_items-loop-item
invariant-add_items-loop-item l = record {
  bytes : l.out.items ++ flat_map (hash_bytes l.store l.fn.path) (drop l.item-index l.items) ≡ (l.fn.out.items ++ count_bytes (length l.items)) ++ flat_map (hash_bytes l.store l.fn.path) l.items;
  range : All (IsPlainInRange l.store l.fn.path) (drop l.item-index l.items) → All (IsPlainInRange l.store l.fn.path) l.items;
  path : l.path ≡ l.fn.path;
  plain : are_plain l.store l.fn.path (trees_of (drop l.item-index l.items)) ≡ true;
}

-- the same for the rows; these have no more nodes than the map
abbrev pub invariant-add_map-loop-key : goal.invariant-add_map-loop-key
invariant-add_map-loop-key l = record {
  bytes : l.out.items ++ flat_map (row_bytes (hash_bytes l.store l.fn.path)) l.key-iterator ≡ ((l.fn.out.items ++ 7 ∷ []) ++ count_bytes (length l.map)) ++ flat_map (row_bytes (hash_bytes l.store l.fn.path)) l.map;
  range : All (IsRowInRange l.store l.fn.path) l.key-iterator → All (IsRowInRange l.store l.fn.path) l.map;
  path : l.path ≡ l.fn.path;
  plain : are_plain l.store l.fn.path (values_in (fields_of l.key-iterator)) ≡ true;
  nodes_left : nodes_fields (fields_of l.key-iterator) ≤ nodes_fields (fields_of l.map);
}
