use Rattle.std.proofs.Common.{◌≡◌, ◌+◌, ◌*◌, ◌≤◌, length, map, take, drop, vec_capacity}
use Rattle.rhai_value.specs.Rows.{copied_rows, trees_of, fields_of}
use Rattle.rhai_value.specs.Lists.{chunk_rows, joined, rows, rows_of}
use Rattle.rhai_value.specs.RowWalks.{chunk_view, copied_chunk}
use Rattle.rhai_value.specs.Tree.{copy_by, nodes, nodes_trees, nodes_fields}
use Rattle.rhai_value.specs.View.{tree_of}
use Rattle.rhai_value.proofs.walk.copy.+copy.Given as goal

abbrev pub invariant-copied_items-loop-item : goal.invariant-copied_items-loop-item
invariant-copied_items-loop-item g l = record {
  fewer : nodes_trees (trees_of (drop l.item-index l.items)) ≤ nodes_trees (trees_of l.items);
  room : length l.items ≤ vec_capacity l.copies;
  copied : l.copies.items ≡ map (copy_by g.M.Modes.after) (take l.item-index l.items);
}

abbrev pub invariant-copied_entries-loop-entry : goal.invariant-copied_entries-loop-entry
invariant-copied_entries-loop-entry g l = record {
  fewer : nodes_fields (fields_of (rows (drop l.entry-index l.entry-items))) ≤ nodes_fields (fields_of (rows l.entries.items));
  room : length l.entry-items ≤ vec_capacity l.copies;
  copied : rows l.copies.items ≡ copied_rows g.M.Modes.after (rows (take l.entry-index l.entry-items));
}

abbrev pub invariant-copied_chunks-loop-chunk : goal.invariant-copied_chunks-loop-chunk
invariant-copied_chunks-loop-chunk g l = record {
  fewer : nodes_fields (fields_of (joined (map chunk_rows (drop l.chunk-index l.chunk-items)))) ≤ nodes_fields (fields_of (joined (map chunk_rows l.rest.items)));
  room : length l.chunk-items ≤ vec_capacity l.copies;
  copied : map chunk_view l.copies.items ≡ map (copied_chunk g.M.Modes.after) (map chunk_view (take l.chunk-index l.chunk-items));
}

abbrev pub decreases-copied_parts : goal.decreases-copied_parts
decreases-copied_parts g l = 8 * nodes_fields (fields_of (rows_of l.parts.now)) + 4

abbrev pub decreases-copied_chunks : goal.decreases-copied_chunks
decreases-copied_chunks g l = 8 * nodes_fields (fields_of (joined (map chunk_rows l.rest.now.items))) + 3

abbrev pub decreases-copied : goal.decreases-copied
decreases-copied g l = 8 * nodes l.value.now + 1

abbrev pub decreases-copied_union : goal.decreases-copied_union
decreases-copied_union g l = 8 * nodes (tree_of l.union.now)

abbrev pub decreases-copied_items : goal.decreases-copied_items
decreases-copied_items g l = 8 * nodes_trees (trees_of l.items.now) + 2

abbrev pub decreases-copied_function : goal.decreases-copied_function
decreases-copied_function g l = 8 * nodes_trees (trees_of l.f.now.1) + 3

abbrev pub decreases-copied_map : goal.decreases-copied_map
decreases-copied_map g l = 8 * nodes_fields (fields_of l.map.now) + 5

abbrev pub decreases-copied_entries : goal.decreases-copied_entries
decreases-copied_entries g l = 8 * nodes_fields (fields_of (rows l.entries.now.items)) + 2
