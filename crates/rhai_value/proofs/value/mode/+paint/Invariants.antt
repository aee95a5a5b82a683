use Rattle.std.proofs.Common.{◌≡◌, ◌≤◌, ◌+◌, ◌*◌, ◌++◌, length, map, take, drop}
use Rattle.rhai_value.specs.Lists.{chunk_rows, joined, rows, rows_of}
use Rattle.rhai_value.specs.RowWalks.{chunk_view, painted_chunk, painted_rows}
use Rattle.rhai_value.specs.Rows.{trees_of, fields_of}
use Rattle.rhai_value.specs.Tree.{paint, nodes, nodes_trees, nodes_fields}
use Rattle.rhai_value.proofs.value.mode.+paint.Given as goal

abbrev pub invariant-paint_items-loop-item : goal.invariant-paint_items-loop-item
invariant-paint_items-loop-item l = record {
  fewer : nodes_trees (trees_of (drop l.item-index l.item-items)) ≤ nodes_trees (trees_of l.fn.items.items);
  painted : l.item-items ≡ map (paint l.mode) (take l.item-index l.fn.items.items) ++ drop l.item-index l.fn.items.items;
}

abbrev pub invariant-paint_entries-loop-entry : goal.invariant-paint_entries-loop-entry
invariant-paint_entries-loop-entry l = record {
  on : rows (take l.entry-index l.entry-items) ≡ painted_rows l.mode (rows (take l.entry-index l.fn.entries.items));
  rest : drop l.entry-index l.entry-items ≡ drop l.entry-index l.fn.entries.items;
  long : length l.entry-items ≡ length l.fn.entries.items;
  fewer : nodes_fields (fields_of (rows (drop l.entry-index l.entry-items))) ≤ nodes_fields (fields_of (rows l.fn.entries.items));
}

abbrev pub invariant-paint_chunks-loop-chunk : goal.invariant-paint_chunks-loop-chunk
invariant-paint_chunks-loop-chunk l = record {
  on : map chunk_view (take l.chunk-index l.chunk-items) ≡ map (painted_chunk l.mode) (map chunk_view (take l.chunk-index l.fn.rest.items));
  rest : drop l.chunk-index l.chunk-items ≡ drop l.chunk-index l.fn.rest.items;
  long : length l.chunk-items ≡ length l.fn.rest.items;
  fewer : nodes_fields (fields_of (joined (map chunk_rows (drop l.chunk-index l.chunk-items)))) ≤ nodes_fields (fields_of (joined (map chunk_rows l.fn.rest.items)));
}

abbrev pub decreases-paint_value : goal.decreases-paint_value
decreases-paint_value l = 6 * nodes l.value.now

abbrev pub decreases-paint_items : goal.decreases-paint_items
decreases-paint_items l = 6 * nodes_trees (trees_of l.items.now.items) + 1

abbrev pub decreases-paint_map : goal.decreases-paint_map
decreases-paint_map l = 6 * nodes_fields (fields_of l.map.now) + 4

abbrev pub decreases-paint_parts : goal.decreases-paint_parts
decreases-paint_parts l = 6 * nodes_fields (fields_of (rows_of l.parts.now)) + 3

abbrev pub decreases-paint_entries : goal.decreases-paint_entries
decreases-paint_entries l = 6 * nodes_fields (fields_of (rows l.entries.now.items)) + 1

abbrev pub decreases-paint_chunks : goal.decreases-paint_chunks
decreases-paint_chunks l = 6 * nodes_fields (fields_of (joined (map chunk_rows l.rest.now.items))) + 2
