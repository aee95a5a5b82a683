use Rattle.std.proofs.Common.{◌≡◌, ◌≤◌, ◌+◌, ◌-◌, ◌*◌, length, map, take, drop}
use Rattle.rhai_value.specs.Frames.{unwound, sizes, AreAll}
use Rattle.rhai_value.specs.Hollow.{hollow_after, hollow_left, hollow_scanned, IsReady, IsWaiting}
use Rattle.rhai_value.specs.Tree.{nodes, nodes_trees, nodes_fields}
use Rattle.rhai_value.specs.Rows.{trees_of, fields_of}
use Rattle.rhai_value.specs.Scan.{scan}
use Rattle.rhai_value.specs.Lists.{chunk_rows, joined, rows, rows_of}
use Rattle.rhai_value.specs.RowWalks.{chunk_scanned, chunk_view, row_scanned, scanned}
use Rattle.rhai_value.proofs.Scans.{OnThroughItems}
use Rattle.rhai_value.proofs.walk.scan.+scan.Given as goal

abbrev pub decreases-scan_value : goal.decreases-scan_value
decreases-scan_value o l = 8 * nodes l.value.now + 3

abbrev pub decreases-scan_children : goal.decreases-scan_children
decreases-scan_children o l = 8 * nodes l.value.now + (2 - l.levels)

abbrev pub decreases-scan_items : goal.decreases-scan_items
decreases-scan_items o l = 8 * nodes_trees (trees_of l.items.now.items) + 4

abbrev pub decreases-scan_map : goal.decreases-scan_map
decreases-scan_map o l = 8 * nodes_fields (fields_of l.map.now) + 7

abbrev pub decreases-scan_parts : goal.decreases-scan_parts
decreases-scan_parts o l = 8 * nodes_fields (fields_of (rows_of l.parts.now)) + 6

abbrev pub decreases-scan_entries : goal.decreases-scan_entries
decreases-scan_entries o l = 8 * nodes_fields (fields_of (rows l.entries.now.items)) + 4

abbrev pub decreases-scan_chunks : goal.decreases-scan_chunks
decreases-scan_chunks o l = 8 * nodes_fields (fields_of (joined (map chunk_rows l.rest.now.items))) + 5

abbrev pub invariant-scan_items-loop-item : goal.invariant-scan_items-loop-item
invariant-scan_items-loop-item o l = record {
  on : OnThroughItems (scan o.V.Visitor.visited) l.fn.visitor l.visitor (trees_of l.fn.items.items) (take l.item-index l.item-items) (trees_of (drop l.item-index l.fn.items.items));
  rest : drop l.item-index l.item-items ≡ drop l.item-index l.fn.items.items;
  long : length l.item-items ≡ length l.fn.items.items;
  fewer : nodes_trees (trees_of (drop l.item-index l.item-items)) ≤ nodes_trees (trees_of l.fn.items.items);
}

abbrev pub invariant-scan_entries-loop-entry : goal.invariant-scan_entries-loop-entry
invariant-scan_entries-loop-entry o l = record {
  on : (l.visitor, rows (take l.entry-index l.entry-items)) ≡ scanned (row_scanned (scan o.V.Visitor.visited)) l.fn.visitor (rows (take l.entry-index l.fn.entries.items));
  rest : drop l.entry-index l.entry-items ≡ drop l.entry-index l.fn.entries.items;
  long : length l.entry-items ≡ length l.fn.entries.items;
  fewer : nodes_fields (fields_of (rows (drop l.entry-index l.entry-items))) ≤ nodes_fields (fields_of (rows l.fn.entries.items));
}

abbrev pub invariant-scan_chunks-loop-chunk : goal.invariant-scan_chunks-loop-chunk
invariant-scan_chunks-loop-chunk o l = record {
  on : (l.visitor, map chunk_view (take l.chunk-index l.chunk-items)) ≡ scanned (chunk_scanned (scan o.V.Visitor.visited)) l.fn.visitor (map chunk_view (take l.chunk-index l.fn.rest.items));
  rest : drop l.chunk-index l.chunk-items ≡ drop l.chunk-index l.fn.rest.items;
  long : length l.chunk-items ≡ length l.fn.rest.items;
  fewer : nodes_fields (fields_of (joined (map chunk_rows (drop l.chunk-index l.chunk-items)))) ≤ nodes_fields (fields_of (joined (map chunk_rows l.fn.rest.items)));
}

abbrev pub decreases-scan_far : goal.decreases-scan_far
decreases-scan_far o l = 8 * nodes l.value.now + 1

abbrev pub decreases-scan_hollow : goal.decreases-scan_hollow
decreases-scan_hollow o l = 8 * hollow_left l.first + 5

abbrev pub decreases-scan_child : goal.decreases-scan_child
decreases-scan_child o l = 8 * nodes l.child + 4

abbrev pub invariant-scan_hollow-loop-child : goal.invariant-scan_hollow-loop-child
invariant-scan_hollow-loop-child o l = record {
  comes : unwound (hollow_after (scan o.V.Visitor.visited)) l.frames.items (hollow_scanned (scan o.V.Visitor.visited) l.visitor l.top) ≡ hollow_scanned (scan o.V.Visitor.visited) l.fn.visitor l.fn.first;
  waiting : AreAll IsWaiting l.frames.items;
  ready : IsReady l.top;
  below : sizes hollow_left l.frames.items + 2 * hollow_left l.top ≤ 2 * hollow_left l.fn.first;
}

abbrev pub decreases-scan_hollow-loop-child : goal.decreases-scan_hollow-loop-child
decreases-scan_hollow-loop-child o l = sizes hollow_left l.frames.items + 2 * hollow_left l.top
