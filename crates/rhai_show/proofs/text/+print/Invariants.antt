use Rattle.std.proofs.Common.{◌≡◌, ◌+◌, ◌*◌, ◌≤◌, ◌++◌, true, drop, string_bytes}
use Rattle.std.specs.Str.{chars}
use Rattle.rhai_value.specs.Tree.{Tree, nodes, nodes_trees, nodes_fields}
use Rattle.rhai_value.specs.Rows.{trees_of, fields_of}
use Rattle.rhai_show.specs.Text.{printed}
use Rattle.rhai_show.specs.Listed.{listed, row_printed}
use Rattle.rhai_show.proofs.Measures.{left_in}
use Rattle.rhai_show.proofs.text.+print.Given as goal

abbrev pub decreases-add_value : goal.decreases-add_value
decreases-add_value l = left_in l.store.now l.path.now + 4 * nodes l.value.now

abbrev pub decreases-add_held : goal.decreases-add_held
decreases-add_held l = left_in l.store.now l.path.now

abbrev pub decreases-add_array : goal.decreases-add_array
decreases-add_array l = left_in l.store.now l.path.now + (4 * nodes_trees (trees_of l.items.now) + 2)

abbrev pub decreases-add_items : goal.decreases-add_items
decreases-add_items l = left_in l.store.now l.path.now + (4 * nodes_trees (trees_of l.items.now) + 1)

abbrev pub decreases-add_map : goal.decreases-add_map
decreases-add_map l = left_in l.store.now l.path.now + (4 * nodes_fields (fields_of l.map.now) + 2)

abbrev pub decreases-add_fields : goal.decreases-add_fields
decreases-add_fields l = left_in l.store.now l.path.now + (4 * nodes_fields (fields_of l.map.now) + 1)

abbrev pub decreases-add_function : goal.decreases-add_function
decreases-add_function l = left_in l.store.now l.path.now + (4 * nodes_trees (trees_of l.function.now.1) + 3)

abbrev pub decreases-add_curried : goal.decreases-add_curried
decreases-add_curried l = left_in l.store.now l.path.now + (4 * nodes_trees (trees_of l.items.now) + 2)

-- the text so far and that of the remaining items are the whole
abbrev pub invariant-add_items-loop-item : goal.invariant-add_items-loop-item
invariant-add_items-loop-item l =
    let f = λ (t : Tree). printed l.store l.fn.path t l.form in
    record {
      text : chars (string_bytes l.out) ++ listed f l.is_first (drop l.item-index l.items) ≡ chars (string_bytes l.fn.out) ++ listed f l.are_first l.items;
      path : l.path ≡ l.fn.path;
    }

-- the same for the rows; these have no more nodes than the map
abbrev pub invariant-add_fields-loop-key : goal.invariant-add_fields-loop-key
invariant-add_fields-loop-key l =
    let f = row_printed l.form (λ t. printed l.store l.fn.path t l.form) in
    record {
      text : chars (string_bytes l.out) ++ listed f l.is_first l.key-iterator ≡ chars (string_bytes l.fn.out) ++ listed f true l.map;
      path : l.path ≡ l.fn.path;
      nodes_left : nodes_fields (fields_of l.key-iterator) ≤ nodes_fields (fields_of l.map);
    }
