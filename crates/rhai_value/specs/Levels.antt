-- Frames of a copy.
use Rattle.std.specs.Prelude.{◌≡◌, ℕ, List, [], ◌∷◌, ◌++◌, map}
use Rattle.std.specs.BTreeMap.{insert_entry}
use Rattle.rhai_value.specs.declared.value.access_mode.AccessMode.{AccessMode}
use Rattle.rhai_value.specs.declared.walk.level.Level.{Level}
use Rattle.rhai_value.specs.declared.walk.level.Level.TheVariants.{Array, Function, Fields}
use Rattle.rhai_value.specs.declared.walk.level.CopiedItems.{CopiedItems}
use Rattle.rhai_value.specs.declared.walk.level.CopiedFields.{CopiedFields}
use Rattle.rhai_value.specs.Rows.{Rows, bytes_cmp, trees_of, fields_of}
use Rattle.rhai_value.specs.Tree.{Tree, node, branch, fields, array, function, copy_by, nodes_trees, nodes_fields}

-- these rows after inserting the copies of those by f, one after another
abbrev pub rows_in_turn : (AccessMode → AccessMode) → Rows → Rows → Rows
rows_in_turn f done [] = done
rows_in_turn f done (r ∷ rs) = rows_in_turn f (insert_entry bytes_cmp done r.0 (copy_by f r.1)) rs

abbrev pub nodes_in : List Tree → ℕ
nodes_in ts = nodes_trees (trees_of ts)

abbrev pub nodes_of_rows : Rows → ℕ
nodes_of_rows rs = nodes_fields (fields_of rs)

-- the copies of items, after the remaining ones are copied
abbrev pub items_copy : (AccessMode → AccessMode) → CopiedItems → List Tree
items_copy f c = c.done.items ++ map (copy_by f) c.rest.now

abbrev pub fields_copy : (AccessMode → AccessMode) → CopiedFields → Rows
fields_copy f c = rows_in_turn f c.done c.rest

-- the same with x as the copy of the item in progress
abbrev pub items_after : (AccessMode → AccessMode) → CopiedItems → Tree → List Tree
items_after f c x = c.done.items ++ x ∷ map (copy_by f) c.rest.now

abbrev pub fields_after : (AccessMode → AccessMode) → CopiedFields → Tree → Rows
fields_after f c x = rows_in_turn f (insert_entry bytes_cmp c.done c.key.now x) c.rest

-- the copy of a frame's value
abbrev pub level_copy : (AccessMode → AccessMode) → Level → Tree
level_copy f (Array g m c) = node (branch array (trees_of (items_copy f c))) g m
level_copy f (Function g m n c) = node (branch (function n) (trees_of (items_copy f c))) g m
level_copy f (Fields g m c) = node (fields (fields_of (fields_copy f c))) g m

-- the same with x as the copy of the child in progress
abbrev pub level_after : (AccessMode → AccessMode) → Level → Tree → Tree
level_after f (Array g m c) x = node (branch array (trees_of (items_after f c x))) g m
level_after f (Function g m n c) x = node (branch (function n) (trees_of (items_after f c x))) g m
level_after f (Fields g m c) x = node (fields (fields_of (fields_after f c x))) g m

-- the number of remaining nodes
abbrev pub level_left : Level → ℕ
level_left (Array g m c) = nodes_in c.rest.now
level_left (Function g m n c) = nodes_in c.rest.now
level_left (Fields g m c) = nodes_of_rows c.rest

abbrev pub HasNoneLeft : Level → Type 0
HasNoneLeft (Array g m c) = c.rest.now ≡ []
HasNoneLeft (Function g m n c) = c.rest.now ≡ []
HasNoneLeft (Fields g m c) = c.rest ≡ []
