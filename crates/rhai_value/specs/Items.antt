-- The contents of an array and of a map: a list of items, and a value at each key. So what one call
-- writes is what the next one reads.
use Rattle.std.specs.Prelude.{◌≡◌, ℕ, List, [], ◌∷◌, Option, Some, None, option_map, option_and_then, if◌then◌else◌}
use Rattle.std.specs.Str.{bytes_eq, chars, IsUtf8}
use Rattle.rhai_value.specs.declared.cells.store.Cell.{Cell}
use Rattle.rhai_value.specs.Tree.{Tree, branch, array, fields, Trees, no_trees, tree_then, Fields, no_fields, field_then}
use Rattle.rhai_value.specs.Rows.{Rows, trees_of, fields_of}
use Rattle.rhai_value.specs.Parts.{array_of, map_of, with_content}
use Rattle.rhai_value.specs.End.{End, end, held_part, value_after, store_after}

-- children, as a list
abbrev pub items_in : Trees → List Tree
items_in no_trees = []
items_in (tree_then t ts) = t ∷ items_in ts

-- the items of an array
abbrev pub items_of : Tree → Option (List Tree)
items_of t = option_map items_in (array_of t)

-- a value with its content replaced by an array of these items; tag and mode are kept
abbrev pub with_items : List Tree → Tree → Tree
with_items ts t = with_content (branch array (trees_of ts)) t

-- the value of the first field with this key; both keys are characters
abbrev pub field_at : List ℕ → Fields → Option Tree
field_at k no_fields = None
field_at k (field_then j t fs) = if bytes_eq k j then Some t else field_at k fs

-- the value of a map at a key, given as characters
abbrev pub map_get : List ℕ → Tree → Option Tree
map_get k t = option_and_then (field_at k) (map_of t)

-- a value with its content replaced by a map of these rows; tag and mode are kept
abbrev pub with_rows : Rows → Tree → Tree
with_rows rs t = with_content (fields (fields_of rs)) t

-- the end of a value's chain after f was applied to the held value
abbrev pub end_after : (Tree → Tree) → List Cell → Tree → End
end_after f s t = end (store_after f (end s [] t) s) [] (value_after f (end s [] t) t)

-- The second end has w at the key k, whose bytes these are, and at each other key what the first has.
abbrev pub KeyBecomes : List ℕ → Option Tree → End → End → Type 0
KeyBecomes k w e f =
    (held_part (map_get (chars k)) f ≡ w) × ((q : List ℕ) → IsUtf8 q → (q ≡ k → ⊥) → held_part (map_get (chars q)) f ≡ held_part (map_get (chars q)) e)
