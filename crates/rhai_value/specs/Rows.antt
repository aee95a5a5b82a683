-- A map as a list of rows: each key, as its bytes, with its value, by ascending keys.
use Rattle.std.specs.Prelude.{ℕ, List, [], ◌∷◌, map}
use Rattle.std.specs.Cmp.Lexicographic.{slice_cmp}
use Rattle.std.specs.List.{All}
use Rattle.std.specs.List.Sorted.{IsStrictlySortedBy}
use Rattle.std.specs.Map.{keys_of}
use Rattle.std.specs.Ordering.{nat_cmp}
use Rattle.std.specs.Str.{chars, IsUtf8}
use Rattle.std.specs.declared.cmp.Ordering.{Ordering}
use Rattle.rhai_value.specs.declared.value.access_mode.AccessMode.{AccessMode}
use Rattle.rhai_value.specs.Tree.{Tree, Trees, no_trees, tree_then, Fields, no_fields, field_then, copy_by}

abbrev pub Rows : Type 0
Rows = List (List ℕ × Tree)

-- the order of the keys, by their bytes
abbrev pub bytes_cmp : List ℕ → List ℕ → Ordering
bytes_cmp = slice_cmp nat_cmp

-- each key is greater than the one before it
abbrev pub AreRising : Rows → Type 0
AreRising rs = IsStrictlySortedBy bytes_cmp (keys_of rs)

-- each key is the UTF-8 of some characters
abbrev pub AreTexts : Rows → Type 0
AreTexts rs = All IsUtf8 (keys_of rs)

-- a list of trees, as children
abbrev pub trees_of : List Tree → Trees
trees_of [] = no_trees
trees_of (t ∷ ts) = tree_then t (trees_of ts)

-- the rows of a map, as fields
abbrev pub fields_of : Rows → Fields
fields_of [] = no_fields
fields_of (r ∷ rs) = field_then (chars r.0) r.1 (fields_of rs)

-- the rows of its copy by f
abbrev pub copied_rows : (AccessMode → AccessMode) → Rows → Rows
copied_rows f rs = map (λ r. (r.0, copy_by f r.1)) rs
