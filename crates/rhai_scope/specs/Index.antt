-- The index of names, which has those of the first entries.
use Rattle.std.specs.Prelude.{ℕ, ◌+◌, ◌≤◌, List, length, take, map}
use Rattle.rhai_scope.specs.Entry.{Entry}
use Rattle.rhai_scope.specs.NameIndex.{ListsNames}
use Rattle.rhai_scope.specs.declared.index.Index.{Index}

-- the most entries that aren't indexed
abbrev pub most_walked : ℕ
most_walked = 32

-- The first names are indexed with their places, and few follow them.
pub record IsIndexOf (x : Index) (ns : List (List ℕ)) : Type 0 where
  pub within : x.indexed ≤ length ns
  pub few : length ns ≤ x.indexed + most_walked
  pub lists : ListsNames x.places (take x.indexed ns)

-- the names of entries
abbrev pub names_of : List Entry → List (List ℕ)
names_of es = map (λ e. e.name) es
