-- The list of entries of a scope, the newest last.
use Rattle.std.specs.Prelude.{ℕ, ◌-◌, Bool, List, [], ◌∷◌, ◌++◌, length, take}
use Rattle.rhai_value.specs.declared.value.access_mode.AccessMode.{AccessMode}
use Rattle.rhai_value.specs.Cells.{renumbered}
use Rattle.rhai_value.specs.Tree.{Tree, mode_of, copy, paint, is_constant}

-- An entry: a name, a value, and aliases.
pub record Entry : Type 0 where
  pub name : List ℕ
  pub value : Tree
  pub aliases : List (List ℕ)

-- a new entry has no alias
abbrev pub new_entry : List ℕ → Tree → Entry
new_entry name t = record { name = name; value = t; aliases = [] }

-- the entries with a new one, whose value is painted with a mode
abbrev pub pushed : AccessMode → List ℕ → Tree → List Entry → List Entry
pushed m name t es = es ++ new_entry name (paint m t) ∷ []

-- the entries without the last one
abbrev pub popped : List Entry → List Entry
popped es = take (length es - 1) es

-- whether an entry's own value is a constant
abbrev pub is_constant_entry : Entry → Bool
is_constant_entry e = is_constant (mode_of e.value)

-- the entry with another value
abbrev pub with_value : Tree → Entry → Entry
with_value t e = record e { value = t }

-- a copy painted with the value's own mode
abbrev pub copied_value : Tree → Tree
copied_value t = paint (mode_of t) (copy t)

abbrev pub copied_entry : Entry → Entry
copied_entry e = with_value (copied_value e.value) e

-- the entry with each cell number c in its value replaced by f c
abbrev pub renumbered_entry : (ℕ → ℕ) → Entry → Entry
renumbered_entry f e = with_value (renumbered f e.value) e
