-- Texts of names: one line each.
use Rattle.std.specs.Prelude.{ℕ, Bool, false, List, ◌++◌, codes, map, reverse}
use Rattle.std.specs.List.{flat_map}
use Rattle.rhai_value.specs.declared.cells.store.Cell.{Cell}
use Rattle.rhai_scope.specs.Entry.{Entry}
use Rattle.rhai_scope.specs.Items.{Named, shown_raw}
use Rattle.rhai_scope.specs.ScopeText.{constant_mark}

-- whether it is a constant, and a name
abbrev pub name_line : Bool → List ℕ → List ℕ
name_line b name = constant_mark b ++ name ++ codes "\n"

abbrev pub named_line : Named → List ℕ
named_line x = name_line x.1 x.0

-- the names of the entries, the newest first; a holder is a constant if its cell's content is
abbrev pub names_text : List Cell → List Entry → List ℕ
names_text s es = flat_map named_line (map (shown_raw s) (reverse es))

-- aliases, in their order
abbrev pub aliases_text : List (List ℕ) → List ℕ
aliases_text bs = flat_map (name_line false) bs
