-- Appending several entries, in order.
use Rattle.std.specs.Prelude.{ℕ, Bool, true, false, List, ◌++◌, map}
use Rattle.std.specs.List.{zip}
use Rattle.rhai_value.specs.declared.value.access_mode.AccessMode.{AccessMode}
use Rattle.rhai_value.specs.declared.value.access_mode.AccessMode.TheVariants.{ReadWrite, ReadOnly}
use Rattle.rhai_value.specs.Tree.{Tree, paint}
use Rattle.rhai_scope.specs.Entry.{Entry, new_entry}

-- true means a constant
abbrev pub flagged_mode : Bool → AccessMode
flagged_mode true = ReadOnly
flagged_mode false = ReadWrite

-- the entries with a new one appended for each name and value, and for each name, flag and value
abbrev pub extended : List Entry → List (List ℕ × Tree) → List Entry
extended es xs = es ++ map (λ x. new_entry x.0 (paint ReadWrite x.1)) xs

abbrev pub extended_flagged : List Entry → List (List ℕ × Bool × Tree) → List Entry
extended_flagged es xs = es ++ map (λ x. new_entry x.0 (paint (flagged_mode x.1) x.2)) xs

-- each name and flag with its value
abbrev pub flagged_values : List (List ℕ × Bool) → List Tree → List (List ℕ × Bool × Tree)
flagged_values ns ts = map (λ p. (p.0.0, p.0.1, p.1)) (zip ns ts)

-- the new entries with names and modes from headings
abbrev pub headed : {H : Type 0} → (H → List ℕ) → (H → AccessMode) → List H → List Tree → List Entry
headed name_of mode_of hs ts = map (λ p. new_entry (name_of p.0) (paint (mode_of p.0) p.1)) (zip hs ts)
