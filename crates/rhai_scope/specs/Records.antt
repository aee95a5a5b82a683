-- Entries as they are borrowed.
use Rattle.std.specs.Prelude.{ℕ, List}
use Rattle.std.specs.Borrow.{Bor}
use Rattle.rhai_value.specs.Tree.{Tree}
use Rattle.rhai_scope.specs.Entry.{Entry}

-- the entry with this name, value and aliases
abbrev pub entry_of : Bor (List ℕ) × Bor Tree × Bor (List (List ℕ)) → Entry
entry_of p = record { name = p.0.now; value = p.1.now; aliases = p.2.now }
