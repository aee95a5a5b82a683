-- Consecutive pushes.
use Rattle.std.specs.Prelude.{ℕ, List, [], ◌∷◌}
use Rattle.rhai_value.specs.declared.value.access_mode.AccessMode.{AccessMode}
use Rattle.rhai_value.specs.Tree.{Tree}
use Rattle.rhai_scope.specs.Entry.{Entry, pushed}

-- the entries after pushing each of these
abbrev pub all_pushed : List (AccessMode × List ℕ × Tree) → List Entry → List Entry
all_pushed [] es = es
all_pushed (p ∷ ps) es = all_pushed ps (pushed p.0 p.1 p.2 es)
