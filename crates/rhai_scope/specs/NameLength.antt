-- Length classes of sought names.
use Rattle.std.specs.Prelude.{◌≤◌, ℕ, List, length}
use Rattle.rhai_scope.specs.declared.name_length.NameLength.{NameLength}
use Rattle.rhai_scope.specs.declared.name_length.NameLength.TheVariants.{Few, Short, Any}

-- the length of the text is in this class
abbrev pub HasLength : NameLength → List ℕ → Type 0
HasLength Few bs = (1 ≤ length bs) × (length bs ≤ 3)
HasLength Short bs = (4 ≤ length bs) × (length bs ≤ 8)
HasLength Any bs = Unit {0}
