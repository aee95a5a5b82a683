-- Keys that lead to parts of a value.
use Rattle.std.specs.Prelude.{◌≡◌, ℕ, ℤ, [], codes, List, Option, Some, None}
use Rattle.std.specs.Str.{chars}
use Rattle.rhai_value.specs.declared.cells.store.Cell.{Cell}
use Rattle.rhai_value.specs.End.{end, end_name, held_part}
use Rattle.rhai_value.specs.Parts.{int_of, text_of}
use Rattle.script_faults.specs.declared.faults.FaultKind.{FaultKind}
use Rattle.script_faults.specs.declared.faults.FaultKind.TheVariants.{NoParts}
use Rattle.script_faults.specs.declared.keys.Key.{Key}
use Rattle.script_faults.specs.declared.keys.Key.TheVariants.{Index, Name}
use Rattle.script_faults.specs.Names.{mismatched}

-- the int in brackets
abbrev pub index_of : List Cell → Key → Option ℤ
index_of s (Index d) = held_part int_of (end s [] d.now)
index_of s (Name name) = None

-- the text in brackets, or the name
abbrev pub name_of : List Cell → Key → Option (List ℕ)
name_of s (Index d) = held_part text_of (end s [] d.now)
name_of s (Name name) = Some (chars name.now)

-- values of the type with this name have no such part
abbrev pub IsNoParts : List ℕ → FaultKind → Type 0
IsNoParts found e = (x : _) × (x.now ≡ found) × (e ≡ NoParts x)

-- why there is no int: another type in the brackets, or a property that values of this type don't have
abbrev pub IsNoIndex : List Cell → Key → List ℕ → FaultKind → Type 0
IsNoIndex s (Index d) found e = e ≡ mismatched (codes "i64") (end_name (end s [] d.now))
IsNoIndex s (Name name) found e = IsNoParts found e

-- why there is no text: another type in the brackets
abbrev pub IsNoName : List Cell → Key → FaultKind → Type 0
IsNoName s (Index d) e = e ≡ mismatched (codes "string") (end_name (end s [] d.now))
IsNoName s (Name name) e = ⊥
