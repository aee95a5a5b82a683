-- The hash bytes of the remaining part of a value.
use Rattle.std.specs.Prelude.{◌≡◌, ℕ, ◌++◌, true, List, Option, Some, None, is_some}
use Rattle.std.specs.List.{flat_map}
use Rattle.std.specs.Str.{chars}
use Rattle.rhai_value.specs.declared.cells.store.Cell.{Cell}
use Rattle.rhai_value.specs.Tree.{Tree}
use Rattle.rhai_show.specs.HashBytes.{name_bytes}
use Rattle.rhai_show.specs.InRange.{IsName, IsPlainInRange}
use Rattle.rhai_show.specs.Plain.{plain}
use Rattle.rhai_show.specs.Rests.{Keyed}

-- bytes after those of a key, if there is one
abbrev pub behind_name : Option (List ℕ) → List ℕ → List ℕ
behind_name None bs = bs
behind_name (Some k) bs = name_bytes (chars k) ++ bs

-- a value after its key, where f gives the bytes of a value
abbrev pub keyed_bytes : (Tree → List ℕ) → Keyed → List ℕ
keyed_bytes f c = behind_name c.0 (f c.1)

abbrev pub rest_bytes : (Tree → List ℕ) → List Keyed → List ℕ
rest_bytes f cs = flat_map (keyed_bytes f) cs

-- a key is a name in range, if there is one; and so is the plain value of a value
abbrev pub IsKeyInRange : Option (List ℕ) → Type 0
IsKeyInRange None = Unit {0}
IsKeyInRange (Some k) = IsName (chars k)

abbrev pub IsKeyedInRange : List Cell → List ℕ → Keyed → Type 0
IsKeyedInRange s path c = IsKeyInRange c.0 × IsPlainInRange s path c.1

-- a value can be hashed
abbrev pub IsKeyedPlain : List Cell → List ℕ → Keyed → Type 0
IsKeyedPlain s path c = is_some (plain s path c.1) ≡ true
