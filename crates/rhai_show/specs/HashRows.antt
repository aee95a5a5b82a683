-- The hash bytes of a row of a map, whose key is bytes.
use Rattle.std.specs.Prelude.{ℕ, List, ◌++◌}
use Rattle.std.specs.Str.{chars}
use Rattle.rhai_value.specs.Tree.{Tree}
use Rattle.rhai_show.specs.HashBytes.{name_bytes}

abbrev pub row_bytes : (Tree → List ℕ) → List ℕ × Tree → List ℕ
row_bytes f r = name_bytes (chars r.0) ++ f r.1
