-- The bytes of a hashed value.
use Rattle.std.specs.Prelude.{◌≡◌, ℕ, ℤ, List, take}
use Rattle.std.specs.List.{flat_map}
use Rattle.rhai_value.specs.Tree.{int}
use Rattle.rhai_show.specs.HashBytes.{leaf_bytes}
use Rattle.rhai_show.specs.declared.hashed_value.HashedBytes.{HashedBytes}
use Rattle.rhai_show.specs.declared.hashed_value.HashedBytes.TheVariants.{Short, Long}

-- they are the same wherever they are stored
abbrev pub hashed_bytes : HashedBytes → List ℕ
hashed_bytes (Short n ws) = take n (flat_map (λ w. w) ws)
hashed_bytes (Long b) = b.items

-- whether these are the bytes of an int
abbrev pub AreOfInt : List ℕ → Type 0
AreOfInt bytes = (n : ℤ) × (bytes ≡ leaf_bytes (int n))

-- bytes stored inline are those of an int
abbrev pub IsShortOfInt : HashedBytes → Type 0
IsShortOfInt (Short n ws) = AreOfInt (hashed_bytes (Short n ws))
IsShortOfInt (Long b) = Unit {0}
