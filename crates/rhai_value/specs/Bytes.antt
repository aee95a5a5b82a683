-- Ints as bytes.
use Rattle.std.specs.Prelude.{ℕ, ℤ, pos, unsigned_abs}
use Rattle.std.specs.Int.{int_rem_euclid}

-- an int modulo 256
abbrev pub low_byte : ℤ → ℕ
low_byte n = unsigned_abs (int_rem_euclid n (pos 256))
