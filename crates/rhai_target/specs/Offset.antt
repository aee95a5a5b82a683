-- Positions in a list of a given length, by integers; a negative one counts from the end.
use Rattle.std.specs.Prelude.{ℕ, suc, ℤ, pos, negsuc, ◌-◌, min, Bool, ◌&&◌, nat_lt, Option, Some, None, if◌then◌else◌}

-- the start of a slice: at most the end, and for a negative start at least 0
abbrev pub offset : ℕ → ℤ → ℕ
offset length (pos n) = min n length
offset length (negsuc n) = length - suc n

-- the number of its items, at most those that remain
abbrev pub count : ℕ → ℤ → ℕ
count left (pos n) = min n left
count left (negsuc n) = 0

-- the position of an item, if there is one; a negative index counts from the end if that is allowed
abbrev pub place : ℕ → ℤ → Bool → Option ℕ
place length (pos n) from_end = if nat_lt n length then Some n else None
place length (negsuc n) from_end = if from_end && nat_lt n length then Some (length - suc n) else None
