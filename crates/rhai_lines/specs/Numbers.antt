-- The number given by a word.
use Rattle.std.specs.Prelude.{ℕ, ◌^◌, ℤ, pos, negsuc, neg_ℤ, ◌&&◌, ◌==◌, nat_lt, if◌then◌else◌, List, [], ◌∷◌, length, Option, Some, None, option_map, option_and_then}
use Rattle.std.specs.List.{list_all}
use Rattle.std.specs.Char.{is_ascii_digit}
use Rattle.std.specs.Str.Parse.{digits_value}

-- one or more decimal digits, as a whole number
abbrev pub whole_number_of : List ℕ → Option ℕ
whole_number_of ds = if nat_lt 0 (length ds) && list_all is_ascii_digit ds then Some (digits_value 10 ds) else None

-- the same with or without a minus (45) before it
abbrev pub number_of : List ℕ → Option ℤ
number_of [] = None
number_of (b ∷ bs) =
    if b == 45
    then option_map (λ n. neg_ℤ (pos n)) (whole_number_of bs)
    else option_map pos (whole_number_of (b ∷ bs))

-- the number, if it is below 2^bits
abbrev pub below : ℕ → ℕ → Option ℕ
below bits n = if nat_lt n (2 ^ bits) then Some n else None

-- the number, if it fits an unsigned integer of that many bits: from 0 to 2^bits - 1
abbrev pub as_unsigned : ℕ → ℤ → Option ℕ
as_unsigned bits (pos n) = below bits n
as_unsigned bits (negsuc n) = None

-- the number, if it fits a sign and that many bits: from -2^bits to 2^bits - 1 (negsuc n is -(n + 1))
abbrev pub as_signed : ℕ → ℤ → Option ℤ
as_signed bits (pos n) = option_map pos (below bits n)
as_signed bits (negsuc n) = option_map negsuc (below bits n)

-- a word as such a number
abbrev pub unsigned_of : ℕ → List ℕ → Option ℕ
unsigned_of bits word = option_and_then (as_unsigned bits) (number_of word)

abbrev pub signed_of : ℕ → List ℕ → Option ℤ
signed_of bits word = option_and_then (as_signed bits) (number_of word)
