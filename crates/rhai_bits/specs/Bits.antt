-- The 64 bits of an int, and an int with some of them changed.
use Rattle.std.specs.Prelude.{ℕ, zero, suc, ℤ, ◌+◌, ◌-◌, ◌*◌, ◌^◌, Bool, false, ◌&&◌, nat_eq, nat_lt, if◌then◌else◌}
use Rattle.std.specs.Int.{w64, bit_at, cast_signed, cast_unsigned}

-- bit i of a number
abbrev pub bit : ℤ → ℕ → Bool
bit n i = nat_eq (bit_at (cast_unsigned w64 n) i) 1

abbrev pub digit : Bool → ℕ
digit b = if b then 1 else 0

-- the number whose lowest k bits are these, all others being 0
abbrev pub natural : ℕ → (ℕ → Bool) → ℕ
natural zero f = 0
natural (suc k) f = digit (f k) * 2 ^ k + natural k f

-- the int of these 64 bits
unfoldable pub int_of_bits : (ℕ → Bool) → ℤ
int_of_bits f = cast_signed w64 (natural 64 f)

-- bit k becomes b
abbrev pub with_bit : ℕ → Bool → ℤ → ℤ
with_bit k b n = int_of_bits (λ i. if nat_eq i k then b else bit n i)

-- the bits of the mask become those of v from bit `shift` on: below it they become 0
abbrev pub with_field : ℤ → ℕ → ℤ → ℤ → ℤ
with_field mask shift v n = int_of_bits (λ i. if bit mask i then (if nat_lt i shift then false else bit v (i - shift)) else bit n i)

-- the bits of the mask, shifted right by `shift`; the vacated bits are zero
abbrev pub field : ℤ → ℕ → ℤ → ℤ
field mask shift n = int_of_bits (λ i. bit mask (i + shift) && bit n (i + shift))
