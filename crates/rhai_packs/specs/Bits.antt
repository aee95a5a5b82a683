-- Parts of the 64 bits of an int.
use Rattle.std.specs.Prelude.{ℕ, ℤ, ◌+◌, ◌-◌, Bool, ◌&&◌, nat_eq, nat_le, nat_lt, if◌then◌else◌, Option, Some, None, option_map}
use Rattle.rhai_value.specs.Steps.{item_place}
use Rattle.rhai_bits.specs.Bits.{int_of_bits, field, with_bit, with_field}
use Rattle.rhai_packs.specs.Places.{part_count}

-- the int in which bits are set from a place on, as many as given
abbrev pub mask : ℕ → ℕ → ℤ
mask place count = int_of_bits (λ i. nat_le place i && nat_lt i (place + count))

-- A part of the bits: the place of its first bit, and how many it has, at most as many as there are.
-- If none are wanted, the index doesn't matter.
abbrev pub part_of : ℤ → ℤ → Option (ℕ × ℕ)
part_of index count = if nat_eq (part_count 64 count) 0 then Some (0, 0) else option_map (λ k. (k, part_count (64 - k) count)) (item_place 64 index)

-- the int of these bits of a number
abbrev pub bits_in : ℤ → ℕ × ℕ → ℤ
bits_in n p = field (mask p.0 p.1) p.0 n

-- the number with a bit set or cleared, and with the lowest bits of v in a part; if there is none,
-- the number unchanged
abbrev pub with_bit_at : ℤ → Option ℕ → Bool → ℤ
with_bit_at n None b = n
with_bit_at n (Some k) b = with_bit k b n

abbrev pub with_bits_in : ℤ → Option (ℕ × ℕ) → ℤ → ℤ
with_bits_in n None v = n
with_bits_in n (Some p) v = with_field (mask p.0 p.1) p.0 v n
