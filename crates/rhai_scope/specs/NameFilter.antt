-- Bits of texts. A text has one bit, computed from the bytes at its ends, and texts may share one.
use Rattle.std.specs.Prelude.{ℕ, ◌+◌, ◌*◌, ◌-◌, ◌/◌, ◌%◌, ◌^◌, nat_eq, nat_le, Bool, if◌then◌else◌, List, [], ◌∷◌, length, slice_index}
use Rattle.std.specs.Int.{w32, bit_at, from_le_bytes}
use Rattle.rhai_scope.specs.declared.name_filter.NameFilter.{NameFilter}

-- four bytes as a number
abbrev pub word_at : List ℕ → ℕ → ℕ
word_at bs i = from_le_bytes w32 (slice_index bs i ∷ slice_index bs (i + 1) ∷ slice_index bs (i + 2) ∷ slice_index bs (i + 3) ∷ [])

-- the first, the middle and the last byte as a number
abbrev pub three_of : List ℕ → ℕ
three_of bs = (slice_index bs 0 * 256 + slice_index bs (length bs / 2)) * 256 + slice_index bs (length bs - 1)

-- 2^32 divided by the golden ratio
abbrev pub spread : ℕ
spread = 2654435769

-- the bytes at both ends of a text, as a number
abbrev pub ends_of : List ℕ → ℕ
ends_of [] = 0
ends_of (b ∷ bs) = if nat_le 4 (length (b ∷ bs)) then (word_at (b ∷ bs) 0 * spread % 2 ^ 32 + word_at (b ∷ bs) (length (b ∷ bs) - 4)) % 2 ^ 32 else three_of (b ∷ bs)

-- the bit of a text
unfoldable pub bit_of : List ℕ → ℕ
bit_of bs = ends_of bs * spread % 2 ^ 32 / 2 ^ 22

-- its bit is set
unfoldable pub passes : NameFilter → List ℕ → Bool
passes m bs = nat_eq (bit_at (slice_index m.words (bit_of bs / 64)) (bit_of bs % 64)) 1
