-- Parts of a source given by an index.
use Rattle.std.specs.Prelude.{◌≡◌, ◌<◌, ℕ, ℤ, pos, Bool, true, false, List, [], codes, length, slice_get, nat_lt, Option, Some, None, MatchOption, option_map, option_and_then, is_some, Result, Ok, Err, if◌then◌else◌}
use Rattle.std.specs.Borrow.{MutBor}
use Rattle.rhai_value.specs.declared.cells.store.Cell.{Cell}
use Rattle.rhai_value.specs.Tree.{Tree, fresh, bool, int, char, text}
use Rattle.rhai_value.specs.Parts.{int_of, text_of, blob_of}
use Rattle.rhai_value.specs.End.{end, held_part}
use Rattle.rhai_target.specs.declared.part.NoPart.{NoPart}
use Rattle.rhai_target.specs.declared.part.NoPart.TheVariants.{Mismatch, OutOfRange, Memory}
use Rattle.rhai_target.specs.declared.part.PartPlace.{PartPlace}
use Rattle.rhai_target.specs.declared.part.PartPlace.TheVariants as at
use Rattle.rhai_target.specs.declared.part.ReadPart.{ReadPart}
use Rattle.rhai_target.specs.declared.slice.Slice.{Slice}
use Rattle.rhai_target.specs.declared.target.Target.{Target}
use Rattle.rhai_target.specs.declared.target.Target.TheVariants.{Bit, BitField, BlobByte, StringChar, StringSlice}
use Rattle.rhai_bits.specs.Bits.{bit, field}
use Rattle.rhai_target.specs.Change.{Change, bit_change, field_change, byte_change, char_change, slice_change}
use Rattle.rhai_target.specs.Offset.{place}
use Rattle.rhai_target.specs.Read.{slice_in}

-- the part of an int, of bytes or of characters, if there is one; for bytes and characters a
-- negative index counts from the end
abbrev pub bit_part : ℤ → ℤ → Option ReadPart
bit_part index n = option_map (λ i. record { place = at.Bit i; value = fresh (bool (bit n i)) }) (place 64 index false)

abbrev pub field_part : ℤ → ℕ → ℤ → Option ReadPart
field_part mask shift n = if nat_lt shift 64 then Some (record { place = at.BitField mask shift; value = fresh (int (field mask shift n)) }) else None

abbrev pub byte_part : ℤ → List ℕ → Option ReadPart
byte_part index bs = option_and_then (λ i. option_map (λ b. record { place = at.BlobByte i; value = fresh (int (pos b)) }) (slice_get bs i)) (place (length bs) index true)

abbrev pub char_read : List ℕ → ℕ → Option ReadPart
char_read cs i = option_map (λ c. record { place = at.StringChar i; value = fresh (char c) }) (slice_get cs i)

abbrev pub char_part : ℤ → List ℕ → Option ReadPart
char_part index cs = option_and_then (char_read cs) (place (length cs) index true)

abbrev pub slice_part : Slice → List ℕ → Option ReadPart
slice_part slice cs = Some (record { place = at.StringSlice slice; value = fresh (text (slice_in slice cs)) })

-- The result of a read: the part of the held value; or the name of the held type if that differs,
-- or that there is no part there. A failed allocation is possible only in place of a part, and only
-- if the read may allocate.
abbrev pub IsRead : {A : Type 0} → Option A → List ℕ → (A → Option ReadPart) → Bool → Result ReadPart NoPart → Type 0
IsRead held name part may_want (Ok p) = option_and_then part held ≡ Some p
IsRead held name part may_want (Err (Mismatch found)) = (held ≡ None) × (found.now ≡ name)
IsRead held name part may_want (Err OutOfRange) = MatchOption held ⊥ (λ a. part a ≡ None)
IsRead held name part may_want (Err (Memory e)) = (may_want ≡ true) × (is_some (option_and_then part held) ≡ true)

-- the source holds an int, a blob that has the byte, or a text
abbrev pub HasPlace : List Cell → Tree → PartPlace → Type 0
HasPlace s t (at.Bit i) = (i < 64) × (is_some (held_part int_of (end s [] t)) ≡ true)
HasPlace s t (at.BitField mask shift) = (shift < 64) × (is_some (held_part int_of (end s [] t)) ≡ true)
HasPlace s t (at.BlobByte i) = MatchOption (held_part blob_of (end s [] t)) ⊥ (λ bytes. i < length bytes)
HasPlace s t (at.StringChar i) = is_some (held_part text_of (end s [] t)) ≡ true
HasPlace s t (at.StringSlice slice) = is_some (held_part text_of (end s [] t)) ≡ true

-- the change by the write-back of a part, the name of the type it expects, and whether it may allocate
abbrev pub change_at : List Cell → Tree → PartPlace → Tree → Change
change_at s t (at.Bit i) v = bit_change s v i
change_at s t (at.BitField mask shift) v = field_change s v mask shift
change_at s t (at.BlobByte i) v = byte_change s v i
change_at s t (at.StringChar i) v = char_change s v i
change_at s t (at.StringSlice slice) v = slice_change s t v slice

abbrev pub part_change : List Cell → Tree → ReadPart → Change
part_change s t p = change_at s t p.place p.value

abbrev pub wanted_at : PartPlace → List ℕ
wanted_at (at.Bit i) = codes "bool"
wanted_at (at.BitField mask shift) = codes "integer"
wanted_at (at.BlobByte i) = codes "INT"
wanted_at (at.StringChar i) = codes "char"
wanted_at (at.StringSlice slice) = []

abbrev pub wants_memory : PartPlace → Bool
wants_memory (at.Bit i) = false
wants_memory (at.BitField mask shift) = false
wants_memory (at.BlobByte i) = false
wants_memory (at.StringChar i) = true
wants_memory (at.StringSlice slice) = true

-- the target that is this part of the source behind r
abbrev pub target_of_place : MutBor Tree → PartPlace → Tree → Target
target_of_place r (at.Bit i) v = Bit r v i
target_of_place r (at.BitField mask shift) v = BitField r v mask shift
target_of_place r (at.BlobByte i) v = BlobByte r v i
target_of_place r (at.StringChar i) v = StringChar r v i
target_of_place r (at.StringSlice slice) v = StringSlice r v slice.start slice.end slice.exclusive

abbrev pub target_at : MutBor Tree → ReadPart → Target
target_at r p = target_of_place r p.place p.value
