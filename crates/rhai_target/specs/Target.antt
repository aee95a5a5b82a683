-- The value of a target, the value taken out of it, and the state after its calls.
use Rattle.std.specs.Prelude.{◌≡◌, ◌<◌, ℕ, ℤ, Bool, true, false, List, [], codes, length, Option, Some, None, IfSome, MatchOption, is_some, Result, Ok}
use Rattle.std.specs.Borrow.{MutBor}
use Rattle.rhai_text.specs.declared.error.EvalAltResult.{EvalAltResult}
use Rattle.rhai_text.specs.declared.position.Position.{Position}
use Rattle.rhai_value.specs.declared.cells.store.Cell.{Cell}
use Rattle.rhai_value.specs.Tree.{Tree, cell_of, copy}
use Rattle.rhai_value.specs.Parts.{int_of, text_of, blob_of}
use Rattle.rhai_value.specs.Store.{content_at, is_marked_at, put, set_mark}
use Rattle.rhai_value.specs.End.{end, end_name, held_part, first_cell}
use Rattle.rhai_target.specs.declared.target.Target.{Target}
use Rattle.rhai_target.specs.declared.target.Target.TheVariants.{RefMut, SharedValue, TempValue, Bit, BitField, BlobByte, StringChar, StringSlice}
use Rattle.rhai_target.specs.Change.{Change, bit_change, field_change, byte_change, char_change, slice_change, value_changed, store_changed, IsAnswer}

-- the target made from a value: a reference to it; for a holder the mark of its cell, which must be
-- unmarked, with its copy
abbrev pub made_target : MutBor Tree → Option ℕ → Option ℕ → Option Target
made_target d None first = Some (RefMut d)
made_target d (Some c) None = None
made_target d (Some c) (Some n) = Some (SharedValue n (copy d.now))

abbrev pub target_of : List Cell → MutBor Tree → Option Target
target_of s d = made_target d (cell_of d.now) (first_cell s d.now)

-- the cell whose mark a target has
abbrev pub mark_in : Target → Option ℕ
mark_in (RefMut r) = None
mark_in (SharedValue c v) = Some c
mark_in (TempValue v) = None
mark_in (Bit r v place) = None
mark_in (BitField r v mask shift) = None
mark_in (BlobByte r v index) = None
mark_in (StringChar r v index) = None
mark_in (StringSlice r v start end exclusive) = None

-- that cell is marked here
abbrev pub IsMarkedIn : List Cell → Target → Type 0
IsMarkedIn s t = IfSome (mark_in t) (λ c. is_marked_at s c ≡ true)

-- the store with the mark of this cell cleared, if there is one
abbrev pub unmarked_from : Option ℕ → List Cell → List Cell
unmarked_from None s = s
unmarked_from (Some c) s = set_mark s c false

-- the value that a target refers to; for parts it is the source, and the working value is a separate value
abbrev pub source_in : List Cell → Target → Option Tree
source_in s (RefMut r) = Some r.now
source_in s (SharedValue c v) = content_at s c
source_in s (TempValue v) = Some v
source_in s (Bit r v place) = Some r.now
source_in s (BitField r v mask shift) = Some r.now
source_in s (BlobByte r v index) = Some r.now
source_in s (StringChar r v index) = Some r.now
source_in s (StringSlice r v start end exclusive) = Some r.now

abbrev pub value_in : List Cell → Target → Option Tree
value_in s (RefMut r) = Some r.now
value_in s (SharedValue c v) = content_at s c
value_in s (TempValue v) = Some v
value_in s (Bit r v place) = Some v
value_in s (BitField r v mask shift) = Some v
value_in s (BlobByte r v index) = Some v
value_in s (StringChar r v index) = Some v
value_in s (StringSlice r v start end exclusive) = Some v

-- the value taken out of a target: a copy of the value behind a reference, the holder, or the value itself
abbrev pub taken : Target → Tree
taken (RefMut r) = copy r.now
taken (SharedValue c v) = v
taken (TempValue v) = v
taken (Bit r v place) = v
taken (BitField r v mask shift) = v
taken (BlobByte r v index) = v
taken (StringChar r v index) = v
taken (StringSlice r v start end exclusive) = v

-- a target that owns the value taken out of a reference or a shared value; any other target is unchanged
abbrev pub owned : Target → Target
owned (RefMut r) = TempValue (copy r.now)
owned (SharedValue c v) = TempValue v
owned (TempValue v) = TempValue v
owned (Bit r v place) = Bit r v place
owned (BitField r v mask shift) = BitField r v mask shift
owned (BlobByte r v index) = BlobByte r v index
owned (StringChar r v index) = StringChar r v index
owned (StringSlice r v start end exclusive) = StringSlice r v start end exclusive

-- the target, and the store, after w was written over the working value
abbrev pub with_value : Tree → Target → Target
with_value w (RefMut r) = RefMut (record r { now = w })
with_value w (SharedValue c v) = SharedValue c v
with_value w (TempValue v) = TempValue w
with_value w (Bit r v place) = Bit r w place
with_value w (BitField r v mask shift) = BitField r w mask shift
with_value w (BlobByte r v index) = BlobByte r w index
with_value w (StringChar r v index) = StringChar r w index
with_value w (StringSlice r v start end exclusive) = StringSlice r w start end exclusive

abbrev pub put_marked : Option ℕ → Tree → List Cell → List Cell
put_marked None w s = s
put_marked (Some c) w s = put s c w

-- the kinds
abbrev pub is_reference : Target → Bool
is_reference (RefMut r) = true
is_reference (SharedValue c v) = true
is_reference (TempValue v) = false
is_reference (Bit r v place) = false
is_reference (BitField r v mask shift) = false
is_reference (BlobByte r v index) = false
is_reference (StringChar r v index) = false
is_reference (StringSlice r v start end exclusive) = false

abbrev pub is_temporary : Target → Bool
is_temporary (RefMut r) = false
is_temporary (SharedValue c v) = false
is_temporary (TempValue v) = true
is_temporary (Bit r v place) = false
is_temporary (BitField r v mask shift) = false
is_temporary (BlobByte r v index) = false
is_temporary (StringChar r v index) = false
is_temporary (StringSlice r v start end exclusive) = false

abbrev pub is_shared_target : Target → Bool
is_shared_target (RefMut r) = is_some (cell_of r.now)
is_shared_target (SharedValue c v) = true
is_shared_target (TempValue v) = is_some (cell_of v)
is_shared_target (Bit r v place) = false
is_shared_target (BitField r v mask shift) = false
is_shared_target (BlobByte r v index) = false
is_shared_target (StringChar r v index) = false
is_shared_target (StringSlice r v start end exclusive) = false

-- the reference that a target is
abbrev pub reference_in : Target → Option (MutBor Tree)
reference_in (RefMut r) = Some r
reference_in (SharedValue c v) = None
reference_in (TempValue v) = None
reference_in (Bit r v place) = None
reference_in (BitField r v mask shift) = None
reference_in (BlobByte r v index) = None
reference_in (StringChar r v index) = None
reference_in (StringSlice r v start end exclusive) = None

-- A write-back: its source and its working value, its change, the name of the expected type, and
-- whether it may allocate.
pub record WriteBack : Type 0 where
  pub source : Tree
  pub value : Tree
  pub change : Change
  pub wanted : List ℕ
  pub wants_memory : Bool

-- that of a target that is a part of its source
abbrev pub write_back_of : List Cell → Target → Option WriteBack
write_back_of s (RefMut r) = None
write_back_of s (SharedValue c v) = None
write_back_of s (TempValue v) = None
write_back_of s (Bit r v place) = Some (record { source = r.now; value = v; change = bit_change s v place; wanted = codes "bool"; wants_memory = false })
write_back_of s (BitField r v mask shift) = Some (record { source = r.now; value = v; change = field_change s v mask shift; wanted = codes "integer"; wants_memory = false })
write_back_of s (BlobByte r v index) = Some (record { source = r.now; value = v; change = byte_change s v index; wanted = codes "INT"; wants_memory = false })
write_back_of s (StringChar r v index) = Some (record { source = r.now; value = v; change = char_change s v index; wanted = codes "char"; wants_memory = true })
write_back_of s (StringSlice r v start end exclusive) =
    Some (record { source = r.now; value = v; change = slice_change s r.now v (record { start = start; end = end; exclusive = exclusive }); wanted = []; wants_memory = true })

-- its source has the part: it holds an int, a blob that has the byte, or a text
abbrev pub HasPart : List Cell → Target → Type 0
HasPart s (RefMut r) = Unit {0}
HasPart s (SharedValue c v) = Unit {0}
HasPart s (TempValue v) = Unit {0}
HasPart s (Bit r v place) = (place < 64) × (is_some (held_part int_of (end s [] r.now)) ≡ true)
HasPart s (BitField r v mask shift) = (shift < 64) × (is_some (held_part int_of (end s [] r.now)) ≡ true)
HasPart s (BlobByte r v index) = MatchOption (held_part blob_of (end s [] r.now)) ⊥ (λ bytes. index < length bytes)
HasPart s (StringChar r v index) = is_some (held_part text_of (end s [] r.now)) ≡ true
HasPart s (StringSlice r v start end_place exclusive) = is_some (held_part text_of (end s [] r.now)) ≡ true

-- the target with this value as its source
abbrev pub with_source : Tree → Target → Target
with_source w (RefMut r) = RefMut r
with_source w (SharedValue c v) = SharedValue c v
with_source w (TempValue v) = TempValue v
with_source w (Bit r v place) = Bit (record r { now = w }) v place
with_source w (BitField r v mask shift) = BitField (record r { now = w }) v mask shift
with_source w (BlobByte r v index) = BlobByte (record r { now = w }) v index
with_source w (StringChar r v index) = StringChar (record r { now = w }) v index
with_source w (StringSlice r v start end exclusive) = StringSlice (record r { now = w }) v start end exclusive

-- the target, and the store, after its write-back
abbrev pub target_written : List Cell → Option WriteBack → Target → Target
target_written s None t = t
target_written s (Some w) t = with_source (value_changed w.change (end s [] w.source) w.source) t

abbrev pub store_written : Option WriteBack → List Cell → List Cell
store_written None s = s
store_written (Some w) s = store_changed w.change (end s [] w.source) s

-- the result of the write-back; a target that isn't a part of its source has no write-back, and succeeds
abbrev pub IsWrittenBack : List Cell → Position → Option WriteBack → Result (Unit {0}) EvalAltResult → Type 0
IsWrittenBack s place None result = result ≡ Ok tt
IsWrittenBack s place (Some w) result = IsAnswer w.wants_memory w.change w.wanted (end_name (end s [] w.value)) place result

-- it is a field of an int
abbrev pub IsField : Target → Type 0
IsField t = (r : MutBor Tree) × (v : Tree) × (mask : ℤ) × (shift : ℕ) × (t ≡ BitField r v mask shift)
