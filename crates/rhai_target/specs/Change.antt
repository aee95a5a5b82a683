-- Write-backs: the change of the held value, the result, and the state afterwards.
use Rattle.std.specs.Prelude.{◌≡◌, ℕ, ℤ, Bool, true, List, [], slice_set, Option, Some, None, option_map, is_some, Result, Ok, Err}
use Rattle.rhai_value.specs.Bytes.{low_byte}
use Rattle.rhai_text.specs.Text.{with_slice}
use Rattle.rhai_text.specs.declared.error.EvalAltResult.{EvalAltResult}
use Rattle.rhai_text.specs.declared.error.EvalAltResult.TheVariants.{ErrorArithmetic, ErrorDataTooLarge, ErrorMemory, ErrorDataRace, ErrorMismatchDataType}
use Rattle.rhai_text.specs.declared.position.Position.{Position}
use Rattle.rhai_value.specs.declared.cells.store.Cell.{Cell}
use Rattle.rhai_value.specs.Tree.{Tree, Leaf, leaf, int, text, blob}
use Rattle.rhai_value.specs.Parts.{bool_of, int_of, char_of, text_of, blob_of, with_content}
use Rattle.rhai_value.specs.Store.{marked_with}
use Rattle.rhai_value.specs.End.{End, end, held_part, held_cell, value_after, store_after}
use Rattle.rhai_show.specs.declared.form.Form.TheVariants.{Display}
use Rattle.rhai_show.specs.Text.{printed}
use Rattle.rhai_target.specs.declared.slice.Slice.{Slice}
use Rattle.rhai_bits.specs.Bits.{with_bit, with_field}

-- the value with this leaf as its content, if there is one; tag and mode are kept
abbrev pub with_leaf : Option Leaf → Tree → Tree
with_leaf None t = t
with_leaf (Some l) t = with_content (leaf l) t

-- a value with f applied to its int, bytes or characters; tag and mode are kept, and any other value is unchanged
abbrev pub on_int : (ℤ → ℤ) → Tree → Tree
on_int f t = with_leaf (option_map (λ n. int (f n)) (int_of t)) t

abbrev pub on_bytes : (List ℕ → List ℕ) → Tree → Tree
on_bytes f t = with_leaf (option_map (λ bs. blob (f bs)) (blob_of t)) t

abbrev pub on_text : (List ℕ → List ℕ) → Tree → Tree
on_text f t = with_leaf (option_map (λ cs. text (f cs)) (text_of t)) t

-- how a write-back changes the held value; none if the working value isn't of the expected type
abbrev pub Change : Type 0
Change = Option (Tree → Tree)

abbrev pub bit_change : List Cell → Tree → ℕ → Change
bit_change s value place = option_map (λ b. on_int (with_bit place b)) (held_part bool_of (end s [] value))

abbrev pub field_change : List Cell → Tree → ℤ → ℕ → Change
field_change s value mask shift = option_map (λ n. on_int (with_field mask shift n)) (held_part int_of (end s [] value))

abbrev pub byte_change : List Cell → Tree → ℕ → Change
byte_change s value index = option_map (λ n. on_bytes (λ bs. slice_set bs index (low_byte n))) (held_part int_of (end s [] value))

-- past the end of a text there is no place, and the text is unchanged
abbrev pub char_change : List Cell → Tree → ℕ → Change
char_change s value index = option_map (λ c. on_text (λ cs. slice_set cs index c)) (held_part char_of (end s [] value))

-- the characters with a slice of them replaced by a text
abbrev pub spliced : List ℕ → Slice → List ℕ → List ℕ
spliced new slice cs = with_slice cs slice.start slice.end slice.exclusive new

-- the same with the printed text of a value
abbrev pub sliced : List Cell → Tree → Slice → List ℕ → List ℕ
sliced s value slice = spliced (printed s [] value Display) slice

-- the working value is printed while the cell of the source's text is marked
abbrev pub slice_change : List Cell → Tree → Tree → Slice → Change
slice_change s source value slice = Some (on_text (sliced (marked_with (held_cell (end s [] source)) s) value slice))

-- a value, and a store, after a change of the held value at the end of the value's chain
abbrev pub value_changed : Change → End → Tree → Tree
value_changed None e t = t
value_changed (Some f) e t = value_after f e t

abbrev pub store_changed : Change → End → List Cell → List Cell
store_changed None e s = s
store_changed (Some f) e s = store_after f e s

-- the end of a value's chain after a change
abbrev pub end_changed : Change → List Cell → Tree → End
end_changed change s t = end (store_changed change (end s [] t) s) [] (value_changed change (end s [] t) t)

-- A write-back that succeeds returns unit. Otherwise the error gives the expected type and the held
-- one, at this position of the script; a failed allocation is possible only in place of success,
-- and only if the write-back may allocate.
abbrev pub IsAnswer : Bool → Change → List ℕ → List ℕ → Position → Result (Unit {0}) EvalAltResult → Type 0
IsAnswer may_want change wanted found place (Ok x) = is_some change ≡ true
IsAnswer may_want change wanted found place (Err (ErrorMismatchDataType w f p)) = (change ≡ None) × (w ≡ wanted) × (f ≡ found) × (p ≡ place)
IsAnswer may_want change wanted found place (Err (ErrorMemory e)) = (may_want ≡ true) × (is_some change ≡ true)
IsAnswer may_want change wanted found place (Err (ErrorDataRace p)) = ⊥
IsAnswer may_want change wanted found place (Err (ErrorArithmetic fault p)) = ⊥
IsAnswer may_want change wanted found place (Err (ErrorDataTooLarge size p)) = ⊥
