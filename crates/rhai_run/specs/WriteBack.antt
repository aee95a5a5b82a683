-- Components of steps that write back one part of a value.
use Rattle.std.specs.Prelude.{◌≡◌, ℕ, ℤ, Bool, true, false, nat_lt, if◌then◌else◌, List, [], length, codes, Option, Some, None, is_some, Result, Ok, Err}
use Rattle.std.specs.Option.{option_map_or}
use Rattle.rhai_text.specs.declared.error.EvalAltResult.TheVariants.{ErrorMismatchDataType}
use Rattle.rhai_value.specs.declared.cells.store.Cell.{Cell}
use Rattle.rhai_value.specs.Tree.{Tree}
use Rattle.rhai_value.specs.Parts.{int_of, blob_of, text_of}
use Rattle.rhai_value.specs.End.{End, end, end_name, held_part}
use Rattle.rhai_ops.specs.Outcome.{no_place}
use Rattle.rhai_target.specs.Change.{Change, bit_change, field_change, byte_change, char_change, slice_change}
use Rattle.rhai_run.specs.declared.answer.Answer.TheVariants.{Done}
use Rattle.rhai_run.specs.declared.answer.Refusal.{Refusal}
use Rattle.rhai_run.specs.declared.answer.Refusal.TheVariants.{WrongSource, BitPlace, BytePlace, Fault}
use Rattle.rhai_run.specs.declared.command.Place.{Place}
use Rattle.rhai_run.specs.declared.not_done.NotDone.{NotDone}
use Rattle.rhai_run.specs.declared.not_done.NotDone.TheVariants.{Refused, Memory}
use Rattle.rhai_run.specs.declared.pieces.Piece.{Piece}
use Rattle.rhai_run.specs.declared.pieces.Piece.TheVariants as piece
use Rattle.rhai_run.specs.State.{State}
use Rattle.rhai_run.specs.Outcome.{Outcome, given, growing_if, refuse}
use Rattle.rhai_run.specs.Places.{changed_by, with_place_and}

-- why the held value has no such bit or byte: another type is held, or the place is past its end
abbrev pub no_bit : Option ℤ → ℕ → Option Refusal
no_bit None place = Some WrongSource
no_bit (Some n) place = if nat_lt place 64 then None else Some BitPlace

abbrev pub no_byte : Option (List ℕ) → ℕ → Option Refusal
no_byte None index = Some WrongSource
no_byte (Some bytes) index = if nat_lt index (length bytes) then None else Some BytePlace

-- The rule of a piece: why a source with this end lacks it; how a working value changes a source,
-- if it is of the expected type; the name of that type; and whether a text is made, which may need
-- an allocation.
pub record Rule : Type 0 where
  pub lack : End → Option Refusal
  pub change : List Cell → Tree → Tree → Change
  pub wanted : List ℕ
  pub makes_text : Bool

-- each piece's rule; a slice accepts any value
abbrev pub rule : Piece → Rule
rule (piece.Bit place) = record { lack = λ e. no_bit (held_part int_of e) place; change = λ s source value. bit_change s value place; wanted = codes "bool"; makes_text = false }
rule (piece.Field mask shift) = record { lack = λ e. no_bit (held_part int_of e) shift; change = λ s source value. field_change s value mask shift; wanted = codes "integer"; makes_text = false }
rule (piece.Byte index) = record { lack = λ e. no_byte (held_part blob_of e) index; change = λ s source value. byte_change s value index; wanted = codes "INT"; makes_text = false }
rule (piece.Character index) = record { lack = λ e. if is_some (held_part text_of e) then None else Some WrongSource; change = λ s source value. char_change s value index; wanted = codes "char"; makes_text = true }
rule (piece.Characters slice) = record { lack = λ e. if is_some (held_part text_of e) then None else Some WrongSource; change = λ s source value. slice_change s source value slice; wanted = []; makes_text = true }

-- A working value used instead of another: it changes any source in the same way. One of another
-- type than expected is refused; the copy that a slice prints needs an allocation.
abbrev pub IsWorking : Piece → Result Tree NotDone → List Cell → Tree → Type 0
IsWorking p (Ok d) s u = (source : Tree) → ((rule p).change s source d ≡ (rule p).change s source u) × (is_some ((rule p).change s source u) ≡ true)
IsWorking p (Err (Refused why)) s u = ((source : Tree) → (rule p).change s source u ≡ None) × (why ≡ Fault (ErrorMismatchDataType (rule p).wanted (end_name (end s [] u)) no_place))
IsWorking p (Err Memory) s u = ((source : Tree) → is_some ((rule p).change s source u) ≡ true) × ((rule p).makes_text ≡ true)

-- The working value u at j is written to a piece of the value t at a place: a missing piece is
-- refused first, and then a value of another type than expected.
abbrev pub step_write_back : State → Place → Piece → ℕ → Outcome
step_write_back w place p j =
    with_place_and w place j (λ t u. option_map_or (λ why. refuse why w) ((rule p).lack (end w.store [] t))
    (given ((rule p).change w.store t u) (Fault (ErrorMismatchDataType (rule p).wanted (end_name (end w.store [] u)) no_place)) w
    (λ f. growing_if (rule p).makes_text Done (changed_by w place f t))))
