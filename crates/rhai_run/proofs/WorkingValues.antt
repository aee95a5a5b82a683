-- Separate values with the same effect on a source as the values from which they were read.
use Rattle.std.proofs.Common.{◌≡◌, ℕ, ℤ, Bool, List, [], Option, Some, None, option_map, Ok, refl, sym, ap, ◌∙◌}
use Rattle.rhai_value.specs.declared.cells.store.Cell.{Cell}
use Rattle.rhai_value.specs.Tree.{Tree, cell_of, fresh, bool, int, char}
use Rattle.rhai_value.specs.Parts.{bool_of, int_of, char_of}
use Rattle.rhai_value.specs.End.{end, held_part}
use Rattle.rhai_value.proofs.ForCallers.{end_own}
use Rattle.rhai_run.specs.declared.pieces.Piece.TheVariants as piece
use Rattle.rhai_run.specs.WriteBack.{IsWorking}

-- a part of a value that isn't a holder is held
own_part : {A : Type 0} (part : Tree → Option A) (s : List Cell) (t : Tree) → cell_of t ≡ None → held_part part (end s [] t) ≡ part t
own_part part s t e = rw (end_own s [] t e) refl

-- a function of a held part is one of a value that has it
same_part : {A B : Type 0} (part : Tree → Option A) (make : A → B) (s : List Cell) (t u : Tree) (x : A) → cell_of t ≡ None → part t ≡ Some x → held_part part (end s [] u) ≡ Some x
    → option_map make (held_part part (end s [] t)) ≡ option_map make (held_part part (end s [] u))
same_part part make s t u x e f h = ap (option_map make) (own_part part s t e ∙ f ∙ sym h)

pub working_bit : (s : List Cell) (u d : Tree) (b : Bool) (place : ℕ) → held_part bool_of (end s [] u) ≡ Some b → d ≡ fresh (bool b) → IsWorking (piece.Bit place) (Ok d) s u
working_bit s u d b place h e source = (rw e (same_part bool_of _ s (fresh (bool b)) u b refl refl h), rw h refl)

pub working_field : (s : List Cell) (u d : Tree) (n mask : ℤ) (shift : ℕ) → held_part int_of (end s [] u) ≡ Some n → d ≡ fresh (int n) → IsWorking (piece.Field mask shift) (Ok d) s u
working_field s u d n mask shift h e source = (rw e (same_part int_of _ s (fresh (int n)) u n refl refl h), rw h refl)

pub working_byte : (s : List Cell) (u d : Tree) (n : ℤ) (index : ℕ) → held_part int_of (end s [] u) ≡ Some n → d ≡ fresh (int n) → IsWorking (piece.Byte index) (Ok d) s u
working_byte s u d n index h e source = (rw e (same_part int_of _ s (fresh (int n)) u n refl refl h), rw h refl)

pub working_character : (s : List Cell) (u d : Tree) (x index : ℕ) → held_part char_of (end s [] u) ≡ Some x → d ≡ fresh (char x) → IsWorking (piece.Character index) (Ok d) s u
working_character s u d x index h e source = (rw e (same_part char_of _ s (fresh (char x)) u x refl refl h), rw h refl)
