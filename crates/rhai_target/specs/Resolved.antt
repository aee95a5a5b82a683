-- Making targets, and the value behind the reference from which one is made.
use Rattle.std.specs.Prelude.{◌≡◌, ℕ, true, List, Some, None, Result, Ok, Err}
use Rattle.std.specs.Borrow.{MutBor, GName, Fml, follows_if}
use Rattle.std.specs.Option.{ghost_name_of}
use mathlib.Core.Option as maybe
use Rattle.rhai_text.specs.declared.error.EvalAltResult.{EvalAltResult}
use Rattle.rhai_text.specs.declared.error.EvalAltResult.TheVariants.{ErrorDataRace}
use Rattle.rhai_text.specs.declared.position.TheConstants.Position as position
use Rattle.rhai_value.specs.contracts.value.dynamic.Dynamic as dynamic
use Rattle.rhai_value.specs.declared.cells.store.Cell.{Cell}
use Rattle.rhai_value.specs.Tree.{Tree, cell_of, copy}
use Rattle.rhai_value.specs.Store.{is_marked_at}
use Rattle.rhai_value.specs.End.{first_cell}
use Rattle.rhai_target.specs.declared.resolve.Whole.{Whole}
use Rattle.rhai_target.specs.declared.resolve.Marked.{Marked}
use Rattle.rhai_target.specs.declared.target.Target.{Target}
use Rattle.rhai_target.specs.declared.target.Target.TheVariants.{RefMut, SharedValue}
use Rattle.rhai_target.specs.Target.{reference_in}

-- the name of the reference from which a target was made, if one was
abbrev pub lent_name : Result Target EvalAltResult → maybe.Option GName
lent_name (Ok t) = ghost_name_of (reference_in t)
lent_name (Err e) = maybe.none

-- The value behind d ends as the target leaves it if d was made a target, and otherwise unchanged.
abbrev pub IsLeftBy : MutBor Tree → Result Target EvalAltResult → Fml
IsLeftBy d result = follows_if dynamic.the_row dynamic.the_row d.ghost_name (lent_name result) (λ w. w) d.now

-- a value that isn't a holder; or for a holder the mark of its cell, or why there is none
abbrev pub Resolved : Type 0
Resolved = Result Whole (Result Marked EvalAltResult)

-- the result for the value behind d
abbrev pub IsResolved : List Cell → MutBor Tree → Resolved → Type 0
IsResolved s d (Ok w) = (cell_of d.now ≡ None) × (w.value ≡ d)
IsResolved s d (Err (Ok p)) = (c : ℕ) × (cell_of d.now ≡ Some c) × (first_cell s d.now ≡ Some p.token) × (p.shared_value ≡ copy d.now)
IsResolved s d (Err (Err e)) = (c : ℕ) × (cell_of d.now ≡ Some c) × (first_cell s d.now ≡ None) × (e ≡ ErrorDataRace position.NONE)

-- a marked cell in the result is marked here
abbrev pub IsMarkedResolved : List Cell → Resolved → Type 0
IsMarkedResolved s (Ok w) = Unit {0}
IsMarkedResolved s (Err (Ok p)) = is_marked_at s p.token ≡ true
IsMarkedResolved s (Err (Err e)) = Unit {0}

-- the target made from it
abbrev pub resolved_target : Resolved → Result Target EvalAltResult
resolved_target (Ok w) = Ok (RefMut w.value)
resolved_target (Err (Ok p)) = Ok (SharedValue p.token p.shared_value)
resolved_target (Err (Err e)) = Err e
