-- Steps at places: at a hand position, or at the last entry of a name.
use Rattle.std.specs.Prelude.{ℕ, Bool, false, nat_eq, List, [], slice_set}
use Rattle.rhai_value.specs.declared.cells.store.Cell.{Cell}
use Rattle.rhai_value.specs.End.{end, store_after, value_after}
use Rattle.rhai_value.specs.Tree.{Tree}
use Rattle.rhai_scope.specs.Entry.{is_constant_entry, with_value as holding}
use Rattle.rhai_scope.specs.Lookup.{last_entry, changed_named}
use Rattle.rhai_run.specs.declared.answer.Refusal.TheVariants.{NoEntry, ConstantEntry}
use Rattle.rhai_run.specs.declared.command.Place.{Place}
use Rattle.rhai_run.specs.declared.command.Place.TheVariants as place
use Rattle.rhai_run.specs.declared.command.PlaceRef.{PlaceRef}
use Rattle.rhai_run.specs.declared.command.PlaceRef.TheVariants as lent
use Rattle.rhai_run.specs.State.{State, with_cells}
use Rattle.rhai_run.specs.Outcome.{Outcome, given, unless, with_value}

-- the place with a borrowed name
abbrev pub place_of : PlaceRef → Place
place_of (lent.Hand i) = place.Hand i
place_of (lent.Entry name) = place.Entry name.now

-- the outcome for the value at a place, if it may be written: an entry must exist, and not be a constant
abbrev pub with_place : State → Place → (Tree → Outcome) → Outcome
with_place w (place.Hand i) go = with_value w i go
with_place w (place.Entry name) go = given (last_entry name w.entries) NoEntry w (λ e. unless (is_constant_entry e) ConstantEntry w (go e.value))

-- the value at a place and the one at a hand position; a hand position without a value is refused
-- before anything about an entry
abbrev pub with_place_and : State → Place → ℕ → (Tree → Tree → Outcome) → Outcome
with_place_and w place j go = with_value w j (λ u. with_place w place (λ t. go t u))

-- whether the place is this hand position
abbrev pub is_at : Place → ℕ → Bool
is_at (place.Hand i) j = nat_eq i j
is_at (place.Entry name) j = false

-- the state with these cells, and another value at a place
abbrev pub put_at : State → List Cell → Place → Tree → State
put_at w s (place.Hand i) t = with_cells w s (slice_set w.hand i t)
put_at w s (place.Entry name) t = record w { store = s; entries = changed_named (holding t) name w.entries }

-- the state after f is applied to the held value at the end of the chain from t, the value at a place
abbrev pub changed_by : State → Place → (Tree → Tree) → Tree → State
changed_by w place f t = put_at w (store_after f (end w.store [] t) w.store) place (value_after f (end w.store [] t) t)
