-- The slot of a place's value: at a hand position, or in the entry at a position of the scope.
use Rattle.std.specs.Prelude.{◌≡◌, [], ℕ, Bool, false, nat_eq, if◌then◌else◌, List, slice_get, slice_set, Option, Some, None, option_map, Result, Ok, Err}
use Rattle.std.specs.Option.{ok_or}
use Rattle.rhai_text.specs.declared.token.Token.{Token}
use Rattle.rhai_ops.specs.Outcome as call
use Rattle.rhai_ops.specs.Results.{outcome, Suits}
use Rattle.rhai_ops.specs.Effects.{Effect, effect, first_left, second_left, store_left}
use Rattle.rhai_ops.specs.declared.builtin.FnBuiltin.{FnBuiltin}
use Rattle.rhai_value.specs.declared.cells.store.Cell.{Cell}
use Rattle.rhai_value.specs.End.{end}
use Rattle.rhai_value.specs.Tree.{Tree}
use Rattle.rhai_target.specs.Change.{Change, value_changed, store_changed}
use Rattle.rhai_scope.specs.Entry.{Entry, is_constant_entry, with_value as holding}
use Rattle.rhai_scope.specs.Lookup.{changed_at, last_entry, last_position}
use Rattle.rhai_run.specs.declared.command.Place.{Place}
use Rattle.rhai_run.specs.declared.command.Place.TheVariants as place
use Rattle.rhai_run.specs.declared.not_done.NotDone.{NotDone}
use Rattle.rhai_run.specs.declared.not_done.NotDone.TheVariants.{Refused, Memory}
use Rattle.rhai_run.specs.declared.slot.Slot.{Slot}
use Rattle.rhai_run.specs.declared.slot.Slot.TheVariants as slot
use Rattle.rhai_run.specs.State.{State, with_hand, with_cells}
use Rattle.rhai_run.specs.declared.answer.Refusal.{Refusal}
use Rattle.rhai_run.specs.declared.answer.Refusal.TheVariants.{NoValue, NoEntry, ConstantEntry}
use Rattle.rhai_run.specs.Outcome.{Outcome, given, refuse, with_value}
use Rattle.rhai_run.specs.Operators.{called}
use Rattle.rhai_run.specs.declared.command.Command.TheVariants as command
use Rattle.rhai_run.specs.Step.{step}

-- the value of an entry, or why there is none to write to
abbrev pub entry_found : Option Entry → Result Tree Refusal
entry_found None = Err NoEntry
entry_found (Some e) = if is_constant_entry e then Err ConstantEntry else Ok e.value

-- the same for a place
abbrev pub source : List Tree → List Entry → Place → Result Tree Refusal
source hand entries (place.Hand i) = ok_or (slice_get hand i) NoValue
source hand entries (place.Entry name) = entry_found (last_entry name entries)

-- the slot of a place, if there is one
abbrev pub slot_of : List Entry → Place → Option Slot
slot_of es (place.Hand i) = Some (slot.Hand i)
slot_of es (place.Entry name) = option_map slot.Entry (last_position name es)

-- the value there
abbrev pub value_in : List Tree → List Entry → Slot → Option Tree
value_in hand es (slot.Hand i) = slice_get hand i
value_in hand es (slot.Entry k) = option_map (λ e. e.value) (slice_get es k)

-- whether it is this hand position
abbrev pub is_in : Slot → ℕ → Bool
is_in (slot.Hand i) j = nat_eq i j
is_in (slot.Entry k) j = false

-- the state with these cells, and another value there
abbrev pub put_in : State → List Cell → Slot → Tree → State
put_in w s (slot.Hand i) t = with_cells w s (slice_set w.hand i t)
put_in w s (slot.Entry k) t = record w { store = s; entries = changed_at (holding t) w.entries k }

-- the state after a change of the held value at the end of the chain from t, the value there
abbrev pub changed_in : State → Slot → Change → Tree → State
changed_in w q c t = put_in w (store_changed c (end w.store [] t) w.store) q (value_changed c (end w.store [] t) t)

-- the state after an assignment with this outcome on the value t there has written
abbrev pub assigned_in : State → Slot → Effect → Tree → call.Outcome → State
assigned_in w q how t o = put_in w (store_left how o w.store t) q (first_left how o w.store t)

-- the same with u, what is left of the second operand, at its hand position
abbrev pub both_assigned : State → Slot → ℕ → Effect → Tree → Tree → call.Outcome → Outcome
both_assigned w q j how t u o = called w (λ d. assigned_in (with_hand w (slice_set w.hand j (second_left how o u))) q how t o) o

-- the call of a row on these operands
abbrev pub called_in : State → Slot → ℕ → FnBuiltin → Outcome
called_in w q j row =
    given (value_in w.hand w.entries q) NoValue w (λ t. with_value w j (λ u. both_assigned w q j (effect row) t u (outcome row w.limits w.store t u)))

-- the slot isn't the hand position, both have values, and the row suits them
abbrev pub HasOperands : FnBuiltin → State → Slot → ℕ → Type 0
HasOperands row w q j =
    (t u : Tree) × (is_in q j ≡ false) × (value_in w.hand w.entries q ≡ Some t) × (slice_get w.hand j ≡ Some u) × Suits row w.store t u

-- a row that was found has its operands, and the step is its call; or the step is the refusal
abbrev pub Looks : Result (FnBuiltin × Slot) NotDone → State → Token → Place → ℕ → Type 0
Looks (Ok found) w op place j = HasOperands found.0 w found.1 j × (step w (command.Assign op place j) ≡ called_in w found.1 j found.0)
Looks (Err (Refused why)) w op place j = step w (command.Assign op place j) ≡ refuse why w
Looks (Err Memory) w op place j = ⊥
