-- The slot of a place: look-ups, writes and tests agree with the place.
use Rattle.std.proofs.Common.{◌≡◌, ℕ, Bool, true, false, cond, nat_eq, [], List, slice_get, slice_set, Option, Some, None, option_map, Result, Ok, Err, refl, sym, ap, ◌∙◌, subst}
use Rattle.std.specs.Option.{ok_or}
use Rattle.std.proofs.lemmas.Option.{same_Some}
use Rattle.rhai_value.specs.End.{end, store_after, value_after}
use Rattle.rhai_value.specs.declared.cells.store.Cell.{Cell}
use Rattle.rhai_value.specs.Tree.{Tree}
use Rattle.rhai_scope.specs.Entry.{Entry, is_constant_entry, with_value as holding}
use Rattle.rhai_scope.specs.Lookup.{changed_if, last_entry, last_position}
use Rattle.rhai_run.specs.declared.command.Place.{Place}
use Rattle.rhai_run.specs.declared.command.Place.TheVariants as place
use Rattle.rhai_run.specs.declared.slot.Slot.{Slot}
use Rattle.rhai_run.specs.declared.slot.Slot.TheVariants as slot
use Rattle.rhai_run.specs.State.{State, with_cells}
use Rattle.rhai_run.specs.declared.answer.Refusal.{Refusal}
use Rattle.rhai_run.specs.declared.answer.Refusal.TheVariants.{NoValue, NoEntry, ConstantEntry}
use Rattle.rhai_run.specs.Outcome.{Outcome, given, refuse, unless}
use Rattle.rhai_run.specs.Places.{changed_by, is_at, put_at, with_place}
use Rattle.rhai_run.specs.Slots.{changed_in, entry_found, is_in, put_in, slot_of, source}

-- a write in the slot of a place
pub same_put : (w : State) (c : List Cell) (p : Place) (q : Slot) (t : Tree) → slot_of w.entries p ≡ Some q → put_at w c p t ≡ put_in w c q t
same_put w c (place.Hand i) (slot.Hand k) t e = let same : i ≡ k = cc in ap (λ n. with_cells w c (slice_set w.hand n t)) same
same_put w c (place.Hand i) (slot.Entry k) t e = cc
same_put w c (place.Entry name) q t e = by (last_position name w.entries) e
  where
    by : (o : Option ℕ) → option_map slot.Entry o ≡ Some q → record w { store = c; entries = changed_if (holding t) w.entries o } ≡ put_in w c q t
    by None e = cc
    by (Some k) e = ap (λ r. put_in w c r t) (same_Some (slot.Entry k) q e)

-- the slot of a place other than a hand position
pub slot_apart : (es : List Entry) (p : Place) (q : Slot) (j : ℕ) → slot_of es p ≡ Some q → is_at p j ≡ false → is_in q j ≡ false
slot_apart es (place.Hand i) (slot.Hand k) j e f = let same : i ≡ k = cc in subst (λ n. nat_eq n j ≡ false) same f
slot_apart es (place.Hand i) (slot.Entry k) j e f = refl
slot_apart es (place.Entry name) (slot.Entry k) j e f = refl
slot_apart es (place.Entry name) (slot.Hand k) j e f = by (last_position name es) e
  where
    by : (o : Option ℕ) → option_map slot.Entry o ≡ Some (slot.Hand k) → nat_eq k j ≡ false
    by None e = cc
    by (Some i) e = cc

-- the value in the slot of a place is that of the place
pub source_is : (o : Option Tree) (s : Result Tree Refusal) (x : Tree) → option_map Ok o ≡ Some s → o ≡ Some x → s ≡ Ok x
source_is o s x e f = sym (same_Some (Ok x) s (ap (option_map Ok) (sym f) ∙ e))

-- the outcome for the value at a place, or why there is none
entry_is : (o : Option Entry) (w : State) (t : Tree) (go : Tree → Outcome) → entry_found o ≡ Ok t → given o NoEntry w (λ e. unless (is_constant_entry e) ConstantEntry w (go e.value)) ≡ go t
entry_is None w t go e = cc
entry_is (Some x) w t go e = by (is_constant_entry x) e
  where
    by : (b : Bool) → cond b (Err ConstantEntry) (Ok x.value) ≡ Ok t → unless b ConstantEntry w (go x.value) ≡ go t
    by true e = cc
    by false e = let same : x.value ≡ t = cc in ap go same

pub placed_is : (w : State) (p : Place) (t : Tree) (go : Tree → Outcome) → source w.hand w.entries p ≡ Ok t → with_place w p go ≡ go t
placed_is w (place.Entry name) t go e = entry_is (last_entry name w.entries) w t go e
placed_is w (place.Hand i) t go e = by (slice_get w.hand i) e
  where
    by : (o : Option Tree) → ok_or o NoValue ≡ Ok t → given o NoValue w go ≡ go t
    by None e = cc
    by (Some x) e = let same : x ≡ t = cc in ap go same

entry_refused : (o : Option Entry) (w : State) (why : Refusal) (go : Tree → Outcome) → entry_found o ≡ Err why → given o NoEntry w (λ e. unless (is_constant_entry e) ConstantEntry w (go e.value)) ≡ refuse why w
entry_refused None w why go e = let same : NoEntry ≡ why = cc in ap (λ x. refuse x w) same
entry_refused (Some x) w why go e = by (is_constant_entry x) e
  where
    by : (b : Bool) → cond b (Err ConstantEntry) (Ok x.value) ≡ Err why → unless b ConstantEntry w (go x.value) ≡ refuse why w
    by true e = let same : ConstantEntry ≡ why = cc in ap (λ x. refuse x w) same
    by false e = cc

pub placed_refused : (w : State) (p : Place) (why : Refusal) (go : Tree → Outcome) → source w.hand w.entries p ≡ Err why → with_place w p go ≡ refuse why w
placed_refused w (place.Entry name) why go e = entry_refused (last_entry name w.entries) w why go e
placed_refused w (place.Hand i) why go e = by (slice_get w.hand i) e
  where
    by : (o : Option Tree) → ok_or o NoValue ≡ Err why → given o NoValue w go ≡ refuse why w
    by None e = let same : NoValue ≡ why = cc in ap (λ x. refuse x w) same
    by (Some x) e = cc

-- a change there
pub same_change : (w : State) (p : Place) (q : Slot) (f : Tree → Tree) (t : Tree) → slot_of w.entries p ≡ Some q → changed_in w q (Some f) t ≡ changed_by w p f t
same_change w p q f t e = sym (same_put w (store_after f (end w.store [] t) w.store) p q (value_after f (end w.store [] t) t) e)
