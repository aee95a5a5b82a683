-- The value in a slot: reading, writing, and writing it over itself.
use Rattle.std.proofs.Common.{◌<◌, length, length-set, ◌≡◌, ℕ, zero, suc, true, is_some, List, [], ◌∷◌, slice_get, Option, Some, None, option_map, refl, sym, ap}
use Rattle.std.proofs.lemmas.Option.{same_Some, slice_get_within}
use Rattle.rhai_value.specs.Tree.{Tree}
use Rattle.rhai_scope.specs.Entry.{Entry, with_value as holding}
use Rattle.rhai_scope.specs.Lookup.{changed_at}
use Rattle.rhai_run.specs.declared.slots.Slots.{Slots}
use Rattle.rhai_run.specs.declared.slot.Slot.{Slot}
use Rattle.rhai_run.specs.declared.slot.Slot.TheVariants as slot
use Rattle.rhai_run.specs.Lent.{placed_in}
use Rattle.rhai_run.specs.Slots.{value_in}
use Rattle.rhai_run.proofs.Moves.{set_own}

entry_kept : (es : List Entry) (k : ℕ) (t : Tree) → option_map (λ e. e.value) (slice_get es k) ≡ Some t → changed_at (holding t) es k ≡ es
entry_kept [] k t e = refl
entry_kept (x ∷ es) zero t e = ap (λ v. holding v x ∷ es) (sym (same_Some x.value t e))
entry_kept (x ∷ es) (suc k) t e = ap (λ fs. x ∷ fs) (entry_kept es k t e)

pub hand_kept : (h : Slots) (q : Slot) (t u : Tree) → value_in h.hand.now.items h.scope.now q ≡ Some t → u ≡ t → (placed_in h q u).hand.now.items ≡ h.hand.now.items
hand_kept h (slot.Hand i) t u e f = rw f (set_own h.hand.now.items i t e)
hand_kept h (slot.Entry k) t u e f = refl

pub scope_kept : (h : Slots) (q : Slot) (t u : Tree) → value_in h.hand.now.items h.scope.now q ≡ Some t → u ≡ t → (placed_in h q u).scope.now ≡ h.scope.now
scope_kept h (slot.Hand i) t u e f = refl
scope_kept h (slot.Entry k) t u e f = rw f (entry_kept h.scope.now k t e)

pub placed_length : (h : Slots) (q : Slot) (u : Tree) → length (placed_in h q u).hand.now.items ≡ length h.hand.now.items
placed_length h (slot.Hand i) u = length-set h.hand.now.items i u
placed_length h (slot.Entry k) u = refl

-- a slot with a value
pub hand_within : (xs : List Tree) (es : List Entry) (i : ℕ) → is_some (value_in xs es (slot.Hand i)) ≡ true → i < length xs
hand_within xs es i h = by (slice_get xs i) refl h
  where
    by : (o : Option Tree) → slice_get xs i ≡ o → is_some o ≡ true → i < length xs
    by None e h = cc
    by (Some t) e h = slice_get_within xs i t e

pub entry_within : (xs : List Tree) (es : List Entry) (k : ℕ) → is_some (value_in xs es (slot.Entry k)) ≡ true → k < length es
entry_within xs es k h = by (slice_get es k) refl h
  where
    by : (o : Option Entry) → slice_get es k ≡ o → is_some (option_map (λ e. e.value) o) ≡ true → k < length es
    by None e h = cc
    by (Some t) e h = slice_get_within es k t e
