-- Calling an assignment's row.
use Rattle.std.proofs.Common.{◌<◌, length, length-set, IsSomeAnd, IsTrue, ◌≡◌, ℕ, zero, suc, false, List, [], ◌∷◌, slice_get, slice_set, Some, Result, Ok, Err, IfSome, OnOk, OnErr, refl, sym, ap, ◌∙◌, subst, arith}
use Rattle.std.proofs.lemmas.Bool.Decides.{nat_tests}
use Rattle.std.proofs.lemmas.List.{set-set}
use Rattle.std.proofs.lemmas.Option.{same_Some, slice_get_within}
use Rattle.rhai_text.specs.declared.error.EvalAltResult.{EvalAltResult}
use Rattle.rhai_text.specs.declared.token.Token.{Token}
use Rattle.rhai_value.specs.End.{end, first, store_after, value_after}
use Rattle.rhai_value.specs.Tree.{Tree, fresh, unit}
use Rattle.rhai_value.proofs.ForCallers.{get_set_other}
use Rattle.rhai_scope.specs.Entry.{Entry}
use Rattle.rhai_ops.specs.AssignTable.{assign_row}
use Rattle.rhai_ops.specs.Outcome as call
use Rattle.rhai_ops.specs.Outcome.{IsOutcome}
use Rattle.rhai_ops.specs.Results.{MayWant, Suits, outcome}
use Rattle.rhai_ops.specs.Effects.{Effect, operator, assignment, stays, taken, effect, answered, first_left, rewritten, second_left, store_left, writes}
use Rattle.rhai_ops.specs.declared.builtin.FnBuiltin.{FnBuiltin}
use Rattle.rhai_run.specs.declared.command.Place.{Place}
use Rattle.rhai_run.specs.declared.slot.Slot.{Slot}
use Rattle.rhai_run.specs.declared.slot.Slot.TheVariants as slot
use Rattle.rhai_run.specs.State.{State, with_hand}
use Rattle.rhai_run.specs.declared.answer.Answer.TheVariants.{Done}
use Rattle.rhai_run.specs.Outcome.{growing}
use Rattle.rhai_run.specs.Does.{Calls, IsError, not_done_of}
use Rattle.rhai_run.specs.Operators.{assigned, called}
use Rattle.rhai_run.specs.Places.{is_at}
use Rattle.rhai_run.specs.Slots.{assigned_in, both_assigned, called_in, is_in, slot_of, source, value_in, HasOperands}
use Rattle.rhai_run.proofs.InSlots.{placed_is, same_put}
use Rattle.rhai_run.proofs.Called.{refusal_of}
use Rattle.rhai_run.proofs.Moves.{set_own}
use Rattle.rhai_run.specs.declared.command.Command.TheVariants as command
use Rattle.rhai_run.specs.Step.{step}

-- writes to two indices of a list
set_other : (ts : List Tree) (i j : ℕ) (x y d : Tree) → (i ≡ j → ⊥) → slice_set (slice_set (slice_set ts j d) i x) j y ≡ slice_set (slice_set ts j y) i x
set_other [] i j x y d e = refl
set_other (t ∷ ts) zero zero x y d e = absurd (e refl)
set_other (t ∷ ts) zero (suc j) x y d e = ap (λ us. x ∷ us) (set-set ts j d y)
set_other (t ∷ ts) (suc i) zero x y d e = refl
set_other (t ∷ ts) (suc i) (suc j) x y d e = ap (λ us. t ∷ us) (set_other ts i j x y d (λ k. e (ap suc k)))

-- the value at a place while another one of the hand is moved out
pub value_apart : (ts : List Tree) (es : List Entry) (q : Slot) (j : ℕ) (d : Tree) → is_in q j ≡ false → value_in (slice_set ts j d) es q ≡ value_in ts es q
value_apart ts es (slot.Hand i) j d e = let n : i ≡ j → ⊥ = grind (arith, nat_tests, e) in get_set_other ts j i d n
value_apart ts es (slot.Entry k) j d e = refl

-- the other one's new value is put back
put_back : (w : State) (p : Slot) (j : ℕ) (how : Effect) (t d y : Tree) (o : call.Outcome) → is_in p j ≡ false
    → with_hand (assigned_in (with_hand w (slice_set w.hand j d)) p how t o) (slice_set (assigned_in (with_hand w (slice_set w.hand j d)) p how t o).hand j y) ≡ assigned_in (with_hand w (slice_set w.hand j y)) p how t o
put_back w (slot.Hand i) j how t d y o e = ap (λ ts. record w { store = store_left how o w.store t; hand = ts }) (set_other w.hand i j (first_left how o w.store t) y d (let n : i ≡ j → ⊥ = grind (arith, nat_tests, e) in n))
put_back w (slot.Entry k) j how t d y o e = ap (λ ts. (record (assigned_in w (slot.Entry k) how t o) { hand = ts })) (set-set w.hand j d y)

-- the outcome of a call that is done
answered_value : (w : State) (how : Effect) (after : State) (d : Tree) (o : call.Outcome) → answered how o ≡ call.answers d → called w (λ _. after) o ≡ growing Done after
answered_value w operator after d o e = ap (called w (λ _. after)) e
answered_value w (assignment q) after d (call.answers t) e = refl
answered_value w (assignment q) after d (call.fault f) e = cc
answered_value w (assignment q) after d (call.too_large k2) e = cc
answered_value w (assignment q) after d call.unsuited e = cc

-- a row that writes has the same effect in the slot of a place
same_assigned : (w : State) (p : Place) (q : Slot) (j : ℕ) (how : Effect) (t u : Tree) (o : call.Outcome) → slot_of w.entries p ≡ Some q → IsTrue (writes how) → assigned w p j how t u o ≡ both_assigned w q j how t u o
same_assigned w p q j operator t u o is h = cc
same_assigned w p q j (assignment stays) t u (call.answers d) is h =
    ap (growing Done) (same_put (with_hand w (slice_set w.hand j u)) (store_after (rewritten d) (end w.store [] t) w.store) p q (value_after (rewritten d) (end w.store [] t) t) is)
same_assigned w p q j (assignment taken) t u (call.answers d) is h =
    ap (growing Done) (same_put (with_hand w (slice_set w.hand j (fresh unit))) (store_after (rewritten d) (end w.store [] t) w.store) p q (value_after (rewritten d) (end w.store [] t) t) is)
same_assigned w p q j (assignment s) t u (call.fault f) is h = refl
same_assigned w p q j (assignment s) t u (call.too_large k) is h = refl
same_assigned w p q j (assignment s) t u call.unsuited is h = refl

-- the step of a row that was found
pub assign_is : (w : State) (op : Token) (p : Place) (q : Slot) (j : ℕ) (t u x : Tree) (row : FnBuiltin) → slice_get w.hand j ≡ Some u → is_at p j ≡ false → slot_of w.entries p ≡ Some q
    → source w.hand w.entries p ≡ Ok t → value_in w.hand w.entries q ≡ Some t → first w.store t ≡ Some x → assign_row op x u ≡ Some row → IsTrue (writes (effect row)) → step w (command.Assign op p j) ≡ called_in w q j row
assign_is w op p q j t u x row b c is d v e f h =
    rw (b, v) (placed_is w p t _ d ∙ rw (c, e, f) (same_assigned w p q j (effect row) t u (outcome row w.limits w.store t u) is h))

-- the call, with the second operand moved out of the hand meanwhile
pub assign_called : (w v : State) (p : Slot) (j : ℕ) (row : FnBuiltin) (t u d y : Tree) (ts : List Tree) (r : Result Tree EvalAltResult)
    → is_in p j ≡ false → value_in w.hand w.entries p ≡ Some t → slice_get w.hand j ≡ Some u → ts ≡ slice_set w.hand j d
    → IfSome (value_in ts w.entries p) (λ x. IsOutcome (MayWant row x u) r (answered (effect row) (outcome row w.limits w.store x u)))
    → OnOk r (IfSome (value_in ts w.entries p) (λ x. assigned_in (with_hand w ts) p (effect row) x (outcome row w.limits w.store x u) ≡ v))
    → OnOk r (IfSome (value_in ts w.entries p) (λ x. y ≡ second_left (effect row) (outcome row w.limits w.store x u) u))
    → OnErr r ((v ≡ with_hand w ts) × (y ≡ u))
    → Calls r w (with_hand v (slice_set v.hand j y)) (called_in w p j row)
assign_called w v p j row t u d y ts r apart at other moved result written second kept = by r result written second kept
  where
    o : call.Outcome
    o = outcome row w.limits w.store t u

    same : value_in ts w.entries p ≡ Some t
    same = ap (λ us. value_in us w.entries p) moved ∙ value_apart w.hand w.entries p j d apart ∙ at

    is : called_in w p j row ≡ both_assigned w p j (effect row) t u o
    is = rw (at, other) refl

    of_found : (P : Tree → Type 0) → IfSome (value_in ts w.entries p) P → P t
    of_found P h = subst (λ s. IfSome s P) same h

    by : (q : Result Tree EvalAltResult) → IfSome (value_in ts w.entries p) (λ x. IsOutcome (MayWant row x u) q (answered (effect row) (outcome row w.limits w.store x u)))
        → OnOk q (IfSome (value_in ts w.entries p) (λ x. assigned_in (with_hand w ts) p (effect row) x (outcome row w.limits w.store x u) ≡ v))
        → OnOk q (IfSome (value_in ts w.entries p) (λ x. y ≡ second_left (effect row) (outcome row w.limits w.store x u) u))
        → OnErr q ((v ≡ with_hand w ts) × (y ≡ u)) → Calls q w (with_hand v (slice_set v.hand j y)) (called_in w p j row)
    by (Ok a) h k l m =
        let left : v ≡ assigned_in (with_hand w (slice_set w.hand j d)) p (effect row) t o =
        sym (of_found (λ x. assigned_in (with_hand w ts) p (effect row) x (outcome row w.limits w.store x u) ≡ v) k) ∙ ap (λ us. assigned_in (with_hand w us) p (effect row) t o) moved in
        let what : y ≡ second_left (effect row) o u = of_found (λ x. y ≡ second_left (effect row) (outcome row w.limits w.store x u) u) l in
        is ∙ answered_value w (effect row) _ a o (of_found (λ x. IsOutcome (MayWant row x u) (Ok a) (answered (effect row) (outcome row w.limits w.store x u))) h)
        ∙ ap (growing Done) (sym (ap (λ z. with_hand z (slice_set z.hand j y)) left ∙ put_back w p j (effect row) t d y o apart ∙ ap (λ z. assigned_in (with_hand w (slice_set w.hand j z)) p (effect row) t o) what))
    by (Err e) h k l m =
        let back : with_hand v (slice_set v.hand j y) ≡ w =
        ap (λ z. with_hand z (slice_set z.hand j y)) m.0 ∙ ap (λ us. with_hand w (slice_set us j y)) moved ∙ ap (with_hand w) (set-set w.hand j d y ∙ ap (slice_set w.hand j) m.1 ∙ set_own w.hand j u other) in
        (subst (IsError (not_done_of e) w) (sym is) (refusal_of (MayWant row t u) w (effect row) _ e o (of_found (λ x. IsOutcome (MayWant row x u) (Err e) (answered (effect row) (outcome row w.limits w.store x u))) h)), back)

-- the operands, as the code finds them in memory
pub operands_moved : (w v : State) (row : FnBuiltin) (p : Slot) (j : ℕ) (y d : Tree) (ts : List Tree) → v ≡ w → HasOperands row w p j → slice_get v.hand j ≡ Some y → ts ≡ slice_set v.hand j d
    → IsSomeAnd (value_in ts v.entries p) (λ x. Suits row v.store x y)
operands_moved w v row p j y d ts same k at moved = subst (λ (z : State). IsSomeAnd (value_in ts z.entries p) (λ x. Suits row z.store x y)) (sym same) (of_w (ap (λ (z : State). slice_get z.hand j) (sym same) ∙ at) (moved ∙ ap (λ (z : State). slice_set z.hand j d) same))
  where
    of_w : slice_get w.hand j ≡ Some y → ts ≡ slice_set w.hand j d → IsSomeAnd (value_in ts w.entries p) (λ x. Suits row w.store x y)
    of_w at moved =
        let there : value_in ts w.entries p ≡ Some k.0 = ap (λ us. value_in us w.entries p) moved ∙ value_apart w.hand w.entries p j d k.2 ∙ k.3 in
        let it : k.1 ≡ y = same_Some k.1 y (sym k.4 ∙ at) in
        subst (λ o. IsSomeAnd o (λ x. Suits row w.store x y)) (sym there) (subst (Suits row w.store k.0) it k.5)

pub assign_moved : (w v x z : State) (p : Slot) (j : ℕ) (row : FnBuiltin) (u d y : Tree) (ts us : List Tree) (r : Result Tree EvalAltResult) → v ≡ w → HasOperands row w p j
    → slice_get v.hand j ≡ Some u → ts ≡ slice_set v.hand j d
    → IfSome (value_in ts v.entries p) (λ t. IsOutcome (MayWant row t u) r (answered (effect row) (outcome row v.limits v.store t u)))
    → OnOk r (IfSome (value_in ts v.entries p) (λ t. assigned_in (with_hand v ts) p (effect row) t (outcome row v.limits v.store t u) ≡ x))
    → OnOk r (IfSome (value_in ts v.entries p) (λ t. y ≡ second_left (effect row) (outcome row v.limits v.store t u) u))
    → OnErr r ((x ≡ with_hand v ts) × (y ≡ u)) → z ≡ x → us ≡ slice_set z.hand j y
    → Calls r w (with_hand z us) (called_in w p j row)
assign_moved w v x z p j row u d y ts us r same k at moved result written second kept is put =
    let there : value_in v.hand v.entries p ≡ Some k.0 = ap (λ (q : State). value_in q.hand q.entries p) same ∙ k.3 in
    let done : Calls r v (with_hand x (slice_set x.hand j y)) (called_in v p j row) = assign_called v x p j row k.0 u d y ts r k.2 there at moved result written second kept in
    subst (λ q. Calls r q (with_hand z us) (called_in q p j row)) same
    (subst (λ q. Calls r v q (called_in v p j row)) (sym (ap (with_hand z) put ∙ ap (λ (q : State). with_hand q (slice_set q.hand j y)) is)) done)

-- the length of the hand is unchanged
pub hand_stays : (v : State) (j : ℕ) (u d : Tree) (ts us : List Tree) → slice_get v.hand j ≡ Some u → ts ≡ slice_set v.hand j d → length us ≡ length ts → j < length us
hand_stays v j u d ts us at moved long =
    let n : j < length v.hand = slice_get_within v.hand j u at in
    let m : length ts ≡ length v.hand = ap length moved ∙ length-set v.hand j d in
    omega (arith, n, m, long)
