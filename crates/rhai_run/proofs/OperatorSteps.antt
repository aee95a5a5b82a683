-- Operators and assignments, on two states that are equal up to a renaming.
use Rattle.std.proofs.Common.{◌≡◌, ℕ, refl, ap, subst}
use Rattle.rhai_text.specs.declared.token.Token.{Token}
use Rattle.rhai_value.specs.Tree.{Tree, node}
use Rattle.rhai_value.specs.Relation.{Renaming, Related, Respect}
use Rattle.rhai_ops.specs.Outcome as call
use Rattle.rhai_ops.specs.Outcome.{no_place, RelatedOutcomes}
use Rattle.rhai_ops.specs.Results.{outcome}
use Rattle.rhai_ops.specs.Effects.{Effect, operator, assignment, stays, taken, effect, rewritten}
use Rattle.rhai_ops.specs.declared.builtin.FnBuiltin.{FnBuiltin}
use Rattle.rhai_ops.proofs.ForCallers.{same_row, same_assign_row, same_outcome}
use Rattle.rhai_value.proofs.ForCallers.{same_first, zip_set}
use Rattle.rhai_run.specs.declared.command.Place.{Place}
use Rattle.rhai_run.specs.Outcome.{growing}
use Rattle.rhai_run.specs.State.{State}
use Rattle.rhai_run.specs.declared.answer.Answer.TheVariants.{Done, Refused}
use Rattle.rhai_run.specs.declared.answer.Refusal.TheVariants.{NoBuiltin, SameValue, Fault}
use Rattle.rhai_text.specs.declared.error.EvalAltResult.TheVariants as error
use Rattle.rhai_run.specs.Operators.{assigned, called, left_over}
use Rattle.rhai_run.specs.Correspondence.{RelatedStates}
use Rattle.rhai_run.proofs.Outcome.{Matches, alike_same, m_stays, m_unless, m_given, m_two, m_appended}
use Rattle.rhai_run.proofs.PlaceSteps.{hand_states, m_changed_by, m_place_and, m_with_hand}
use Rattle.rhai_run.specs.declared.command.Command.TheVariants as command
use Rattle.rhai_run.specs.Step.{step}

-- the content of related values written over related ones, and what is left of these
same_rewritten : (r : Renaming) (a b : Tree) → Related r a b → Respect r (rewritten a) (rewritten b)
same_rewritten r (node c g m) (node d k n) e (node x l o) (node y i q) f = (e.0, f.1, f.2)

same_left_over : (r : Renaming) (how : Effect) (t u : Tree) → Related r t u → Related r (left_over how t) (left_over how u)
same_left_over r operator t u e = e
same_left_over r (assignment stays) t u e = e
same_left_over r (assignment taken) t u e = (refl, refl, refl)

module _ (r : Renaming) (w v : State) (h : RelatedStates r w v) where
  same_called : (f g : Tree → State) (o p : call.Outcome) → RelatedOutcomes r o p → ((t u : Tree) → o ≡ call.answers t → p ≡ call.answers u → Related r t u → Matches r w v (growing Done (f t)) (growing Done (g u)))
      → Matches r w v (called w f o) (called v g p)
  same_called f g (call.answers t) (call.answers u) e m = m t u refl refl e
  same_called f g (call.fault a) (call.fault b) e m = m_stays r w v h _ _ (ap (λ x. Refused (Fault (error.ErrorArithmetic x no_place))) e)
  same_called f g (call.too_large k) (call.too_large j) e m = m_stays r w v h _ _ (ap (λ x. Refused (Fault (error.ErrorDataTooLarge x no_place))) e)
  same_called f g call.unsuited call.unsuited e m = m_stays r w v h _ _ refl
  same_called f g (call.answers t) (call.fault b) e m = absurd e
  same_called f g (call.answers t) (call.too_large j) e m = absurd e
  same_called f g (call.answers t) call.unsuited e m = absurd e
  same_called f g (call.fault a) (call.answers u) e m = absurd e
  same_called f g (call.fault a) (call.too_large j) e m = absurd e
  same_called f g (call.fault a) call.unsuited e m = absurd e
  same_called f g (call.too_large k) (call.answers u) e m = absurd e
  same_called f g (call.too_large k) (call.fault b) e m = absurd e
  same_called f g (call.too_large k) call.unsuited e m = absurd e
  same_called f g call.unsuited (call.answers u) e m = absurd e
  same_called f g call.unsuited (call.fault b) e m = absurd e
  same_called f g call.unsuited (call.too_large j) e m = absurd e

  same_comes : (t u x y : Tree) → Related r t u → Related r x y → (row row' : FnBuiltin) → row ≡ row' → RelatedOutcomes r (outcome row w.limits w.store t x) (outcome row' v.limits v.store u y)
  same_comes t u x y e d row row' same =
      subst (λ b. RelatedOutcomes r (outcome row w.limits w.store t x) (outcome b v.limits v.store u y)) same
      (subst (λ l. RelatedOutcomes r (outcome row w.limits w.store t x) (outcome row l v.store u y)) h.limits (same_outcome r w.store v.store h.one h.cells t u x y e d row w.limits))

  pub same_binary : (op : Token) (i j : ℕ) → Matches r w v (step w (command.Binary op i j)) (step v (command.Binary op i j))
  same_binary op i j =
      m_two r w v h i j _ _ (λ t u x y e d.
      m_given r w v h (λ a b. a ≡ b) NoBuiltin _ _ _ _ (alike_same _ _ (same_row r w.store v.store h.one h.cells op t u x y e d)) (λ row row' same.
      same_called _ _ _ _ (same_comes t u x y e d row row' same) (λ a b _ _ k. m_appended r w v h a b k)))

  -- the state of an assignment's place and its second operand
  same_assigned : (p : Place) (j : ℕ) (how : Effect) (o q : call.Outcome) (t u x y : Tree) → RelatedOutcomes r o q → Related r t u → Related r x y
      → Matches r w v (assigned w p j how t x o) (assigned v p j how u y q)
  same_assigned p j how o q t u x y k e d =
      let hands = zip_set (Related r) w.hand v.hand j _ _ h.hand (same_left_over r how x y d) in
      same_called _ _ o q k (λ a b _ _ n. m_with_hand r w v _ _ _ _ (m_changed_by r _ _ (hand_states r w v _ _ h hands) p (rewritten a) (rewritten b) t u (same_rewritten r a b n) e))

  pub same_assign : (op : Token) (p : Place) (j : ℕ) → Matches r w v (step w (command.Assign op p j)) (step v (command.Assign op p j))
  same_assign op p j =
      m_place_and r w v h p j _ _ (λ t u x y e d.
      m_unless r w v h SameValue _ _ _ _ refl (m_given r w v h (Related r) (Fault (error.ErrorDataRace no_place)) _ _ _ _ (same_first r w.store v.store h.cells t u e) (λ a b k.
      m_given r w v h (λ c c'. c ≡ c') NoBuiltin _ _ _ _ (alike_same _ _ (same_assign_row r w.store v.store h.one h.cells a b x y k d op)) (λ row row' same.
      subst (λ b. Matches r w v (assigned w p j (effect row) t x (outcome row w.limits w.store t x)) (assigned v p j (effect b) u y (outcome b v.limits v.store u y))) same
      (same_assigned p j (effect row) _ _ t u x y (same_comes t u x y e d row row refl) e d)))))

-- the steps in this file
pub ruleset operator_steps = (same_binary, same_assign)
