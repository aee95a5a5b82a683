-- The state after calls, of values that are equal up to a renaming of cells.
use Rattle.std.proofs.Common.{◌≡◌, ℕ, List, [], length, refl}
use Rattle.rhai_value.specs.declared.cells.store.Cell.{Cell}
use Rattle.rhai_value.specs.Tree.{Tree, node}
use Rattle.rhai_value.specs.Store.{is_marked_at}
use Rattle.rhai_value.specs.End.{end}
use Rattle.rhai_value.specs.Relation.{Renaming, Related, Respect, IsOneToOne, RelatedCells}
use Rattle.rhai_value.proofs.ForCallers.{same_end, same_value_after, same_store_after, length_store_after, marked_store_after}
use Rattle.rhai_ops.specs.Outcome.{Outcome, fault, too_large, answers, unsuited, RelatedOutcomes}
use Rattle.rhai_ops.specs.Effects.{Effect, operator, assignment, stays, taken, rewritten, on_value, answered, first_left, second_left, store_left}

-- f and g map related values to results related by R, and so are a and b
on_values : {A : Type 0} (r : Renaming) (R : A → A → Type 0) (f g : Tree → A) (a b : A) → ((t u : Tree) → Related r t u → R (f t) (g u)) → R a b
    → (o p : Outcome) → RelatedOutcomes r o p → R (on_value f a o) (on_value g b p)
on_values r R f g a b same other (answers t) (answers u) h = same t u h
on_values r R f g a b same other (fault c) (fault d) h = other
on_values r R f g a b same other (too_large k) (too_large j) h = other
on_values r R f g a b same other unsuited unsuited h = other
on_values r R f g a b same other _ _ h = absurd h

same_rewritten : (r : Renaming) (t u : Tree) → Related r t u → Respect r (rewritten t) (rewritten u)
same_rewritten r (node c g m) (node d k n) h (node a i j) (node b e f) q = (h.0, q.1, q.2)

pub same_answered : (r : Renaming) (w : Effect) (o p : Outcome) → RelatedOutcomes r o p → RelatedOutcomes r (answered w o) (answered w p)
same_answered r operator o p h = h
same_answered r (assignment q) o p h = on_values r (RelatedOutcomes r) _ _ o p (λ t u k. (refl, refl, refl)) h o p h

pub same_second_left : (r : Renaming) (w : Effect) (o p : Outcome) (t u : Tree) → RelatedOutcomes r o p → Related r t u → Related r (second_left w o t) (second_left w p u)
same_second_left r operator o p t u h k = k
same_second_left r (assignment stays) o p t u h k = k
same_second_left r (assignment taken) o p t u h k = on_values r (Related r) _ _ t u (λ x y e. (refl, refl, refl)) k o p h

module _ (r : Renaming) (s z : List Cell) (one : IsOneToOne r) (cells : RelatedCells r s z) (t u : Tree) (k : Related r t u) (o p : Outcome) (h : RelatedOutcomes r o p) where
  pub same_first_left : (w : Effect) → Related r (first_left w o s t) (first_left w p z u)
  same_first_left operator = k
  same_first_left (assignment q) =
      on_values r (Related r) _ _ t u (λ a b e. same_value_after r (rewritten a) (rewritten b) t u (same_rewritten r a b e) k (end s [] t) (end z [] u) (same_end r s z t u one cells k)) k o p h

  pub same_store_left : (w : Effect) → RelatedCells r (store_left w o s t) (store_left w p z u)
  same_store_left operator = cells
  same_store_left (assignment q) =
      on_values r (RelatedCells r) _ _ s z (λ a b e. same_store_after r (rewritten a) (rewritten b) s z (same_rewritten r a b e) one cells (end s [] t) (end z [] u) (same_end r s z t u one cells k)) cells o p h

-- a call adds no cell and changes no mark
pub length_store_left : (w : Effect) (o : Outcome) (s : List Cell) (t : Tree) → length (store_left w o s t) ≡ length s
length_store_left operator o s t = refl
length_store_left (assignment q) (answers v) s t = length_store_after (rewritten v) (end s [] t) s
length_store_left (assignment q) (fault f) s t = refl
length_store_left (assignment q) (too_large k) s t = refl
length_store_left (assignment q) unsuited s t = refl

pub marked_store_left : (w : Effect) (o : Outcome) (s : List Cell) (t : Tree) (d : ℕ) → is_marked_at (store_left w o s t) d ≡ is_marked_at s d
marked_store_left operator o s t d = refl
marked_store_left (assignment q) (answers v) s t d = marked_store_after (rewritten v) (end s [] t) s d
marked_store_left (assignment q) (fault f) s t d = refl
marked_store_left (assignment q) (too_large k) s t d = refl
marked_store_left (assignment q) unsuited s t d = refl
