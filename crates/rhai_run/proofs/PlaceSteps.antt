-- Steps at a place, on two states that are equal up to a renaming.
use Rattle.std.proofs.Common.{◌≡◌, ℕ, Bool, List, [], length, refl}
use Rattle.std.specs.List.{AllZip}
use Rattle.rhai_value.specs.declared.cells.store.Cell.{Cell}
use Rattle.rhai_value.specs.Tree.{Tree}
use Rattle.rhai_value.specs.Store.{is_marked_at}
use Rattle.rhai_value.specs.Relation.{Renaming, Related, RelatedCells, Respect}
use Rattle.rhai_value.specs.End.{end}
use Rattle.rhai_value.proofs.ForCallers.{same_end, same_value_after, same_store_after, length_store_after, marked_store_after}
use Rattle.rhai_scope.specs.Entry.{with_value as holding}
use Rattle.rhai_scope.specs.Relation.{RelatedEntry}
use Rattle.rhai_scope.proofs.ForCallers.{same_last_entry, same_constant, same_changed_named, same_with_value}
use Rattle.rhai_run.specs.declared.command.Place.{Place}
use Rattle.rhai_run.specs.declared.command.Place.TheVariants as place
use Rattle.rhai_run.specs.Correspondence.{RelatedStates}
use Rattle.rhai_run.specs.Outcome.{Outcome, growing_if}
use Rattle.rhai_run.specs.Places.{changed_by, with_place, with_place_and, put_at}
use Rattle.rhai_run.specs.declared.answer.Answer.TheVariants.{Done}
use Rattle.rhai_run.specs.declared.answer.Refusal.TheVariants.{ConstantEntry, NoEntry}
use Rattle.rhai_run.specs.State.{State, with_hand}
use Rattle.rhai_run.proofs.Outcome.{Matches, no_cell, same_marked, m_given, m_unless, m_value, m_cells, set_hand}

module _ (r : Renaming) (w v : State) (h : RelatedStates r w v) where
  pub m_place : (p : Place) (f g : Tree → Outcome) → ((t u : Tree) → Related r t u → Matches r w v (f t) (g u)) → Matches r w v (with_place w p f) (with_place v p g)
  m_place (place.Hand i) f g k = m_value r w v h i f g k
  m_place (place.Entry name) f g k =
      m_given r w v h (RelatedEntry r) NoEntry _ _ _ _ (same_last_entry r name w.entries v.entries h.entries) (λ a b n.
      m_unless r w v h ConstantEntry _ _ _ _ (same_constant r a b n) (k a.value b.value n.2))

  pub m_place_and : (p : Place) (j : ℕ) (f g : Tree → Tree → Outcome) → ((t u x y : Tree) → Related r t u → Related r x y → Matches r w v (f t x) (g u y))
      → Matches r w v (with_place_and w p j f) (with_place_and v p j g)
  m_place_and p j f g k = m_value r w v h j _ _ (λ x y d. m_place p _ _ (λ t u e. k t u x y e d))

  -- another store with the same number of cells and the same marks, and another value at a place
  pub m_put : {a b : Bool} (p : Place) (s z : List Cell) (t u : Tree) → length s ≡ length w.store → length z ≡ length v.store → ((c : ℕ) → is_marked_at s c ≡ is_marked_at w.store c)
      → RelatedCells r s z → Related r t u → Matches r w v (growing_if a Done (put_at w s p t)) (growing_if b Done (put_at v z p u))
  m_put (place.Hand i) s z t u f g m c e = m_cells r w v h s z _ _ f g m c (set_hand r w v h i t u e)
  m_put (place.Entry name) s z t u f g m c e =
      no_cell r w v h _ _ Done Done refl f g
      (record { one = h.one; cells = c; entries = same_changed_named r (holding t) (holding u) name w.entries v.entries (same_with_value r t u e) h.entries; marks = h.marks; hand = h.hand; limits = h.limits })
      (same_marked w.store s w.marks m)

  -- a change of the held value at its end
  pub m_changed_by : {a b : Bool} (p : Place) (f g : Tree → Tree) (t u : Tree) → Respect r f g → Related r t u → Matches r w v (growing_if a Done (changed_by w p f t)) (growing_if b Done (changed_by v p g u))
  m_changed_by p f g t u k e =
      let ends = same_end r w.store v.store t u h.one h.cells e in
      m_put p _ _ _ _ (length_store_after f (end w.store [] t) w.store) (length_store_after g (end v.store [] u) v.store) (marked_store_after f (end w.store [] t) w.store)
      (same_store_after r f g w.store v.store k h.one h.cells (end w.store [] t) (end v.store [] u) ends)
      (same_value_after r f g t u k e (end w.store [] t) (end v.store [] u) ends)

-- states with another hand, and outcomes on these
pub hand_states : (r : Renaming) (w v : State) (ts us : List Tree) → RelatedStates r w v → AllZip (Related r) ts us → RelatedStates r (with_hand w ts) (with_hand v us)
hand_states r w v ts us h e = record { one = h.one; cells = h.cells; entries = h.entries; marks = h.marks; hand = e; limits = h.limits }

pub m_with_hand : (r : Renaming) (w v : State) (ts us : List Tree) (o p : Outcome) → Matches r (with_hand w ts) (with_hand v us) o p → Matches r w v o p
m_with_hand r w v ts us o p m = record { reply = m.reply; made = m.made; first = m.first; second = m.second; after = m.after; keeps = m.keeps }
