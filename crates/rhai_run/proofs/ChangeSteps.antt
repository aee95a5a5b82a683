-- Steps that change values, on two states that are equal up to a renaming.
use Rattle.std.proofs.Common.{ℕ, ℤ, pos, [], ◌++◌, length, slice_set, refl, length-append}
use Rattle.rhai_value.specs.declared.value.access_mode.AccessMode.TheVariants.{ReadOnly}
use Rattle.rhai_value.specs.Tree.{Tree, node, holder, mode_of}
use Rattle.rhai_value.specs.Parts.{leaf_int, int_of, with_int}
use Rattle.rhai_value.specs.Store.{added}
use Rattle.rhai_value.specs.End.{end, first}
use Rattle.rhai_value.specs.Relation.{Renaming, Related}
use Rattle.rhai_value.proofs.ForCallers.{zip_set, zip_weaker, one_pair, paired_more, related_more, one_more, same_added, new_last, Paired, same_end, same_paint, same_with_tag, same_shared, same_mode, same_with_int, same_held_leaf, same_end_type, marked_added, marked_with_first, same_first, same_flattened, same_value_with_first, same_store_with_first, length_with_first}
use Rattle.rhai_run.specs.State.{State, with_cells}
use Rattle.rhai_run.specs.declared.answer.Answer.TheVariants.{Done}
use Rattle.rhai_run.specs.declared.answer.Refusal.TheVariants.{Fault}
use Rattle.rhai_text.specs.declared.error.EvalAltResult.TheVariants as error
use Rattle.rhai_run.specs.Outcome.{growing}
use Rattle.rhai_ops.specs.Outcome.{no_place}
use Rattle.rhai_run.specs.declared.command.Place.TheVariants as place
use Rattle.rhai_run.proofs.PlaceSteps.{m_changed_by}
use Rattle.rhai_scope.specs.Relation.{RelatedEntry}
use Rattle.rhai_run.specs.Correspondence.{RelatedStates}
use Rattle.rhai_run.proofs.Outcome.{Matches, same_marked, m_either, m_stays, m_given, m_of_held, m_value, m_two, m_cells, m_replaced, m_hand, set_hand, moved_hand}
use Rattle.rhai_run.specs.declared.command.Command.TheVariants as command
use Rattle.rhai_run.specs.Step.{step}

module _ (r : Renaming) (w v : State) (h : RelatedStates r w v) where
  -- one more pair, and new values at a hand position
  shared_states : (i : ℕ) (t u x y : Tree) → Related r t u → Related (r ++ one_pair (length w.store) (length v.store)) x y
      → RelatedStates (r ++ one_pair (length w.store) (length v.store)) (with_cells w (added w.store t) (slice_set w.hand i x)) (with_cells v (added v.store u) (slice_set v.hand i y))
  shared_states i t u x y e k =
      let q : Renaming = one_pair (length w.store) (length v.store) in
      record {
        one = one_more r w.store v.store h.one h.cells;
        cells = same_added r w.store v.store t u h.cells e;
        entries = zip_weaker (RelatedEntry r) (RelatedEntry (r ++ q)) (λ a b n. (n.0, n.1, related_more r q a.value b.value n.2)) w.entries v.entries h.entries;
        marks = zip_weaker (Paired r) (Paired (r ++ q)) (paired_more r q) w.marks v.marks h.marks;
        hand = zip_set (Related (r ++ q)) w.hand v.hand i x y (zip_weaker (Related r) (Related (r ++ q)) (related_more r q) w.hand v.hand h.hand) k;
        limits = h.limits;
      }

  -- a value moves into a new cell of each state
  new_cell : (i : ℕ) (t u : Tree) → Related r t u
      → Matches r w v (growing Done (with_cells w (added w.store t) (slice_set w.hand i (node (holder (length w.store)) (pos 0) (mode_of t))))) (growing Done (with_cells v (added v.store u) (slice_set v.hand i (node (holder (length v.store)) (pos 0) (mode_of u)))))
  new_cell i t u e =
      record {
        reply = refl;
        made = 1;
        first = length-append w.store _;
        second = length-append v.store _;
        after = shared_states i t u _ _ e (new_last r (length w.store) (length v.store), refl, same_mode r t u e);
        keeps = same_marked w.store _ w.marks (marked_added w.store t);
      }

  pub same_share : (i : ℕ) → Matches r w v (step w (command.Share i)) (step v (command.Share i))
  same_share i = m_value r w v h i _ _ (λ t u e. m_either r w v h _ _ (same_shared r t u e) (m_stays r w v h Done Done refl) (new_cell i t u e))

  pub same_flatten : (i : ℕ) → Matches r w v (step w (command.Flatten i)) (step v (command.Flatten i))
  same_flatten i =
      m_value r w v h i _ _ (λ t u e. m_either r w v h _ _ (same_shared r t u e)
      (m_hand r w v h _ _ (set_hand r w v h i _ _ (same_flattened r w.store v.store t u h.one h.cells e))) (m_stays r w v h Done Done refl))

  pub same_make_read_only : (i : ℕ) → Matches r w v (step w (command.MakeReadOnly i)) (step v (command.MakeReadOnly i))
  same_make_read_only i = m_replaced r w v h i _ _ (same_paint r ReadOnly)

  pub same_set_tag : (i : ℕ) (g : ℤ) → Matches r w v (step w (command.SetTag i g)) (step v (command.SetTag i g))
  same_set_tag i g = m_replaced r w v h i _ _ (same_with_tag r g)

  pub same_write_int : (i : ℕ) (n : ℤ) → Matches r w v (step w (command.WriteInt i n)) (step v (command.WriteInt i n))
  same_write_int i n =
      m_value r w v h i _ _ (λ t u e.
      let ends = same_end r w.store v.store t u h.one h.cells e in
      m_of_held r w v h int_of (end w.store [] t) (end v.store [] u) _ _ (same_held_leaf r leaf_int _ _ ends) (same_end_type r _ _ ends)
      (λ m. m_changed_by r w v h (place.Hand i) (with_int n) (with_int n) t u (same_with_int r n) e))

  pub same_write : (i j : ℕ) → Matches r w v (step w (command.Write i j)) (step v (command.Write i j))
  same_write i j =
      m_two r w v h i j _ _ (λ t u x y e d. m_given r w v h (Related r) (Fault (error.ErrorDataRace no_place)) (first w.store t) (first v.store u) _ _ (same_first r w.store v.store h.cells t u e) (λ a b c.
      m_cells r w v h _ _ _ _ (length_with_first x w.store t) (length_with_first y v.store u) (marked_with_first x w.store t)
      (same_store_with_first r w.store v.store x y h.one h.cells d t u e)
      (zip_set (Related r) _ _ i _ _ (moved_hand r w v h j) (same_value_with_first r x y d t u e))))

-- the steps in this file
pub ruleset change_steps = (same_share, same_flatten, same_make_read_only, same_set_tag, same_write_int, same_write)
