-- Steps on the list of marks, on two states that are equal up to a renaming.
use Rattle.std.proofs.Common.{◌≡◌, ℕ, zero, suc, Bool, true, false, List, [], ◌∷◌, length, slice_get, not, refl, ap}
use Rattle.std.specs.List.{AllZip}
use Rattle.rhai_value.specs.declared.cells.store.Cell.{Cell}
use Rattle.rhai_value.specs.Tree.{Tree, copy}
use Rattle.rhai_value.specs.End.{first_cell}
use Rattle.rhai_value.specs.Store.{content_at, is_marked_at, put}
use Rattle.rhai_value.specs.Relation.{Renaming, Related, RelatedCells, Alike}
use Rattle.rhai_value.proofs.ForCallers.{Paired, length_changed, same_copy, same_first_cell, same_put, same_set_mark, same_shared, zip_append, zip_drop, zip_get, zip_take}
use Rattle.rhai_run.specs.declared.command.Place.{Place}
use Rattle.rhai_ops.specs.Outcome.{no_place}
use Rattle.rhai_run.specs.Correspondence.{RelatedStates}
use Rattle.rhai_run.specs.declared.answer.Answer.TheVariants.{Done}
use Rattle.rhai_run.specs.declared.answer.Refusal.TheVariants.{NoMark, WrongSource, Fault}
use Rattle.rhai_text.specs.declared.error.EvalAltResult.TheVariants as error
use Rattle.rhai_run.specs.Outcome.{growing_if}
use Rattle.rhai_run.specs.State.{State, with_marks}
use Rattle.rhai_run.proofs.MarkLists.{first_is_free, mark_added, mark_taken}
use Rattle.rhai_run.proofs.Outcome.{Keeps, Matches, m_appended, m_cells, m_given, m_there, m_unless, m_value, moved_hand, no_cell}
use Rattle.rhai_run.proofs.PlaceSteps.{m_place}
use Rattle.rhai_run.specs.declared.command.Command.TheVariants as command
use Rattle.rhai_run.specs.Step.{step}

-- writing a value to a cell keeps marks
put_marks : (s : List Cell) (c d : ℕ) (t : Tree) → is_marked_at (put s c t) d ≡ is_marked_at s d
put_marks [] c d t = refl
put_marks (x ∷ s) zero zero t = refl
put_marks (x ∷ s) zero (suc d) t = refl
put_marks (x ∷ s) (suc c) zero t = refl
put_marks (x ∷ s) (suc c) (suc d) t = put_marks s c d t

module _ (r : Renaming) (w v : State) (h : RelatedStates r w v) where
  -- other marks
  m_marks : {a b : Bool} (s z : List Cell) (ms ns : List ℕ) → length s ≡ length w.store → length z ≡ length v.store → RelatedCells r s z → AllZip (Paired r) ms ns → Keeps w (with_marks w s ms)
      → Matches r w v (growing_if a Done (with_marks w s ms)) (growing_if b Done (with_marks v z ns))
  m_marks s z ms ns f g c e k =
      no_cell r w v h _ _ Done Done refl f g (record { one = h.one; cells = c; entries = h.entries; marks = e; hand = h.hand; limits = h.limits }) k

  pub same_mark : (p : Place) → Matches r w v (step w (command.Mark p)) (step v (command.Mark p))
  same_mark p =
      m_place r w v h p _ _ (λ t u e. m_unless r w v h WrongSource _ _ _ _ (ap not (same_shared r t u e))
      (m_there r w v h (Paired r) (Fault (error.ErrorDataRace no_place)) (first_cell w.store t) (first_cell v.store u) _ _ (same_first_cell r w.store v.store t u h.cells e) (λ c d at same.
      m_marks _ _ _ _ (length_changed _ w.store c) (length_changed _ v.store d) (same_set_mark r w.store v.store c d true h.one h.cells same)
      (zip_append (Paired r) w.marks (c ∷ []) v.marks (d ∷ []) h.marks (same, tt))
      (λ marks. mark_added w.store w.marks c marks (first_is_free w.store t c at)))))

  same_mark_at : (k : ℕ) → Alike (Paired r) (slice_get w.marks k) (slice_get v.marks k)
  same_mark_at k = zip_get (Paired r) w.marks v.marks k h.marks

  pub same_unmark : (k : ℕ) → Matches r w v (step w (command.Unmark k)) (step v (command.Unmark k))
  same_unmark k =
      m_there r w v h (Paired r) NoMark (slice_get w.marks k) (slice_get v.marks k) _ _ (same_mark_at k) (λ c d at same.
      m_marks _ _ _ _ (length_changed _ w.store c) (length_changed _ v.store d) (same_set_mark r w.store v.store c d false h.one h.cells same)
      (zip_append (Paired r) _ _ _ _ (zip_take (Paired r) k w.marks v.marks h.marks) (zip_drop (Paired r) (suc k) w.marks v.marks h.marks))
      (λ marks. mark_taken w.store w.marks k c marks at))

  pub same_write_marked : (k i : ℕ) → Matches r w v (step w (command.WriteMarked k i)) (step v (command.WriteMarked k i))
  same_write_marked k i =
      m_value r w v h i _ _ (λ t u e. m_given r w v h (Paired r) NoMark (slice_get w.marks k) (slice_get v.marks k) _ _ (same_mark_at k) (λ c d same.
      m_cells r w v h _ _ _ _ (length_changed _ w.store c) (length_changed _ v.store d) (λ x. put_marks w.store c x t)
      (same_put r w.store v.store c d t u h.one h.cells same e) (moved_hand r w v h i)))

  same_content_at : (c d : ℕ) → Paired r c d → Alike (Related r) (content_at w.store c) (content_at v.store d)
  same_content_at c d same = let x = h.cells c d same in rw (x.2, x.3) x.4.1

  pub same_read_marked : (k : ℕ) → Matches r w v (step w (command.ReadMarked k)) (step v (command.ReadMarked k))
  same_read_marked k =
      m_given r w v h (Paired r) NoMark (slice_get w.marks k) (slice_get v.marks k) _ _ (same_mark_at k) (λ c d same.
      m_given r w v h (Related r) NoMark (content_at w.store c) (content_at v.store d) _ _ (same_content_at c d same) (λ t u e. m_appended r w v h (copy t) (copy u) (same_copy r t u e)))

-- the steps in this file
pub ruleset mark_steps = (same_mark, same_unmark, same_write_marked, same_read_marked)
