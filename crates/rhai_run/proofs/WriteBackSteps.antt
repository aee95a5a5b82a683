-- Write-backs, on two states that are equal up to a renaming.
use Rattle.std.proofs.Common.{◌≡◌, ℕ, List, [], Option, Some, None, ap, if◌then◌else◌, is_some}
use Rattle.std.specs.Option.{option_map_or}
use Rattle.std.proofs.lemmas.Option.{same_Some}
use Rattle.rhai_value.specs.Parts.{leaf_int, leaf_blob, leaf_text}
use Rattle.rhai_value.specs.Relation.{Renaming, Related, RelatedEnds, Respect, Alike}
use Rattle.rhai_value.specs.End.{End, end}
use Rattle.rhai_value.specs.Tree.{Tree}
use Rattle.rhai_value.specs.Types.{type_name}
use Rattle.rhai_value.proofs.ForCallers.{same_end, same_end_type, same_held_leaf}
use Rattle.rhai_target.specs.Change.{Change}
use Rattle.rhai_target.proofs.ForCallers.{same_bit_change, same_field_change, same_byte_change, same_char_change, same_slice_change}
use Rattle.rhai_run.specs.declared.command.Place.{Place}
use Rattle.rhai_run.specs.declared.pieces.Piece.{Piece}
use Rattle.rhai_run.specs.declared.pieces.Piece.TheVariants as piece
use Rattle.rhai_ops.specs.Outcome.{no_place}
use Rattle.rhai_run.specs.Correspondence.{RelatedStates}
use Rattle.rhai_run.specs.Outcome.{Outcome, refuse, given, growing_if}
use Rattle.rhai_run.specs.declared.answer.Refusal.{Refusal}
use Rattle.rhai_run.specs.declared.answer.Answer.TheVariants.{Refused, Done}
use Rattle.rhai_run.specs.declared.answer.Refusal.TheVariants.{Fault, WrongSource}
use Rattle.rhai_text.specs.declared.error.EvalAltResult.TheVariants as error
use Rattle.rhai_run.specs.State.{State}
use Rattle.rhai_run.specs.Places.{changed_by}
use Rattle.rhai_run.specs.WriteBack.{no_bit, no_byte, rule, step_write_back}
use Rattle.rhai_run.proofs.Outcome.{Matches, m_stays}
use Rattle.rhai_run.proofs.PlaceSteps.{m_place_and, m_changed_by}

module _ (r : Renaming) (w v : State) (h : RelatedStates r w v) where
  same_lack : (p : Piece) (e o : End) → RelatedEnds r e o → (rule p).lack e ≡ (rule p).lack o
  same_lack (piece.Bit place) e o k = ap (λ n. no_bit n place) (same_held_leaf r leaf_int e o k)
  same_lack (piece.Field mask shift) e o k = ap (λ n. no_bit n shift) (same_held_leaf r leaf_int e o k)
  same_lack (piece.Byte index) e o k = ap (λ n. no_byte n index) (same_held_leaf r leaf_blob e o k)
  same_lack (piece.Character index) e o k = ap (λ c. if is_some c then None else Some WrongSource) (same_held_leaf r leaf_text e o k)
  same_lack (piece.Characters slice) e o k = ap (λ c. if is_some c then None else Some WrongSource) (same_held_leaf r leaf_text e o k)

  same_change : (p : Piece) (t u x y : Tree) → Related r t u → Related r x y → Alike (Respect r) ((rule p).change w.store t x) ((rule p).change v.store u y)
  same_change (piece.Bit place) t u x y e d = same_bit_change r w.store v.store x y place h.one h.cells d
  same_change (piece.Field mask shift) t u x y e d = same_field_change r w.store v.store x y mask shift h.one h.cells d
  same_change (piece.Byte index) t u x y e d = same_byte_change r w.store v.store x y index h.one h.cells d
  same_change (piece.Character index) t u x y e d = same_char_change r w.store v.store x y index h.one h.cells d
  same_change (piece.Characters slice) t u x y e d = same_slice_change r w.store v.store t u x y slice h.one h.cells e d

  m_lacking : (a b : Option Refusal) (o p : Outcome) → a ≡ b → Matches r w v o p → Matches r w v (option_map_or (λ why. refuse why w) a o) (option_map_or (λ why. refuse why v) b p)
  m_lacking None None o p e m = m
  m_lacking (Some why) (Some other) o p e m = m_stays r w v h (Refused why) (Refused other) (ap Refused (same_Some why other e))
  m_lacking None (Some other) o p e m = cc
  m_lacking (Some why) None o p e m = cc

  m_changed : (p : Place) (q : Piece) (c d : Change) (t u : Tree) (held held' : List ℕ) → Alike (Respect r) c d → Related r t u → held ≡ held'
      → Matches r w v (given c (Fault (error.ErrorMismatchDataType (rule q).wanted held no_place)) w (λ f. growing_if (rule q).makes_text Done (changed_by w p f t)))
      (given d (Fault (error.ErrorMismatchDataType (rule q).wanted held' no_place)) v (λ f. growing_if (rule q).makes_text Done (changed_by v p f u)))
  m_changed p q None None t u held held' a e k = m_stays r w v h _ _ (ap (λ x. Refused (Fault (error.ErrorMismatchDataType (rule q).wanted x no_place))) k)
  m_changed p q (Some f) (Some g) t u held held' a e k = m_changed_by r w v h p f g t u a e
  m_changed p q None (Some g) t u held held' a e k = absurd a
  m_changed p q (Some f) None t u held held' a e k = absurd a

  pub same_write_back : (p : Place) (k : Piece) (j : ℕ) → Matches r w v (step_write_back w p k j) (step_write_back v p k j)
  same_write_back p k j =
      m_place_and r w v h p j _ _ (λ t u x y e d.
      m_lacking _ _ _ _ (same_lack k (end w.store [] t) (end v.store [] u) (same_end r w.store v.store t u h.one h.cells e))
      (m_changed p k _ _ t u _ _ (same_change k t u x y e d) e (ap type_name (same_end_type r (end w.store [] x) (end v.store [] y) (same_end r w.store v.store x y h.one h.cells d)))))

-- the steps in this file
pub ruleset write_back_steps = (same_write_back)
