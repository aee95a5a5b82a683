-- Answers about a value, on two states that are equal up to a renaming.
use Rattle.std.proofs.Common.{◌≡◌, ℕ, is_some, not, ◌&&◌, [], ◌∷◌, Option, Some, None, refl, ap}
use Rattle.rhai_show.specs.HashBytes.{plain_bytes}
use Rattle.std.specs.Option.{option_map_or}
use Rattle.rhai_value.specs.Tree.{Tree, is_constant}
use Rattle.rhai_value.specs.Parts.{leaf_unit, leaf_bool, leaf_int, leaf_char, unit_of, bool_of, int_of, char_of}
use Rattle.rhai_value.specs.End.{End, end, constant_in, end_type}
use Rattle.rhai_value.specs.Types.{type_name, is_type}
use Rattle.rhai_value.specs.Relation.{Renaming, Related, RelatedEnds, Alike}
use Rattle.rhai_value.proofs.ForCallers.{same_tag, same_mode, same_host, same_shared, same_held_leaf, same_end_type, same_first, same_locked, same_end}
use Rattle.rhai_value.specs.declared.value.type_id.TypeId.TheVariants as id
use Rattle.rhai_cast.proofs.ForCallers.{same_is}
use Rattle.rhai_show.specs.declared.form.Form.{Form}
use Rattle.rhai_show.specs.declared.form.Form.TheVariants.{Display, Debug}
use Rattle.rhai_show.specs.Text.{printed}
use Rattle.rhai_show.proofs.ForCallers.{same_plain, same_printed}
use Rattle.rhai_run.specs.declared.command.Question.{Question}
use Rattle.rhai_run.specs.declared.command.Question.TheVariants as question
use Rattle.rhai_run.specs.State.{State}
use Rattle.rhai_run.specs.Ask.{asked}
use Rattle.rhai_run.specs.Outcome.{growing, with_value}
use Rattle.rhai_run.specs.declared.answer.Answer.TheVariants as answer
use Rattle.rhai_run.specs.declared.answer.Refusal.TheVariants.{NotHashable}
use Rattle.rhai_run.specs.Correspondence.{RelatedStates}
use Rattle.rhai_run.proofs.Outcome.{Matches, m_stays, m_of_held, m_value}
use Rattle.rhai_run.specs.declared.command.Command.TheVariants as command
use Rattle.rhai_run.specs.Step.{step}

same_constant : (r : Renaming) (o q : Option Tree) → Alike (Related r) o q → constant_in o ≡ constant_in q
same_constant r None None h = refl
same_constant r (Some t) (Some u) h = ap is_constant (same_mode r t u h)
same_constant r None (Some u) h = absurd h
same_constant r (Some t) None h = absurd h

module _ (r : Renaming) (w v : State) (h : RelatedStates r w v) where
  same_asked : (t u : Tree) → Related r t u → (q : Question) → Matches r w v (asked w t q) (asked v u q)
  same_asked t u k = by
    where
      e : End
      e = end w.store [] t

      f : End
      f = end v.store [] u

      ends : RelatedEnds r e f
      ends = same_end r w.store v.store t u h.one h.cells k

      kind : end_type e ≡ end_type f
      kind = same_end_type r e f ends

      by : (q : Question) → Matches r w v (asked w t q) (asked v u q)
      by question.Tag = m_stays r w v h _ _ (ap answer.Int (same_tag r t u k))
      by question.Variant = m_stays r w v h _ _ (ap answer.Bool (same_host r t u k))
      by question.Shared = m_stays r w v h _ _ (ap answer.Bool (same_shared r t u k))
      by question.ReadOnly = m_stays r w v h _ _ (ap answer.Bool (same_constant r _ _ (same_first r w.store v.store h.cells t u k)))
      by question.Locked = m_stays r w v h _ _ (ap answer.Bool (same_locked r w.store v.store h.cells t u k))
      by question.TypeName = m_stays r w v h _ _ (ap (λ n. answer.Text (type_name n)) kind)
      by (question.Held x) = m_stays r w v h _ _ (ap (λ n. answer.Bool (is_type x n)) kind)
      by question.Hashable = m_stays r w v h _ _ (ap (λ o. answer.Bool (is_some o)) (same_plain r w.store v.store t u h.one h.cells k))
      by (question.Is x) = m_stays r w v h _ _ (ap (λ b. answer.Bool (not (is_type x id.Shared) && b)) (same_is r x w.store v.store t u h.one h.cells k))
      by question.Unit = m_of_held r w v h unit_of e f _ _ (same_held_leaf r leaf_unit e f ends) kind (λ a. m_stays r w v h answer.Done answer.Done refl)
      by question.Int = m_of_held r w v h int_of e f _ _ (same_held_leaf r leaf_int e f ends) kind (λ a. m_stays r w v h (answer.Int a) (answer.Int a) refl)
      by question.Bool = m_of_held r w v h bool_of e f _ _ (same_held_leaf r leaf_bool e f ends) kind (λ a. m_stays r w v h (answer.Bool a) (answer.Bool a) refl)
      by question.Char = m_of_held r w v h char_of e f _ _ (same_held_leaf r leaf_char e f ends) kind (λ a. m_stays r w v h (answer.Text (a ∷ [])) (answer.Text (a ∷ [])) refl)

  pub same_ask : (i : ℕ) (q : Question) → Matches r w v (step w (command.Ask i q)) (step v (command.Ask i q))
  same_ask i q = m_value r w v h i _ _ (λ t u e. same_asked t u e q)

  same_text_of : (form : Form) (i : ℕ) → Matches r w v (with_value w i (λ t. growing (answer.Text (printed w.store [] t form)) w)) (with_value v i (λ t. growing (answer.Text (printed v.store [] t form)) v))
  same_text_of form i = m_value r w v h i _ _ (λ t u e. m_stays r w v h _ _ (ap (λ f. answer.Text (f form)) (same_printed r w.store v.store t u h.one h.cells e)))

  pub same_show : (i : ℕ) → Matches r w v (step w (command.Show i)) (step v (command.Show i))
  same_show = same_text_of Display

  pub same_debug : (i : ℕ) → Matches r w v (step w (command.Debug i)) (step v (command.Debug i))
  same_debug = same_text_of Debug

  pub same_hash : (i : ℕ) → Matches r w v (step w (command.Hash i)) (step v (command.Hash i))
  same_hash i = m_value r w v h i _ _ (λ t u e. m_stays r w v h _ _ (ap (λ o. option_map_or (λ p. answer.Bytes (plain_bytes p)) o (answer.Refused NotHashable)) (same_plain r w.store v.store t u h.one h.cells e)))

-- the steps in this file
pub ruleset ask_steps = (same_ask, same_show, same_debug, same_hash)
