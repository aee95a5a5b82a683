-- Steps on the last entry of a name, on two states that are equal up to a renaming.
use Rattle.std.proofs.Common.{◌≡◌, ℕ, ℤ, List, [], ◌∷◌, Option, Some, None, option_map, is_some, cond, refl, ap, ap₂, subst}
use Rattle.std.specs.List.{AllZip}
use Rattle.rhai_value.specs.declared.value.type_id.TypeId.{TypeId}
use Rattle.rhai_value.specs.declared.value.type_id.TypeId.TheVariants as id
use Rattle.rhai_value.specs.Tree.{Tree, copy, fresh, int}
use Rattle.rhai_value.specs.Types.{is_type}
use Rattle.rhai_value.specs.Relation.{Renaming, Related, Alike}
use Rattle.rhai_value.proofs.ForCallers.{same_copy, same_shared, zip_append}
use Rattle.rhai_variant.proofs.ForCallers.{same_viewed}
use Rattle.rhai_cast.proofs.ForCallers.{same_moved}
use Rattle.rhai_scope.proofs.ForCallers.{same_aliases_named, same_position, same_last_entry, same_named, same_constant, same_changed_named, same_with_value, same_aliased, same_set_or_pushed, same_written_entry, same_removed_at}
use Rattle.rhai_scope.specs.Alias.{meant_alias}
use Rattle.rhai_scope.specs.Entry.{Entry, with_value as holding}
use Rattle.rhai_scope.specs.Lookup.{last_position}
use Rattle.rhai_scope.specs.Typed.{set_or_pushed, removed_at}
use Rattle.rhai_run.specs.State.{State, with_entries}
use Rattle.rhai_run.specs.declared.answer.Answer.TheVariants as answer
use Rattle.rhai_run.specs.declared.answer.Refusal.TheVariants.{NoEntry, ConstantEntry, SharedEntry}
use Rattle.rhai_run.specs.Entries.{is_there_constant, appended_or_nothing, viewed_as}
use Rattle.rhai_scope.specs.NamesText.{aliases_text}
use Rattle.rhai_scope.specs.Relation.{RelatedEntry}
use Rattle.rhai_run.specs.Correspondence.{RelatedStates}
use Rattle.rhai_run.specs.declared.command.Place.TheVariants as place
use Rattle.rhai_run.proofs.PlaceSteps.{m_place_and}
use Rattle.rhai_run.proofs.HandSteps.{unless_shared, same_flat_read}
use Rattle.rhai_run.proofs.Outcome.{Matches, alike_same, m_either, no_cell, m_stays, m_unless, m_given, m_value, m_entries, m_scope, m_appended, moved_hand}
use Rattle.rhai_run.specs.declared.command.Command.TheVariants as command
use Rattle.rhai_run.specs.Step.{step}

module _ (r : Renaming) (w v : State) (h : RelatedStates r w v) where
  pub same_set_entry : (name : List ℕ) (i : ℕ) → Matches r w v (step w (command.SetEntry name i)) (step v (command.SetEntry name i))
  same_set_entry name i =
      m_place_and r w v h (place.Entry name) i _ _ (λ a b t u n e.
      m_scope r w v h _ _ _ _ (same_changed_named r (holding t) (holding u) name w.entries v.entries (same_with_value r t u e) h.entries) (moved_hand r w v h i))

  -- an entry that is replaced or pushed
  entries_set : (o p : Option ℕ) → o ≡ p → (name : List ℕ) (i : ℕ) (t u : Tree) → Related r t u → AllZip (RelatedEntry r) (set_or_pushed o name t w.entries) (set_or_pushed p name u v.entries)
  entries_set o p k name i t u e =
      subst (λ q. AllZip (RelatedEntry r) (set_or_pushed o name t w.entries) (set_or_pushed q name u v.entries)) k (same_set_or_pushed r o name t u w.entries v.entries e h.entries)

  pub same_there_constant : (o p : Option Entry) → Alike (RelatedEntry r) o p → is_there_constant o ≡ is_there_constant p
  same_there_constant None None k = refl
  same_there_constant (Some e) (Some f) k = same_constant r e f k
  same_there_constant None (Some f) k = absurd k
  same_there_constant (Some e) None k = absurd k

  pub same_set_or_push : (name : List ℕ) (i : ℕ) → Matches r w v (step w (command.SetOrPush name i)) (step v (command.SetOrPush name i))
  same_set_or_push name i =
      let there = ap₂ (λ b o. cond b None o) (same_there_constant _ _ (same_last_entry r name w.entries v.entries h.entries)) (same_position r name w.entries v.entries h.entries) in
      m_value r w v h i _ _ (λ t u e. m_scope r w v h _ _ _ _ (entries_set _ _ there name i t u e) (moved_hand r w v h i))

  pub same_set_value : (name : List ℕ) (i : ℕ) → Matches r w v (step w (command.SetValue name i)) (step v (command.SetValue name i))
  same_set_value name i =
      m_value r w v h i _ _ (λ t u e.
      m_unless r w v h ConstantEntry _ _ _ _ (same_there_constant _ _ (same_last_entry r name w.entries v.entries h.entries))
      (m_scope r w v h _ _ _ _ (entries_set _ _ (same_position r name w.entries v.entries h.entries) name i t u e) (moved_hand r w v h i)))

  pub same_get : (name : List ℕ) → Matches r w v (step w (command.Get name)) (step v (command.Get name))
  same_get name =
      m_given r w v h (Related r) NoEntry _ _ _ _ (same_named r name w.entries v.entries h.entries) (λ t u e. m_appended r w v h (copy t) (copy u) (same_copy r t u e))

  m_appended_or_nothing : (o p : Option Tree) → Alike (Related r) o p → Matches r w v (appended_or_nothing w o) (appended_or_nothing v p)
  m_appended_or_nothing None None k = m_stays r w v h answer.Nothing answer.Nothing refl
  m_appended_or_nothing (Some t) (Some u) k = m_appended r w v h t u k
  m_appended_or_nothing None (Some u) k = absurd k
  m_appended_or_nothing (Some t) None k = absurd k

  pub same_get_value : (name : List ℕ) (kind : TypeId) → Matches r w v (step w (command.GetValue name kind)) (step v (command.GetValue name kind))
  same_get_value name kind =
      m_given r w v h (Related r) NoEntry _ _ _ _ (same_named r name w.entries v.entries h.entries)
      (λ t u e. m_appended_or_nothing _ _ (same_flat_read r w v h kind t u e))

  pub same_set_alias : (name alias : List ℕ) → Matches r w v (step w (command.SetAlias name alias)) (step v (command.SetAlias name alias))
  same_set_alias name alias = m_entries r w v h _ _ (same_changed_named r _ _ name w.entries v.entries (same_aliased r (meant_alias name alias)) h.entries)

  pub same_aliases : (name : List ℕ) → Matches r w v (step w (command.Aliases name)) (step v (command.Aliases name))
  same_aliases name =
      m_given r w v h (λ a b. a ≡ b) NoEntry _ _ _ _ (alike_same _ _ (same_aliases_named r name w.entries v.entries h.entries)) (λ a b e. m_stays r w v h _ _ (ap (λ bs. answer.Text (aliases_text bs)) e))

  same_viewed_as : (kind : TypeId) (t u : Tree) → Related r t u → Alike (Related r) (viewed_as kind t) (viewed_as kind u)
  same_viewed_as kind t u e = unless_shared r w v h (is_type kind id.Shared) _ _ (same_viewed r kind t u e)

  copies_alike : (o p : Option Tree) → Alike (Related r) o p → Alike (Related r) (option_map copy o) (option_map copy p)
  copies_alike None None e = tt
  copies_alike (Some t) (Some u) e = same_copy r t u e
  copies_alike None (Some u) e = absurd e
  copies_alike (Some t) None e = absurd e

  pub same_get_ref : (name : List ℕ) (kind : TypeId) → Matches r w v (step w (command.GetRef name kind)) (step v (command.GetRef name kind))
  same_get_ref name kind =
      m_given r w v h (Related r) NoEntry _ _ _ _ (same_named r name w.entries v.entries h.entries) (λ t u e.
      m_unless r w v h SharedEntry _ _ _ _ (same_shared r t u e) (m_appended_or_nothing _ _ (copies_alike _ _ (same_viewed_as kind t u e))))

  some_alike : (o p : Option Tree) → Alike (Related r) o p → is_some o ≡ is_some p
  some_alike None None e = refl
  some_alike (Some t) (Some u) e = refl
  some_alike None (Some u) e = absurd e
  some_alike (Some t) None e = absurd e

  pub same_set_ref : (name : List ℕ) (n : ℤ) → Matches r w v (step w (command.SetRef name n)) (step v (command.SetRef name n))
  same_set_ref name n =
      m_given r w v h (Related r) NoEntry _ _ _ _ (same_named r name w.entries v.entries h.entries) (λ t u e.
      m_unless r w v h SharedEntry _ _ _ _ (same_shared r t u e)
      (m_either r w v h _ _ (some_alike _ _ (same_viewed r id.Int t u e))
      (m_entries r w v h _ _ (same_changed_named r _ _ name w.entries v.entries (same_written_entry r id.Int (fresh (int n)) (fresh (int n)) (refl, refl, refl)) h.entries)) (m_stays r w v h answer.Nothing answer.Nothing refl)))

  removed_entries : (name : List ℕ) → AllZip (RelatedEntry r) (removed_at (last_position name w.entries) w.entries) (removed_at (last_position name v.entries) v.entries)
  removed_entries name =
      subst (λ o. AllZip (RelatedEntry r) (removed_at (last_position name w.entries) w.entries) (removed_at o v.entries)) (same_position r name w.entries v.entries h.entries)
      (same_removed_at r (last_position name w.entries) w.entries v.entries h.entries)

  -- other entries, and a value appended to the hand if there is one
  m_taken : (es fs : List Entry) (o p : Option Tree) → AllZip (RelatedEntry r) es fs → Alike (Related r) o p → Matches r w v (appended_or_nothing (with_entries w es) o) (appended_or_nothing (with_entries v fs) p)
  m_taken es fs None None e k = no_cell r w v h _ _ answer.Nothing answer.Nothing refl refl refl (record { one = h.one; cells = h.cells; entries = e; marks = h.marks; hand = h.hand; limits = h.limits }) (λ k. k)
  m_taken es fs (Some t) (Some u) e k = m_scope r w v h es fs _ _ e (zip_append (Related r) w.hand (t ∷ []) v.hand (u ∷ []) h.hand (k, tt))
  m_taken es fs None (Some u) e k = absurd k
  m_taken es fs (Some t) None e k = absurd k

  pub same_remove : (name : List ℕ) (kind : TypeId) → Matches r w v (step w (command.Remove name kind)) (step v (command.Remove name kind))
  same_remove name kind =
      m_given r w v h (Related r) NoEntry _ _ _ _ (same_named r name w.entries v.entries h.entries) (λ t u e.
      m_taken _ _ _ _ (removed_entries name) (unless_shared r w v h (is_type kind id.Shared) _ _ (same_moved r kind w.store v.store t u h.one h.cells e)))

-- the steps in this file
pub ruleset entry_steps = (same_set_entry, same_set_or_push, same_set_value, same_get, same_get_value, same_get_ref, same_set_ref, same_remove, same_set_alias, same_aliases)
