-- The last entry of a name.
use Rattle.std.proofs.Common.{◌≡◌, ℕ, ℤ, Bool, true, false, if◌then◌else◌, List, slice_get, Option, Some, None, option_map, is_some, refl, ap, ◌∙◌}
use Rattle.std.proofs.lemmas.Option.{same_Some}
use Rattle.std.specs.Prelude.{remove}
use Rattle.rhai_value.specs.End.{flattened}
use Rattle.rhai_value.specs.Tree.{Tree, cell_of, copy, fresh, int}
use Rattle.rhai_value.specs.declared.value.type_id.TypeId.{TypeId}
use Rattle.rhai_value.specs.declared.value.type_id.TypeId.TheVariants as id
use Rattle.rhai_scope.specs.Entry.{Entry, is_constant_entry, with_value as holding}
use Rattle.rhai_scope.specs.Lookup.{last_position, value_named, changed_at}
use Rattle.rhai_scope.proofs.ForCallers.{written_there}
use Rattle.rhai_variant.specs.Reads.{viewed, written_as}
use Rattle.rhai_run.specs.Entries.{viewed_as, appended_or_nothing, set_at, is_there_constant}
use Rattle.rhai_run.specs.Entries.{read_as}
use Rattle.rhai_run.specs.Outcome.{Outcome, free, given, unless}
use Rattle.rhai_run.specs.declared.answer.Answer.TheVariants.{Done, Nothing}
use Rattle.rhai_run.specs.declared.answer.Refusal.TheVariants.{NoEntry, ConstantEntry, SharedEntry}
use Rattle.rhai_run.specs.State.{State, with_entries, with_scope, moved_from}
use Rattle.rhai_run.specs.declared.command.Command.TheVariants as command
use Rattle.rhai_run.specs.Step.{step}

-- an outcome is made if a value is found
pub appended_makes : (w : State) (o : Option Tree) → is_some o ≡ true → (appended_or_nothing w o).wants ≡ true
appended_makes w None h = cc
appended_makes w (Some t) h = refl

-- a write to the entry at the last position of a name, and its removal
pub set_ref_is : (w : State) (name : List ℕ) (n : ℤ) (k : ℕ) (t : Tree) → last_position name w.entries ≡ Some k → option_map (λ e. e.value) (slice_get w.entries k) ≡ Some t
    → step w (command.SetRef name n) ≡ unless (is_some (cell_of t)) SharedEntry w
    (if is_some (viewed id.Int t) then free Done (with_entries w (changed_at (holding (written_as id.Int (fresh (int n)) t)) w.entries k)) else free Nothing w)
set_ref_is w name n k t p h = rw (p, h, ← written_there id.Int (fresh (int n)) t w.entries k h) refl

pub set_ref_written : (w : State) (name : List ℕ) (n : ℤ) (k : ℕ) (t u : Tree) → last_position name w.entries ≡ Some k → option_map (λ e. e.value) (slice_get w.entries k) ≡ Some t
    → is_some (cell_of t) ≡ false → is_some (viewed id.Int t) ≡ true → u ≡ written_as id.Int (fresh (int n)) t
    → step w (command.SetRef name n) ≡ free Done (with_entries w (changed_at (holding u) w.entries k))
set_ref_written w name n k t u p h own there is = set_ref_is w name n k t p h ∙ rw (own, there, is) refl

pub remove_is : (w : State) (name : List ℕ) (kind : TypeId) (k : ℕ) (t : Tree) → last_position name w.entries ≡ Some k → option_map (λ e. e.value) (slice_get w.entries k) ≡ Some t
    → step w (command.Remove name kind) ≡ appended_or_nothing (with_entries w (remove w.entries k)) (read_as kind (flattened w.store t))
remove_is w name kind k t p h = rw (p, h) refl

-- A value of the hand is moved into the entry at the last position of a name, if that isn't a constant.
pub set_entry_is : (w : State) (name : List ℕ) (i k : ℕ) (t : Tree) (b : Bool) → slice_get w.hand i ≡ Some t → last_position name w.entries ≡ Some k
    → option_map is_constant_entry (slice_get w.entries k) ≡ Some b
    → step w (command.SetEntry name i) ≡ unless b ConstantEntry w (free Done (with_scope w (changed_at (holding t) w.entries k) (moved_from w.hand i)))
set_entry_is w name i k t b h p c = rw (h, p) (at (slice_get w.entries k) c)
  where
    at : (o : Option Entry) → option_map is_constant_entry o ≡ Some b
        → given o NoEntry w (λ e. unless (is_constant_entry e) ConstantEntry w (free Done (with_scope w (changed_at (holding t) w.entries k) (moved_from w.hand i))))
        ≡ unless b ConstantEntry w (free Done (with_scope w (changed_at (holding t) w.entries k) (moved_from w.hand i)))
    at None c = cc
    at (Some e) c = rw (same_Some (is_constant_entry e) b c) refl

-- the same, if a new entry is pushed instead of a constant
pub set_or_push_is : (w : State) (name : List ℕ) (i k : ℕ) (t : Tree) (b : Bool) → slice_get w.hand i ≡ Some t → last_position name w.entries ≡ Some k
    → option_map is_constant_entry (slice_get w.entries k) ≡ Some b → step w (command.SetOrPush name i) ≡ set_at (if b then None else Some k) w name i t
set_or_push_is w name i k t b h p c = rw (h, p) (at (slice_get w.entries k) c)
  where
    at : (o : Option Entry) → option_map is_constant_entry o ≡ Some b → set_at (if is_there_constant o then None else Some k) w name i t ≡ set_at (if b then None else Some k) w name i t
    at None c = cc
    at (Some e) c = rw (same_Some (is_constant_entry e) b c) refl

-- the same, if a constant is refused
pub set_value_is : (w : State) (name : List ℕ) (i k : ℕ) (t : Tree) (b : Bool) → slice_get w.hand i ≡ Some t → last_position name w.entries ≡ Some k
    → option_map is_constant_entry (slice_get w.entries k) ≡ Some b → step w (command.SetValue name i) ≡ unless b ConstantEntry w (set_at (Some k) w name i t)
set_value_is w name i k t b h p c = rw (h, p) (at (slice_get w.entries k) c)
  where
    at : (o : Option Entry) → option_map is_constant_entry o ≡ Some b → unless (is_there_constant o) ConstantEntry w (set_at (Some k) w name i t) ≡ unless b ConstantEntry w (set_at (Some k) w name i t)
    at None c = cc
    at (Some e) c = rw (same_Some (is_constant_entry e) b c) refl

-- the outcome for an entry that isn't a holder
pub get_ref_is : (w : State) (name : List ℕ) (kind : TypeId) (t : Tree) (o : Option Tree) → value_named name w.entries ≡ Some t → is_some (cell_of t) ≡ false → option_map copy (viewed_as kind t) ≡ o
    → step w (command.GetRef name kind) ≡ appended_or_nothing w o
get_ref_is w name kind t o e f g = rw (e, f, g) refl

pub get_ref_makes : (w : State) (name : List ℕ) (kind : TypeId) (t : Tree) → value_named name w.entries ≡ Some t → is_some (cell_of t) ≡ false → is_some (option_map copy (viewed_as kind t)) ≡ true
    → (step w (command.GetRef name kind)).wants ≡ true
get_ref_makes w name kind t e h f =
    ap (λ (o : Outcome). o.wants) (get_ref_is w name kind t (option_map copy (viewed_as kind t)) e h refl) ∙ appended_makes w (option_map copy (viewed_as kind t)) f
