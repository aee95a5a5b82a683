-- Outcomes that need no allocation, and one lemma for each component of steps.
use Rattle.std.proofs.Common.{◌≡◌, ℕ, Bool, true, false, cond, nat_eq, List, [], slice_get, Option, Some, None, refl}
use Rattle.std.specs.Option.{option_map_or}
use Rattle.rhai_value.specs.Tree.{Tree}
use Rattle.rhai_value.specs.End.{end, end_name}
use Rattle.rhai_target.specs.Change.{Change}
use Rattle.rhai_ops.specs.Outcome.{no_place}
use Rattle.rhai_scope.specs.Entry.{is_constant_entry}
use Rattle.rhai_scope.specs.Lookup.{last_entry}
use Rattle.rhai_run.specs.declared.command.Place.{Place}
use Rattle.rhai_run.specs.declared.command.Place.TheVariants as place
use Rattle.rhai_run.specs.declared.pieces.Piece.{Piece}
use Rattle.rhai_run.specs.Outcome.{Outcome, unless, given, with_value, with_two, refuse, growing_if}
use Rattle.rhai_run.specs.Places.{changed_by, with_place, with_place_and}
use Rattle.rhai_run.specs.declared.answer.Refusal.{Refusal}
use Rattle.rhai_run.specs.declared.answer.Answer.TheVariants.{Done}
use Rattle.rhai_run.specs.declared.answer.Refusal.TheVariants.{NoValue, SameValue, Fault}
use Rattle.rhai_text.specs.declared.error.EvalAltResult.TheVariants as error
use Rattle.rhai_run.specs.State.{State}
use Rattle.rhai_run.specs.WriteBack.{rule, step_write_back}

abbrev pub IsFree : Outcome → Type 0
IsFree o = o.wants ≡ false

pub free_either : (b : Bool) (o p : Outcome) → IsFree o → IsFree p → IsFree (cond b o p)
free_either true o p h k = h
free_either false o p h k = k

pub free_given : {X : Type 0} (o : Option X) (why : Refusal) (w : State) (go : X → Outcome) → ((x : X) → IsFree (go x)) → IsFree (given o why w go)
free_given None why w go h = refl
free_given (Some x) why w go h = h x

pub free_unless : (b : Bool) (why : Refusal) (w : State) (o : Outcome) → IsFree o → IsFree (unless b why w o)
free_unless true why w o h = refl
free_unless false why w o h = h

pub free_value : (w : State) (i : ℕ) (go : Tree → Outcome) → ((t : Tree) → IsFree (go t)) → IsFree (with_value w i go)
free_value w i go h = free_given (slice_get w.hand i) NoValue w go h

pub free_two : (w : State) (i j : ℕ) (go : Tree → Tree → Outcome) → ((t u : Tree) → IsFree (go t u)) → IsFree (with_two w i j go)
free_two w i j go h = free_value w i _ (λ t. free_value w j _ (λ u. free_unless (nat_eq i j) SameValue w (go t u) (h t u)))

free_place : (w : State) (p : Place) (go : Tree → Outcome) → ((t : Tree) → IsFree (go t)) → IsFree (with_place w p go)
free_place w (place.Hand i) go h = free_value w i go h
free_place w (place.Entry name) go h = free_given (last_entry name w.entries) _ w _ (λ e. free_unless (is_constant_entry e) _ w _ (h e.value))

pub free_place_and : (w : State) (p : Place) (j : ℕ) (go : Tree → Tree → Outcome) → ((t u : Tree) → IsFree (go t u)) → IsFree (with_place_and w p j go)
free_place_and w p j go h = free_value w j _ (λ u. free_place w p _ (λ t. h t u))

free_lacking : (o : Option Refusal) (w : State) (x : Outcome) → IsFree x → IsFree (option_map_or (λ why. refuse why w) o x)
free_lacking None w x h = h
free_lacking (Some why) w x h = refl

free_changed : (w : State) (p : Place) (q : Piece) (c : Change) (t : Tree) (held : List ℕ) → (rule q).makes_text ≡ false → IsFree (given c (Fault (error.ErrorMismatchDataType (rule q).wanted held no_place)) w (λ f. growing_if (rule q).makes_text Done (changed_by w p f t)))
free_changed w p q None t held h = refl
free_changed w p q (Some f) t held h = h

-- a write-back that makes no text
pub free_write_back : (w : State) (p : Place) (q : Piece) (j : ℕ) → (rule q).makes_text ≡ false → IsFree (step_write_back w p q j)
free_write_back w p q j h =
    free_place_and w p j _ (λ t u. free_lacking ((rule q).lack (end w.store [] t)) w _ (free_changed w p q ((rule q).change w.store t u) t (end_name (end w.store [] u)) h))
