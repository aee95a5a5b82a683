-- A value of the hand is changed in place, or moved out of its place and put back.
use Rattle.std.proofs.Common.{◌≡◌, ◌<◌, ℕ, ℤ, zero, suc, true, false, List, [], ◌∷◌, length, slice_get, slice_set, get_or, Option, Some, None, is_some, refl, sym, ap, ap₂, ◌∙◌, subst}
use Rattle.std.proofs.lemmas.List.{set-set}
use Rattle.std.proofs.lemmas.Option.{same_Some, slice_get_read, slice_get_within}
use Rattle.rhai_value.specs.declared.cells.store.Cell.{Cell}
use Rattle.rhai_value.specs.Tree.{Tree, node, leaf, branch, fields, holder, cell_of}
use Rattle.rhai_value.specs.End.{end, end_name, flattened, held_part, store_after, value_after}
use Rattle.rhai_value.specs.Parts.{int_of, with_int}
use Rattle.rhai_value.specs.Store.{shared_value, shared_store}
use Rattle.rhai_value.specs.declared.value.access_mode.AccessMode.{AccessMode}
use Rattle.rhai_scope.specs.Entry.{Entry}
use Rattle.rhai_run.specs.declared.command.Place.TheVariants as place
use Rattle.rhai_run.specs.Outcome.{Outcome, free, given}
use Rattle.rhai_run.specs.Places.{changed_by}
use Rattle.rhai_run.specs.State.{State, with_hand, with_scope, with_cells}
use Rattle.rhai_run.specs.Entries.{moved_into_entry}
use Rattle.rhai_run.specs.declared.answer.Answer.TheVariants.{Done, Refused}
use Rattle.rhai_run.specs.declared.answer.Refusal.TheVariants.{Mismatch}
use Rattle.rhai_run.specs.declared.command.Command.TheVariants as command
use Rattle.rhai_run.specs.Step.{step}

-- another value is put into a place from which a value was moved
moved_in : (ts us : List Tree) (i : ℕ) (u d t : Tree) → d ≡ t → us ≡ slice_set (slice_set ts i u) i d → us ≡ slice_set ts i t
moved_in ts us i u d t e h = h ∙ set-set ts i u d ∙ ap (slice_set ts i) e

-- writing a value over itself
pub set_own : (ts : List Tree) (i : ℕ) (t : Tree) → slice_get ts i ≡ Some t → slice_set ts i t ≡ ts
set_own [] i t e = refl
set_own (x ∷ ts) zero t e = ap (λ y. y ∷ ts) (sym (same_Some x t e))
set_own (x ∷ ts) (suc i) t e = ap (λ ys. x ∷ ys) (set_own ts i t e)

-- the value that was to go into an entry is returned itself
pub entry_came_back : (w : State) (i : ℕ) (t u d : Tree) (es : List Entry) (ts : List Tree) → slice_get w.hand i ≡ Some t → d ≡ t → es ≡ w.entries → ts ≡ slice_set (slice_set w.hand i u) i d → with_scope w es ts ≡ w
entry_came_back w i t u d es ts e h k l = ap₂ (with_scope w) k (moved_in w.hand ts i u d t h l ∙ set_own w.hand i t e)

-- if there is a value, these may allocate
pub push_wants : (mode : Tree → AccessMode) (w : State) (name : List ℕ) (i : ℕ) (t : Tree) → slice_get w.hand i ≡ Some t → (moved_into_entry mode w name i).wants ≡ true
push_wants mode w name i t e = rw e refl

-- A value of the hand is shared or flattened in place; or an allocation failed, and it is unchanged.
in_hand : (w v : State) (i : ℕ) (t d : Tree) (s : List Cell) → v ≡ w → slice_get v.hand i ≡ Some t → d ≡ t → s ≡ v.store → with_cells v s (slice_set v.hand i d) ≡ w
in_hand w v i t d s same e h k = ap₂ (λ c x. with_cells v c (slice_set v.hand i x)) k h ∙ ap (with_cells v v.store) (set_own v.hand i t e) ∙ same

shared_in_hand : (w : State) (i : ℕ) (t : Tree) → slice_get w.hand i ≡ Some t
    → (Done ≡ (step w (command.Share i)).reply) × (with_cells w (shared_store w.store t) (slice_set w.hand i (shared_value w.store t)) ≡ (step w (command.Share i)).after)
shared_in_hand w i (node (holder c) g m) e = rw e (refl, in_hand w w i (node (holder c) g m) (node (holder c) g m) w.store refl e refl refl)
shared_in_hand w i (node (leaf l) g m) e = rw e (refl, refl)
shared_in_hand w i (node (branch k ts) g m) e = rw e (refl, refl)
shared_in_hand w i (node (fields fs) g m) e = rw e (refl, refl)

pub share_done : (w v : State) (i : ℕ) (t d : Tree) (s : List Cell) → v ≡ w → slice_get v.hand i ≡ Some t → d ≡ shared_value v.store t → s ≡ shared_store v.store t
    → (Done ≡ (step w (command.Share i)).reply) × (with_cells v s (slice_set v.hand i d) ≡ (step w (command.Share i)).after)
share_done w v i t d s same e h k =
    subst (λ q. (Done ≡ (step q (command.Share i)).reply) × (with_cells v s (slice_set v.hand i d) ≡ (step q (command.Share i)).after)) same
    (let r = shared_in_hand v i t e in (r.0, ap₂ (λ c x. with_cells v c (slice_set v.hand i x)) k h ∙ r.1))

flattened_in_hand : (w : State) (i : ℕ) (t : Tree) → slice_get w.hand i ≡ Some t
    → (Done ≡ (step w (command.Flatten i)).reply) × (with_hand w (slice_set w.hand i (flattened w.store t)) ≡ (step w (command.Flatten i)).after)
flattened_in_hand w i (node (holder c) g m) e = rw e (refl, refl)
flattened_in_hand w i (node (leaf l) g m) e = rw e (refl, in_hand w w i (node (leaf l) g m) (node (leaf l) g m) w.store refl e refl refl)
flattened_in_hand w i (node (branch k ts) g m) e = rw e (refl, in_hand w w i (node (branch k ts) g m) (node (branch k ts) g m) w.store refl e refl refl)
flattened_in_hand w i (node (fields fs) g m) e = rw e (refl, in_hand w w i (node (fields fs) g m) (node (fields fs) g m) w.store refl e refl refl)

pub flatten_done : (w v : State) (i : ℕ) (t d : Tree) → v ≡ w → slice_get v.hand i ≡ Some t → d ≡ flattened v.store t
    → (Done ≡ (step w (command.Flatten i)).reply) × (with_hand v (slice_set v.hand i d) ≡ (step w (command.Flatten i)).after)
flatten_done w v i t d same e h =
    subst (λ q. (Done ≡ (step q (command.Flatten i)).reply) × (with_hand v (slice_set v.hand i d) ≡ (step q (command.Flatten i)).after)) same
    (let r = flattened_in_hand v i t e in (r.0, ap (λ x. with_hand v (slice_set v.hand i x)) h ∙ r.1))

share_wants : (w : State) (i : ℕ) (t : Tree) → slice_get w.hand i ≡ Some t → (is_some (cell_of t) ≡ true → false ≡ true) → (step w (command.Share i)).wants ≡ true
share_wants w i (node (holder c) g m) e f = let h = f refl in cc
share_wants w i (node (leaf l) g m) e f = rw e refl
share_wants w i (node (branch k ts) g m) e f = rw e refl
share_wants w i (node (fields fs) g m) e f = rw e refl

pub share_stopped : (w v : State) (i : ℕ) (t d : Tree) (s : List Cell) → v ≡ w → slice_get v.hand i ≡ Some t → (is_some (cell_of t) ≡ true → false ≡ true) → d ≡ t → s ≡ v.store
    → ((step w (command.Share i)).wants ≡ true) × (with_cells v s (slice_set v.hand i d) ≡ w)
share_stopped w v i t d s same e f h k = (subst (λ q. (step q (command.Share i)).wants ≡ true) same (share_wants v i t e f), in_hand w v i t d s same e h k)

flatten_wants : (w : State) (i : ℕ) (t : Tree) → slice_get w.hand i ≡ Some t → (cell_of t ≡ None → false ≡ true) → (step w (command.Flatten i)).wants ≡ true
flatten_wants w i (node (holder c) g m) e f = rw e refl
flatten_wants w i (node (leaf l) g m) e f = let h = f refl in cc
flatten_wants w i (node (branch k ts) g m) e f = let h = f refl in cc
flatten_wants w i (node (fields fs) g m) e f = let h = f refl in cc

pub flatten_stopped : (w v : State) (i : ℕ) (t d : Tree) → v ≡ w → slice_get v.hand i ≡ Some t → (cell_of t ≡ None → false ≡ true) → d ≡ t
    → ((step w (command.Flatten i)).wants ≡ true) × (with_hand v (slice_set v.hand i d) ≡ w)
flatten_stopped w v i t d same e f h = (subst (λ q. (step q (command.Flatten i)).wants ≡ true) same (flatten_wants v i t e f), in_hand w v i t d v.store same e h refl)

-- the value at a hand position in one of two equal states, as it is read in the other
pub read_at : (w v : State) (i : ℕ) (t u : Tree) → v ≡ w → slice_get w.hand i ≡ Some t → u ≡ get_or v.hand i u → slice_get v.hand i ≡ Some u
read_at w v i t u same e h = slice_get_read v.hand (length v.hand) i u refl (slice_get_within v.hand i t (ap (λ (q : State). slice_get q.hand i) same ∙ e)) h

-- an int is written over the held one, or none is held
abbrev int_found : State → ℕ → ℤ → Tree → Option ℤ → Outcome
int_found w i n t o = given o (Mismatch (end_name (end w.store [] t))) w (λ m. free Done (changed_by w (place.Hand i) (with_int n) t))

pub int_done : (w : State) (i : ℕ) (n : ℤ) (t d : Tree) (s : List Cell) → slice_get w.hand i ≡ Some t → is_some (held_part int_of (end w.store [] t)) ≡ true
    → (d ≡ value_after (with_int n) (end w.store [] t) t) × (s ≡ store_after (with_int n) (end w.store [] t) w.store)
    → (Done ≡ (step w (command.WriteInt i n)).reply) × (with_cells w s (slice_set w.hand i d) ≡ (step w (command.WriteInt i n)).after)
int_done w i n t d s e f h = rw e (at (held_part int_of (end w.store [] t)) f)
  where
    at : (o : Option ℤ) → is_some o ≡ true → (Done ≡ (int_found w i n t o).reply) × (with_cells w s (slice_set w.hand i d) ≡ (int_found w i n t o).after)
    at None f = cc
    at (Some m) f = (refl, ap₂ (λ c x. with_cells w c (slice_set w.hand i x)) h.1 h.0)

pub int_refused : (w : State) (i : ℕ) (n : ℤ) (t d : Tree) (s : List Cell) (name : List ℕ) → slice_get w.hand i ≡ Some t → is_some (held_part int_of (end w.store [] t)) ≡ false
    → (d ≡ t) × (s ≡ w.store) → name ≡ end_name (end w.store [] t)
    → (Refused (Mismatch name) ≡ (step w (command.WriteInt i n)).reply) × (with_cells w s (slice_set w.hand i d) ≡ (step w (command.WriteInt i n)).after)
int_refused w i n t d s name e f h k =
    rw (e, none) (ap (λ x. Refused (Mismatch x)) k, ap₂ (λ c x. with_cells w c (slice_set w.hand i x)) h.1 h.0 ∙ ap (with_cells w w.store) (set_own w.hand i t e))
  where
    absent : (o : Option ℤ) → is_some o ≡ false → o ≡ None
    absent None f = refl
    absent (Some m) f = cc

    none : held_part int_of (end w.store [] t) ≡ None
    none = absent (held_part int_of (end w.store [] t)) f

-- a hand position with a value
pub hand_within : (w v : State) (i : ℕ) (t : Tree) → w ≡ v → slice_get w.hand i ≡ Some t → i < length v.hand
hand_within w v i t e h = slice_get_within v.hand i t (ap (λ (x : State). slice_get x.hand i) (sym e) ∙ h)
