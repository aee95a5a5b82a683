-- Refusals: they leave the state unchanged, allocate only to hash, and a failed allocation is never their reason.
use Rattle.std.proofs.Common.{◌≡◌, ℕ, ℤ, Bool, true, false, cond, if◌then◌else◌, nat_eq, nat_le, nat_lt, List, [], ◌∷◌, ◌++◌, length, slice_get, Option, Some, None, is_some, refl, subst}
use Rattle.rhai_ops.specs.Outcome.{no_place}
use Rattle.rhai_show.specs.HashBytes.{plain_bytes}
use Rattle.std.specs.Option.{option_map_or}
use Rattle.rhai_ops.specs.Outcome as call
use Rattle.rhai_scope.specs.Entry.{is_constant_entry}
use Rattle.rhai_scope.specs.Lookup.{last_entry}
use Rattle.rhai_show.specs.Plain.{Plain}
use Rattle.rhai_target.specs.Change.{Change}
use Rattle.rhai_value.specs.End.{End, end, end_name, held_part}
use Rattle.rhai_value.specs.Parts.{unit_of, int_of, bool_of, blob_of, char_of, text_of}
use Rattle.rhai_value.specs.Tree.{Tree}
use Rattle.rhai_run.specs.declared.command.Command.{Command}
use Rattle.rhai_run.specs.declared.command.Command.TheVariants as command
use Rattle.rhai_run.specs.declared.command.Place.{Place}
use Rattle.rhai_run.specs.declared.command.Place.TheVariants as place
use Rattle.rhai_run.specs.declared.command.Question.{Question}
use Rattle.rhai_run.specs.declared.command.Question.TheVariants as question
use Rattle.rhai_run.specs.declared.pieces.Piece.{Piece}
use Rattle.rhai_run.specs.declared.pieces.Piece.TheVariants as piece
use Rattle.rhai_run.specs.Ask.{asked}
use Rattle.rhai_run.specs.Entries.{appended_or_nothing}
use Rattle.rhai_run.specs.Operators.{called}
use Rattle.rhai_run.specs.Outcome.{Outcome, growing_if, free, growing, refuse, unless, given, of_held, with_value, with_two, taken_off, gathered}
use Rattle.rhai_run.specs.Places.{changed_by, with_place, with_place_and}
use Rattle.rhai_run.specs.declared.answer.Answer.{Answer}
use Rattle.rhai_run.specs.declared.answer.Refusal.{Refusal}
use Rattle.rhai_run.specs.declared.answer.Answer.TheVariants as answer
use Rattle.rhai_run.specs.declared.answer.Refusal.TheVariants.{Fault, NoValue, SameValue, NoEntry, ConstantEntry, WrongSource, BitPlace, BytePlace, NoBuiltin, NotHashable, Mismatch}
use Rattle.rhai_text.specs.declared.error.EvalAltResult.TheVariants as error
use Rattle.rhai_run.specs.State.{State, appended, with_hand}
use Rattle.rhai_run.specs.Step.{step}
use Rattle.rhai_run.specs.WriteBack.{no_bit, no_byte, rule, step_write_back}

-- whether a reason is other than a failed allocation
abbrev is_named : Refusal → Bool
is_named (Fault (error.ErrorMemory e)) = false
is_named _ = true

abbrev IsNamed : Refusal → Type 0
IsNamed r = is_named r ≡ true

-- the state after a refusal for this reason
pub record Leaves (w : State) (o : Outcome) (why : Refusal) : Type 0 where
  pub after : o.after ≡ w
  pub named : IsNamed why
  pub unwanted : o.wants ≡ true → why ≡ NotHashable

abbrev pub Refuses : State → Outcome → Type 0
Refuses w o = (why : Refusal) → o.reply ≡ answer.Refused why → Leaves w o why

-- an answer that isn't a refusal
abbrev Answers : Answer → Type 0
Answers r = (why : Refusal) → r ≡ answer.Refused why → ⊥

answers : (w v : State) (b : Bool) (r : Answer) → Answers r → Refuses w (growing_if b r v)
answers w v b r h why e = absurd (h why e)

is_done : (w v : State) (b : Bool) → Refuses w (growing_if b answer.Done v)
is_done w v b = answers w v b answer.Done (λ why e. cc)

refuses : (w : State) (r : Refusal) → IsNamed r → Refuses w (refuse r w)
refuses w r h why e = let same : r ≡ why = cc in record { after = refl; named = subst IsNamed same h; unwanted = λ k. absurd (cc) }

either : (w : State) (b : Bool) (o p : Outcome) → Refuses w o → Refuses w p → Refuses w (cond b o p)
either w true o p h k = h
either w false o p h k = k

if_not : (w : State) (b : Bool) (r : Refusal) (o : Outcome) → IsNamed r → Refuses w o → Refuses w (unless b r w o)
if_not w b r o n h = either w b (refuse r w) o (refuses w r n) h

is_given : {X : Type 0} (w : State) (o : Option X) (r : Refusal) (go : X → Outcome) → IsNamed r → ((x : X) → Refuses w (go x)) → Refuses w (given o r w go)
is_given w None r go n h = refuses w r n
is_given w (Some x) r go n h = h x

has_value : (w : State) (i : ℕ) (go : Tree → Outcome) → ((t : Tree) → Refuses w (go t)) → Refuses w (with_value w i go)
has_value w i go h = is_given w (slice_get w.hand i) NoValue go refl h

has_two : (w : State) (i j : ℕ) (go : Tree → Tree → Outcome) → ((t u : Tree) → Refuses w (go t u)) → Refuses w (with_two w i j go)
has_two w i j go h = has_value w i _ (λ t. has_value w j _ (λ u. if_not w (nat_eq i j) SameValue (go t u) refl (h t u)))

takes_off : (w : State) (n : ℕ) (go : List Tree → List Tree → Outcome) → ((before last : List Tree) → Refuses w (go before last)) → Refuses w (taken_off w n go)
takes_off w n go h = either w (nat_le n (length w.hand)) _ _ (h _ _) (refuses w NoValue refl)

gathers : (w : State) (n : ℕ) (make : List Tree → Tree) → Refuses w (gathered w n make)
gathers w n make = takes_off w n (λ before last. growing answer.Done (with_hand w (before ++ make last ∷ []))) (λ b l. is_done w _ true)

has_place : (w : State) (p : Place) (go : Tree → Outcome) → ((t : Tree) → Refuses w (go t)) → Refuses w (with_place w p go)
has_place w (place.Hand i) go h = has_value w i go h
has_place w (place.Entry name) go h = is_given w (last_entry name w.entries) NoEntry _ refl (λ x. if_not w (is_constant_entry x) ConstantEntry _ refl (h x.value))

has_place_and : (w : State) (p : Place) (j : ℕ) (go : Tree → Tree → Outcome) → ((t u : Tree) → Refuses w (go t u)) → Refuses w (with_place_and w p j go)
has_place_and w p j go h = has_value w j _ (λ u. has_place w p _ (λ t. h t u))

is_called : (w : State) (after : Tree → State) (o : call.Outcome) → Refuses w (called w after o)
is_called w after (call.answers t) = is_done w (after t) true
is_called w after (call.fault f) = refuses w _ refl
is_called w after (call.too_large k) = refuses w _ refl
is_called w after call.unsuited = refuses w NoBuiltin refl

found_or_nothing : (w v : State) (o : Option Tree) → Refuses w (appended_or_nothing v o)
found_or_nothing w v None = answers w v false answer.Nothing (λ why e. cc)
found_or_nothing w v (Some t) = is_done w (appended v t) true

-- a source without a piece, and a working value of another type
IsNamedIf : Option Refusal → Type 0
IsNamedIf None = Unit {0}
IsNamedIf (Some r) = IsNamed r

named_if : (b : Bool) (r : Refusal) → IsNamed r → IsNamedIf (if b then None else Some r)
unfolding IsNamedIf
named_if true r n = tt
named_if false r n = n

lacks : (p : Piece) (e : End) → IsNamedIf ((rule p).lack e)
unfolding IsNamedIf
lacks (piece.Bit n) e = bit (held_part int_of e) n
  where
    bit : (o : Option ℤ) (n : ℕ) → IsNamedIf (no_bit o n)
    bit None n = refl
    bit (Some k) n = named_if (nat_lt n 64) BitPlace refl
lacks (piece.Field mask n) e = bit (held_part int_of e) n
  where
    bit : (o : Option ℤ) (n : ℕ) → IsNamedIf (no_bit o n)
    bit None n = refl
    bit (Some k) n = named_if (nat_lt n 64) BitPlace refl
lacks (piece.Byte n) e = byte (held_part blob_of e) n
  where
    byte : (o : Option (List ℕ)) (n : ℕ) → IsNamedIf (no_byte o n)
    byte None n = refl
    byte (Some bs) n = named_if (nat_lt n (length bs)) BytePlace refl
lacks (piece.Character n) e = text (held_part text_of e)
  where
    text : (o : Option (List ℕ)) → IsNamedIf (if is_some o then None else Some WrongSource)
    text None = refl
    text (Some cs) = tt
lacks (piece.Characters slice) e = text (held_part text_of e)
  where
    text : (o : Option (List ℕ)) → IsNamedIf (if is_some o then None else Some WrongSource)
    text None = refl
    text (Some cs) = tt

has_all : (w : State) (o : Option Refusal) (x : Outcome) → IsNamedIf o → Refuses w x → Refuses w (option_map_or (λ why. refuse why w) o x)
unfolding IsNamedIf
has_all w None x n h = h
has_all w (Some r) x n h = refuses w r n

is_changed : (w : State) (p : Place) (q : Piece) (c : Change) (t : Tree) (held : List ℕ) → Refuses w (given c (Fault (error.ErrorMismatchDataType (rule q).wanted held no_place)) w (λ f. growing_if (rule q).makes_text answer.Done (changed_by w p f t)))
is_changed w p q None t held = refuses w _ refl
is_changed w p q (Some f) t held = is_done w _ _

writes_back : (w : State) (p : Place) (q : Piece) (j : ℕ) → Refuses w (step_write_back w p q j)
writes_back w p q j = has_place_and w p j _ (λ t u. has_all w ((rule q).lack (end w.store [] t)) _ (lacks q (end w.store [] t)) (is_changed w p q ((rule q).change w.store t u) t _))

-- questions
is_of_held : {A : Type 0} (w : State) (part : Tree → Option A) (e : End) (go : A → Outcome) → ((a : A) → Refuses w (go a)) → Refuses w (of_held w part e go)
is_of_held w part e go h = is_given w (held_part part e) (Mismatch (end_name e)) go refl h

is_truth : (w : State) (b : Bool) (c : Bool) → Refuses w (growing_if b (answer.Bool c) w)
is_truth w b c = answers w w b (answer.Bool c) (λ why e. cc)

is_number : (w v : State) (n : ℤ) → Refuses w (free (answer.Int n) v)
is_number w v n = answers w v false (answer.Int n) (λ why e. cc)

is_text_answer : (w : State) (t : List ℕ) → Refuses w (growing (answer.Text t) w)
is_text_answer w t = answers w w true (answer.Text t) (λ why e. cc)

asks : (w : State) (t : Tree) (q : Question) → Refuses w (asked w t q)
asks w t question.Tag = is_number w w _
asks w t question.Variant = is_truth w false _
asks w t question.Shared = is_truth w false _
asks w t question.ReadOnly = is_truth w false _
asks w t question.Locked = is_truth w false _
asks w t question.TypeName = is_text_answer w _
asks w t (question.Held kind) = is_truth w false _
asks w t question.Hashable = is_truth w true _
asks w t (question.Is kind) = is_truth w false _
asks w t question.Unit = is_of_held w unit_of (end w.store [] t) _ (λ a. is_done w w false)
asks w t question.Int = is_of_held w int_of (end w.store [] t) _ (λ a. is_number w w a)
asks w t question.Bool = is_of_held w bool_of (end w.store [] t) _ (λ a. is_truth w false a)
asks w t question.Char = is_of_held w char_of (end w.store [] t) _ (λ a. is_text_answer w _)

-- the two hashes
unhashed : (w : State) → Refuses w (growing (answer.Refused NotHashable) w)
unhashed w why e = let same : NotHashable ≡ why = cc in record { after = refl; named = subst IsNamed same refl; unwanted = λ k. cc }

hashes : (w : State) (o : Option Plain) → Refuses w (growing (option_map_or (λ p. answer.Bytes (plain_bytes p)) o (answer.Refused NotHashable)) w)
hashes w None = unhashed w
hashes w (Some p) = answers w w true _ (λ why e. cc)

hashes_scope : (w : State) (o : Option (List ℕ)) → Refuses w (growing (option_map_or answer.Bytes o (answer.Refused NotHashable)) w)
hashes_scope w None = unhashed w
hashes_scope w (Some bs) = answers w w true _ (λ why e. cc)

answers_if_any : {X : Type 0} (w : State) (reply : X → Answer) (o : Option X) → ((x : X) → Answers (reply x)) → Refuses w (free (option_map_or reply o answer.Nothing) w)
answers_if_any w reply None h = answers w w false answer.Nothing (λ why e. cc)
answers_if_any w reply (Some x) h = answers w w false (reply x) (h x)

is_pair : (w : State) (m n : ℕ) → Refuses w (free (answer.Pair m n) w)
is_pair w m n = answers w w false (answer.Pair m n) (λ why e. cc)

is_nothing : (w : State) → Refuses w (free answer.Nothing w)
is_nothing w = answers w w false answer.Nothing (λ why e. cc)

number_if_any : {X : Type 0} (w : State) (n : X → ℤ) (o : Option X) → Refuses w (free (option_map_or (λ x. answer.Int (n x)) o answer.Nothing) w)
number_if_any w n o = answers_if_any w (λ x. answer.Int (n x)) o (λ x why e. cc)

truth_if_any : {X : Type 0} (w : State) (b : X → Bool) (o : Option X) → Refuses w (free (option_map_or (λ x. answer.Bool (b x)) o answer.Nothing) w)
truth_if_any w b o = answers_if_any w (λ x. answer.Bool (b x)) o (λ x why e. cc)

-- the components of steps
ruleset refusing = (is_done, either, if_not, is_given, has_value, has_two, takes_off, gathers, has_place, has_place_and, is_called, found_or_nothing, writes_back, is_of_held, is_truth, is_number, is_text_answer, asks, hashes, hashes_scope, number_if_any, truth_if_any, refuses, is_pair, is_nothing)

-- each command is refused as the components of its step are
pub steps_refuse : (w : State) (c : Command) → Refuses w (step w c)
steps_refuse w (command.Put literal) = is_done w _ true
steps_refuse w c = search refusing
