-- Calls that open, close and inspect a world, and keep names.
use Rattle.std.specs.Prelude.{◌≡◌, ◌≢◌, ℕ, zero, suc, Bool, true, false, List, [], ◌++◌, length, take, drop, encode_utf8_all, Option, None, Some}
use Rattle.rhai_text.specs.declared.error.EvalAltResult.{EvalAltResult}
use Rattle.rhai_text.specs.declared.error.EvalAltResult.TheVariants as error
use Rattle.rhai_text.specs.declared.limits.Limits.{Limits}
use Rattle.rhai_host.specs.declared.handle.kept.Kept.{Kept}
use Rattle.rhai_run.specs.KeptWorld.{Collects}
use Rattle.rhai_run.specs.State.{empty_state}
use Rattle.rhai_run.specs.declared.answer.Answer.{Answer}
use Rattle.rhai_run.specs.declared.answer.Answer.TheVariants as answer
use Rattle.rhai_run.specs.declared.answer.Refusal.{Refusal}
use Rattle.rhai_run.specs.declared.answer.Refusal.TheVariants as refusal
use Rattle.slab.specs.Slab.{HasRoomFor, Updates}
use Rattle.rhai_host.specs.Calls.{InWorld, IsClosed, Stays, Unchanged}
use Rattle.rhai_host.specs.Names.{name_at}
use Rattle.rhai_host.specs.Numbers.{text_of}

-- a new world, no name and the answer for done, and the world that was open is closed; or an
-- allocation failed, and that one is unchanged
abbrev pub Opens : ℕ → Option Kept → Option Kept → Limits → Type 0
Opens zero old new limits = InWorld new (λ l. (l.world ≡ empty_state limits) × (l.names.slots ≡ []) × (l.answer ≡ answer.Done))
Opens (suc zero) old new limits = new ≡ old
Opens (suc (suc n)) old new limits = ⊥

-- the table of names with another name at a number, or none; if it has room for one more name, it
-- doesn't allocate
pub record IsRenamed (k l : Kept) (number : ℕ) (name : Option (List ℕ)) : Type 0 where
  pub names : Updates k.names l.names number name
  pub room : HasRoomFor k.names 1 → l.names.capacity ≡ k.names.capacity
  pub world : l.world ≡ k.world
  pub answer : l.answer ≡ k.answer

-- each number has its name, and everything else is the same
abbrev pub AreNamedAlike : Kept → Kept → Type 0
AreNamedAlike k l = (l.names.slots ≡ k.names.slots) × (l.world ≡ k.world) × (l.answer ≡ k.answer)

-- the name got a number that had none; or an allocation failed, or the bytes are not a text, and no
-- number is returned
abbrev pub IsNamed : ℕ → Kept → Kept → Option (List ℕ) → ℕ → ℕ → Type 0
IsNamed status k l None was number = (status ≡ 3) × Stays k l was number
IsNamed zero k l (Some name) was number = (name_at k number ≡ None) × IsRenamed k l number (Some name)
IsNamed (suc zero) k l (Some name) was number = AreNamedAlike k l × (number ≡ was)
IsNamed (suc (suc n)) k l (Some name) was number = ⊥

abbrev pub Names : ℕ → Option Kept → Option Kept → List ℕ → ℕ → ℕ → Type 0
Names status None new bytes was number = IsClosed status new was number
Names status (Some k) new bytes was number = InWorld new (λ l. IsNamed status k l (text_of bytes) was number)

-- the number no longer has a name, and there is room for one; or it had none, and nothing has
-- changed
abbrev pub IsGivenUp : ℕ → Kept → Kept → ℕ → Option (List ℕ) → Type 0
IsGivenUp status k l number None = (status ≡ 3) × Unchanged k l
IsGivenUp status k l number (Some name) = (status ≡ 0) × IsRenamed k l number None × HasRoomFor l.names 1

abbrev pub GivesUp : ℕ → Option Kept → Option Kept → ℕ → Type 0
GivesUp status None new number = (status ≡ 2) × (new ≡ None)
GivesUp status (Some k) new number = InWorld new (λ l. IsGivenUp status k l number (name_at k number))

-- the names of types in an error: the expected one, then the actual one
abbrev pub fault_text : EvalAltResult → Bool → List ℕ
fault_text (error.ErrorMismatchDataType wanted found at) false = wanted
fault_text (error.ErrorMismatchDataType wanted found at) true = found
fault_text (error.ErrorDataRace at) second = []
fault_text (error.ErrorArithmetic why at) second = []
fault_text (error.ErrorDataTooLarge what at) second = []
fault_text (error.ErrorMemory e) second = []

-- the names of types in a refusal
abbrev pub refusal_text : Refusal → Bool → List ℕ
refusal_text (refusal.Mismatch name) false = name
refusal_text (refusal.Mismatch name) true = []
refusal_text (refusal.Fault e) second = fault_text e second
refusal_text refusal.NoValue second = []
refusal_text refusal.SameValue second = []
refusal_text refusal.NoEntry second = []
refusal_text refusal.EmptyScope second = []
refusal_text refusal.ConstantEntry second = []
refusal_text refusal.SharedEntry second = []
refusal_text refusal.NoMark second = []
refusal_text refusal.WrongSource second = []
refusal_text refusal.BitPlace second = []
refusal_text refusal.BytePlace second = []
refusal_text refusal.NoBuiltin second = []
refusal_text refusal.NotHashable second = []

-- the bytes of an answer: a text, bytes, or the name of a type; or those of a second name
abbrev pub answer_bytes : Answer → Bool → List ℕ
answer_bytes (answer.Text t) false = encode_utf8_all t
answer_bytes (answer.Text t) true = []
answer_bytes (answer.Bytes b) false = b
answer_bytes (answer.Bytes b) true = []
answer_bytes (answer.Refused why) second = refusal_text why second
answer_bytes answer.Done second = []
answer_bytes (answer.Bool b) second = []
answer_bytes (answer.Int n) second = []
answer_bytes (answer.Pair m n) second = []
answer_bytes answer.Nothing second = []

-- the same for the answer that is kept in a handle; none if no world is open
abbrev pub kept_bytes : Option Kept → Bool → List ℕ
kept_bytes None second = []
kept_bytes (Some k) second = answer_bytes k.answer second

-- as many as fit overwrite the first ones
abbrev pub copied_into : List ℕ → List ℕ → List ℕ
copied_into bytes room = take (length room) bytes ++ drop (length bytes) room

-- how many values the hand has; 0 if no world is open
abbrev pub hand_len : Option Kept → ℕ
hand_len None = 0
hand_len (Some k) = length k.world.hand

-- unreachable cells are freed; or an allocation failed, which can only happen if there is a cell,
-- and nothing has changed
abbrev pub IsCollected : ℕ → Kept → Kept → Type 0
IsCollected zero k l = Collects k.world l.world × (l.names ≡ k.names) × (l.answer ≡ k.answer)
IsCollected (suc zero) k l = (k.world.store ≢ []) × Unchanged k l
IsCollected (suc (suc n)) k l = ⊥

abbrev pub CollectsKept : ℕ → Option Kept → Option Kept → Type 0
CollectsKept status None new = (status ≡ 2) × (new ≡ None)
CollectsKept status (Some k) new = InWorld new (λ l. IsCollected status k l)
