-- Calls on the scripts of a handle. The script library promises only safety and termination, not
-- what a script does; so these definitions say what is unchanged.
use Rattle.std.specs.Prelude.{◌≡◌, ℕ, zero, suc, Bool, true, false, List, Option, None, Some}
use Rattle.rhai_host.specs.declared.handle.kept.Kept.{Kept}
use Rattle.rhai_run.specs.declared.answer.Answer.{Answer}
use Rattle.rhai_run.specs.declared.answer.Answer.TheVariants as answer
use Rattle.rhai_host.specs.declared.told.Told.{Told}
use Rattle.rhai_host.specs.Answers.{kept_answer, told_of}
use Rattle.rhai_host.specs.Calls.{InWorld, IsClosed, Stays}

-- the world and the names are unchanged
abbrev pub KeepsWorld : Kept → Kept → Type 0
KeepsWorld k l = (l.world ≡ k.world) × (l.names ≡ k.names)

-- a call on scripts: no world is open, before and afterwards, or world and names are unchanged
abbrev pub OnScripts : ℕ → Option Kept → Option Kept → Type 0
OnScripts status None new = (status ≡ 2) × (new ≡ None)
OnScripts status (Some k) new = InWorld new (λ l. KeepsWorld k l)

-- bytes are the answer, and reported; or nothing has changed
abbrev pub AreAnswered : ℕ → Kept → Kept → Told → Told → Type 0
AreAnswered zero k l was told = (bytes : List ℕ) × (l.answer ≡ answer.Bytes bytes) × (told ≡ told_of l.answer) × KeepsWorld k l
AreAnswered (suc n) k l was told = Stays k l was told

-- a call that returns bytes
abbrev pub AnswersBytes : ℕ → Option Kept → Option Kept → Told → Told → Type 0
AnswersBytes status None new was told = IsClosed status new was told
AnswersBytes status (Some k) new was told = InWorld new (λ l. AreAnswered status k l was told)

-- whether an answer is a value: unit, a boolean, an int, or bytes
abbrev pub is_value : Answer → Bool
is_value answer.Done = true
is_value (answer.Bool truth) = true
is_value (answer.Int n) = true
is_value (answer.Text text) = false
is_value (answer.Bytes bytes) = true
is_value (answer.Pair m n) = false
is_value answer.Nothing = false
is_value (answer.Refused why) = false

-- a value is reported, and its bytes, if it has some, are the answer; or nothing has changed
abbrev pub IsReported : ℕ → Kept → Kept → Told → Told → Type 0
IsReported zero k l was told = (a : Answer) × (told ≡ told_of a) × (l.answer ≡ kept_answer k.answer a) × (is_value a ≡ true) × KeepsWorld k l
IsReported (suc n) k l was told = Stays k l was told

-- a call that returns a value
abbrev pub AnswersValue : ℕ → Option Kept → Option Kept → Told → Told → Type 0
AnswersValue status None new was told = IsClosed status new was told
AnswersValue status (Some k) new was told = InWorld new (λ l. IsReported status k l was told)
