-- What a call across the border does, by the status that it returns: 0 done, 1 out of memory, 2 no
-- world is open, 3 the numbers, the text or the line are not a command, 4 no memory for the
-- command's operands. For any status except 0 nothing has changed, and nothing is reported.
use Rattle.std.specs.Prelude.{◌≡◌, ◌⊎◌, ℕ, zero, suc, true, Option, None, Some}
use Rattle.rhai_host.specs.declared.handle.kept.Kept.{Kept}
use Rattle.rhai_run.specs.declared.answer.Answer.{Answer}
use Rattle.rhai_run.specs.declared.command.Command.{Command}
use Rattle.rhai_run.specs.Outcome.{Outcome}
use Rattle.rhai_run.specs.State.{State}
use Rattle.rhai_run.specs.Step.{step}
use Rattle.rhai_host.specs.declared.told.Told.{Told}
use Rattle.rhai_host.specs.Answers.{kept_answer, told_of}

-- nothing has changed
abbrev pub Unchanged : Kept → Kept → Type 0
Unchanged k l = (l.world ≡ k.world) × (l.names ≡ k.names) × (l.answer ≡ k.answer)

-- nothing has changed, and the report is unchanged
abbrev pub Stays : {T : Type 0} → Kept → Kept → T → T → Type 0
Stays k l was told = Unchanged k l × (told ≡ was)

-- no world is open, before and afterwards, and the report is unchanged
abbrev pub IsClosed : {T : Type 0} → ℕ → Option Kept → T → T → Type 0
IsClosed status new was told = (status ≡ 2) × (new ≡ None) × (told ≡ was)

-- a world is open, and satisfies this
abbrev pub InWorld : Option Kept → (Kept → Type 0) → Type 0
InWorld None P = ⊥
InWorld (Some k) P = P k

-- there is the outcome, its reply is reported, and the rest of it is kept; or an allocation fails,
-- which never happens for an outcome that doesn't allocate
abbrev pub Replies : ℕ → State → State → Answer → Answer → Told → Told → Outcome → Type 0
Replies zero w v last kept was told o = (v ≡ o.after) × (told ≡ told_of o.reply) × (kept ≡ kept_answer last o.reply)
Replies (suc zero) w v last kept was told o = (o.wants ≡ true) × (v ≡ w) × (kept ≡ last) × (told ≡ was)
Replies (suc (suc n)) w v last kept was told o = ⊥

-- the command is done in an open world, or an allocation fails
abbrev pub DoesOne : ℕ → Kept → Kept → Told → Told → Command → Type 0
DoesOne status k l was told c = Replies status k.world l.world k.answer l.answer was told (step k.world c) × (l.names ≡ k.names)

-- a call that makes the command
abbrev pub Performs : ℕ → Option Kept → Option Kept → Told → Told → Command → Type 0
Performs status None new was told c = IsClosed status new was told
Performs status (Some k) new was told c = InWorld new (λ l. DoesOne status k l was told c)

-- the command given in a world is done, or none was given
abbrev pub DoesOneIf : ℕ → Kept → Kept → Told → Told → Option Command → Type 0
DoesOneIf status k l was told None = (status ≡ 3) × Stays k l was told
DoesOneIf status k l was told (Some c) = DoesOne status k l was told c

-- a call that gives a command, or none, depending on the contents
abbrev pub PerformsIf : ℕ → Option Kept → Option Kept → Told → Told → (Kept → Option Command) → Type 0
PerformsIf status None new was told says = IsClosed status new was told
PerformsIf status (Some k) new was told says = InWorld new (λ l. DoesOneIf status k l was told (says k))

-- a call that gives this command, or none
abbrev pub PerformsSaid : ℕ → Option Kept → Option Kept → Told → Told → Option Command → Type 0
PerformsSaid status old new was told None = PerformsIf status old new was told (λ k. None)
PerformsSaid status old new was told (Some c) = Performs status old new was told c

-- the command given in a world is done, or none was given; or the allocation of its operands
-- failed, if they need one
abbrev pub DoesOneMade : ℕ → Kept → Kept → Told → Told → Type 0 → Option Command → Type 0
DoesOneMade status k l was told Takes o = ((status ≡ 4) × Takes × Stays k l was told) ⊎ DoesOneIf status k l was told o

-- a call that gives such a command, depending on the contents
abbrev pub PerformsMade : ℕ → Option Kept → Option Kept → Told → Told → (Kept → Type 0) → (Kept → Option Command) → Type 0
PerformsMade status None new was told Takes says = IsClosed status new was told
PerformsMade status (Some k) new was told Takes says = InWorld new (λ l. DoesOneMade status k l was told (Takes k) (says k))
