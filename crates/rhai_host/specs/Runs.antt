-- Runs over lines, whose output is the answer, and journals.
use Rattle.std.specs.Prelude.{◌≡◌, ◌<◌, ◌⊎◌, ℕ, zero, suc, List, length, Option, None, Some}
use Rattle.rhai_host.specs.declared.handle.kept.Kept.{Kept}
use Rattle.rhai_run.specs.declared.answer.Answer.TheVariants as answer
use Rattle.rhai_run.specs.declared.command.Command.{Command}
use Rattle.rhai_lines.specs.Output.{commands_in, lines_of, new_world, output}
use Rattle.rhai_lines.specs.Spelling.{IsJournalOf}
use Rattle.rhai_host.specs.declared.told.Told.{Told}
use Rattle.rhai_host.specs.Answers.{told_of}
use Rattle.rhai_host.specs.Calls.{InWorld, IsClosed, Stays}

-- the answer is what the lines print on a new world; or an allocation failed, which can only happen
-- if the input isn't empty, and nothing has changed
abbrev pub IsRun : ℕ → Kept → Kept → List ℕ → Told → Told → Type 0
IsRun zero k l input was told = (l.answer ≡ answer.Bytes (output new_world input)) × (told ≡ told_of l.answer) × (l.world ≡ k.world) × (l.names ≡ k.names)
IsRun (suc zero) k l input was told = (0 < length input) × Stays k l was told
IsRun (suc (suc n)) k l input was told = ⊥

abbrev pub Runs : ℕ → Option Kept → Option Kept → List ℕ → Told → Told → Type 0
Runs status None new input was told = IsClosed status new was told
Runs status (Some k) new input was told = InWorld new (λ l. IsRun status k l input was told)

-- the answer is the journal of the commands; or an allocation failed, or one of them has no line, and nothing has changed
abbrev pub IsWritten : ℕ → Kept → Kept → List Command → Told → Told → Type 0
IsWritten zero k l commands was told =
    (text : List ℕ) × IsJournalOf commands (Some text) × (l.answer ≡ answer.Bytes text) × (told ≡ told_of l.answer) × (l.world ≡ k.world) × (l.names ≡ k.names)
IsWritten (suc zero) k l commands was told = Stays k l was told
IsWritten (suc (suc n)) k l commands was told = (n ≡ 1) × IsJournalOf commands None × Stays k l was told

-- the same for the commands in lines, if each line is one; allocating these may fail too
abbrev pub IsJournaled : ℕ → Kept → Kept → Option (List Command) → Told → Told → Type 0
IsJournaled status k l None was told = ((status ≡ 3) ⊎ (status ≡ 4)) × Stays k l was told
IsJournaled status k l (Some commands) was told = ((status ≡ 4) × Stays k l was told) ⊎ IsWritten status k l commands was told

abbrev pub Journals : ℕ → Option Kept → Option Kept → List ℕ → Told → Told → Type 0
Journals status None new lines was told = IsClosed status new was told
Journals status (Some k) new lines was told = InWorld new (λ l. IsJournaled status k l (commands_in (lines_of lines)) was told)
