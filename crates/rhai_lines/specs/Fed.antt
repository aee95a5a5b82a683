-- The state of a run: how much of the input is answered.
use Rattle.std.specs.Prelude.{◌≡◌, ℕ, false, List, [], ◌++◌, Option, Some, All, ◌==◌}
use Rattle.std.specs.Io.KnownBytes.{Appends}
use Rattle.rhai_run.specs.State.{State}
use Rattle.rhai_lines.specs.Output.{lines_of, answers_to_lines, state_after_lines, output, output_of_first}

-- No further lines distinguish the two worlds.
abbrev pub AnswerAlike : State → State → Type 0
AnswerAlike w v = (lines : List (List ℕ)) → answers_to_lines w lines ≡ answers_to_lines v lines

-- The rest of the input is not read yet, and some first lines have their answers: `start` and `old`
-- are the world and the output before, `now` and `new` those after; `now` answers as `start` does
-- after these lines. The bytes of `partial` are read and have no answer; none is a line feed (10).
pub record Fed (input rest partial : List ℕ) (start now : State) (old new : Option (List ℕ)) : Type 0 where
  pub lines : List (List ℕ)
  pub input_is : lines_of input ≡ lines ++ lines_of (partial ++ rest)
  pub has_no_feed : All (λ b. (b == 10) ≡ false) partial
  pub state_is : AnswerAlike (state_after_lines start lines) now
  pub replied : Appends old new (answers_to_lines start lines)

-- Processing the bytes leads from a partial line, a world and an output to others, wherever in the input the bytes are.
abbrev pub Feeds : List ℕ → List ℕ → State → Option (List ℕ) → List ℕ → State → Option (List ℕ) → Type 0
Feeds bytes partial now written next after more =
    (input rest : List ℕ) (start : State) (old : Option (List ℕ)) → Fed input (bytes ++ rest) partial start now old written → Fed input rest next start after old more

-- A run stops somewhere in these bytes, after it has written the answers of some number of first lines.
abbrev pub StopsWithin : List ℕ → List ℕ → State → Option (List ℕ) → Option (List ℕ) → Type 0
StopsWithin bytes partial now written more =
    (input rest : List ℕ) (start : State) (old : Option (List ℕ)) → Fed input (bytes ++ rest) partial start now old written → (n : ℕ) × Appends old more (output_of_first start n input)

-- At the end of the input, the output is complete.
abbrev pub Completes : List ℕ → State → Option (List ℕ) → Option (List ℕ) → Type 0
Completes partial now written more =
    (input : List ℕ) (start : State) (old : Option (List ℕ)) → Fed input [] partial start now old written → Appends old more (output start input)

-- The rest of the input is left in the reader, and the complete lines read have their answers: only
-- a partial line has none.
abbrev pub AnswersWhatIsRead : State → List ℕ → Option (List ℕ) → Option (List ℕ) → Option (List ℕ) → Type 0
AnswersWhatIsRead start input left old new = (rest : List ℕ) × (partial : List ℕ) × (now : State) × (left ≡ Some rest) × Fed input rest partial start now old new
