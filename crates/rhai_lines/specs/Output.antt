-- The output for an input.
use Rattle.std.specs.Prelude.{ℕ, List, [], ◌∷◌, ◌++◌, flat_map, take, length, Option, Some, None, option_and_then, option_map, if◌then◌else◌, ◌==◌, codes}
use Rattle.std.specs.List.{slice_split}
use Rattle.rhai_run.specs.declared.command.Command.{Command}
use Rattle.rhai_run.specs.State.{State, empty_state}
use Rattle.rhai_run.specs.Step.{step}
use Rattle.rhai_run.specs.Machine.{replies}
use Rattle.rhai_lines.specs.Printed.{printed}
use Rattle.rhai_lines.specs.Verbs.{command_of}

-- lines without an empty last one
abbrev pub without_empty_rest : List (List ℕ) → List (List ℕ)
without_empty_rest [] = []
without_empty_rest (line ∷ []) = if length line == 0 then [] else line ∷ []
without_empty_rest (line ∷ next ∷ lines) = line ∷ without_empty_rest (next ∷ lines)

-- the parts between line feeds (10); nothing after the last one is no line
abbrev pub lines_of : List ℕ → List (List ℕ)
lines_of input = without_empty_rest (slice_split (λ b. b == 10) input)

-- the output for a command or a line without one, and the world after it
abbrev pub answered : State → Option Command → List ℕ × State
answered w None = (codes "refused BadLine", w)
answered w (Some c) = (printed (step w c).reply, (step w c).after)

-- the same for a line, whose answer ends with a line feed
abbrev pub line_answer : State → List ℕ → List ℕ
line_answer w line = (answered w (command_of line)).0 ++ 10 ∷ []

abbrev pub line_state : State → List ℕ → State
line_state w line = (answered w (command_of line)).1

-- and for lines in order
abbrev pub answers_to_lines : State → List (List ℕ) → List ℕ
answers_to_lines w [] = []
answers_to_lines w (line ∷ lines) = line_answer w line ++ answers_to_lines (line_state w line) lines

abbrev pub state_after_lines : State → List (List ℕ) → State
state_after_lines w [] = w
state_after_lines w (line ∷ lines) = state_after_lines (line_state w line) lines

-- a new world without limits
abbrev pub new_world : State
new_world = empty_state (record { text = 0; items = 0 })

-- the output for the input of a world, and for its first n lines
abbrev pub output : State → List ℕ → List ℕ
output w input = answers_to_lines w (lines_of input)

abbrev pub output_of_first : State → ℕ → List ℕ → List ℕ
output_of_first w n input = answers_to_lines w (take n (lines_of input))

-- the commands of lines, if each has one
abbrev pub commands_in : List (List ℕ) → Option (List Command)
commands_in [] = Some []
commands_in (line ∷ lines) = option_and_then (λ c. option_map (λ cs. c ∷ cs) (commands_in lines)) (command_of line)

-- the output for commands executed on a world
abbrev pub output_of_commands : State → List Command → List ℕ
output_of_commands w commands = flat_map (λ reply. printed reply ++ 10 ∷ []) (replies w commands)
