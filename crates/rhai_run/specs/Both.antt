-- Two worlds that run the same commands.
use Rattle.std.specs.Prelude.{◌≡◌, List}
use Rattle.rhai_run.specs.declared.both.StoppedBoth.{StoppedBoth}
use Rattle.rhai_run.specs.declared.both.StoppedBoth.TheVariants.{First, Second}
use Rattle.rhai_run.specs.declared.command.Command.{Command}
use Rattle.rhai_run.specs.Machine.{replies, state_after}
use Rattle.rhai_run.specs.State.{State}
use Rattle.rhai_run.specs.Stop.{Stops}

-- The first run stopped, and the second world is unchanged; or the first run gave all answers of
-- the machine, and the second stopped. The states were w and v before the runs, and are x and y
-- after them.
abbrev pub StopsBoth : StoppedBoth → State → State → List Command → State → State → Type 0
StopsBoth (First s) w v commands x y = Stops w commands s.answers.items x × (y ≡ v)
StopsBoth (Second answers s) w v commands x y =
    (answers.items ≡ replies w commands) × (x ≡ state_after w commands) × Stops v commands s.answers.items y
