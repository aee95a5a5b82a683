-- Components of steps that call operators and assignments.
use Rattle.std.specs.Prelude.{ℕ, slice_set, Result, Ok, Err}
use Rattle.rhai_ops.specs.Outcome as call
use Rattle.rhai_ops.specs.Outcome.{result_of}
use Rattle.rhai_ops.specs.Effects.{Effect, operator, assignment, stays, taken, rewritten}
use Rattle.rhai_value.specs.Tree.{Tree, fresh, unit}
use Rattle.rhai_run.specs.State.{State, with_hand}
use Rattle.rhai_run.specs.declared.answer.Answer.TheVariants.{Done}
use Rattle.rhai_run.specs.declared.answer.Refusal.TheVariants.{NoBuiltin, Fault}
use Rattle.rhai_text.specs.declared.error.EvalAltResult.{EvalAltResult}
use Rattle.rhai_run.specs.Outcome.{Outcome, given, growing, refuse}
use Rattle.rhai_run.specs.declared.command.Place.{Place}
use Rattle.rhai_run.specs.Places.{changed_by}

-- a value, from which a state is made, or a fault
abbrev pub finished : State → (Tree → State) → Result Tree EvalAltResult → Outcome
finished w after (Ok t) = growing Done (after t)
finished w after (Err e) = refuse (Fault e) w

-- the outcome of a row; one that was found suits its operands
abbrev pub called : State → (Tree → State) → call.Outcome → Outcome
called w after o = given (result_of o) NoBuiltin w (finished w after)

-- the second operand after the call of a row: unit, if the row takes it
abbrev pub left_over : Effect → Tree → Tree
left_over operator u = u
left_over (assignment stays) u = u
left_over (assignment taken) u = fresh unit

-- The outcome of an assignment on the value t at a place and the value u at j: the content of its
-- value is written where the chain from t ends, and j has what is left of u.
abbrev pub assigned : State → Place → ℕ → Effect → Tree → Tree → call.Outcome → Outcome
assigned w place j how t u o = called w (λ d. changed_by (with_hand w (slice_set w.hand j (left_over how u))) place (rewritten d) t) o
