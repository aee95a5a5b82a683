-- Calling a row of an operator on two values of the hand.
use Rattle.std.proofs.Common.{◌≡◌, ℕ, Bool, true, false, cond, nat_eq, slice_get, Some, Result, Ok, Err, refl, sym, ap, subst, ◌∙◌}
use Rattle.rhai_text.specs.declared.error.EvalAltResult.{EvalAltResult}
use Rattle.rhai_text.specs.Error.{is_memory}
use Rattle.rhai_text.specs.declared.token.Token.{Token}
use Rattle.rhai_value.specs.Tree.{Tree}
use Rattle.rhai_ops.specs.Outcome as call
use Rattle.rhai_ops.specs.Outcome.{IsOutcome, is_answer}
use Rattle.rhai_ops.specs.Results.{MayWant, outcome}
use Rattle.rhai_ops.specs.Table.{row_of}
use Rattle.rhai_ops.specs.Effects.{Effect, operator, assignment, answered}
use Rattle.rhai_ops.specs.declared.builtin.FnBuiltin.{FnBuiltin}
use Rattle.rhai_ops.proofs.ForCallers.{answered_refuses, refused_memory, refused_result}
use Rattle.rhai_run.specs.declared.not_done.NotDone.{NotDone}
use Rattle.rhai_run.specs.declared.not_done.NotDone.TheVariants.{Refused, Memory}
use Rattle.rhai_run.specs.declared.answer.Refusal.TheVariants.{Fault, NoBuiltin}
use Rattle.rhai_run.specs.State.{State, appended}
use Rattle.rhai_run.specs.declared.answer.Answer.TheVariants.{Done}
use Rattle.rhai_run.specs.Outcome.{given, growing}
use Rattle.rhai_run.specs.Does.{Gives, IsError, not_done_of}
use Rattle.rhai_run.specs.Operators.{called, finished}
use Rattle.rhai_run.specs.declared.command.Command.TheVariants as command
use Rattle.rhai_run.specs.Step.{step}

-- the outcome of the step
pub binary_is : (w : State) (op : Token) (i j : ℕ) (x y : Tree) (row : FnBuiltin) → slice_get w.hand i ≡ Some x → slice_get w.hand j ≡ Some y → nat_eq i j ≡ false → row_of op w.store x y ≡ Some row
    → step w (command.Binary op i j) ≡ called w (appended w) (outcome row w.limits w.store x y)
binary_is w op i j x y row ex ey e f = rw (ex, ey, e, f) refl

pub gives_value : (MayWant : Type 0) (w : State) (d : Tree) (o : call.Outcome) → IsOutcome MayWant (Ok d) o → called w (appended w) o ≡ growing Done (appended w d)
gives_value M w d o h = ap (called w (appended w)) h

-- the outcome of a call that is not done
wanted : (w : State) (after : Tree → State) (o : call.Outcome) → is_answer o ≡ true → (called w after o).wants ≡ true
wanted w after (call.answers t) h = refl
wanted w after (call.fault f) h = cc
wanted w after (call.too_large k) h = cc
wanted w after call.unsuited h = cc

pub refusal_of : (M : Type 0) (w : State) (how : Effect) (after : Tree → State) (e : EvalAltResult) (o : call.Outcome) → IsOutcome M (Err e) (answered how o) → IsError (not_done_of e) w (called w after o)
refusal_of M w how after e o h = by (is_memory e) refl
  where
    own : IsOutcome M (Err e) o
    own = answered_refuses M how o e h

    by : (b : Bool) → is_memory e ≡ b → IsError (cond b Memory (Refused (Fault e))) w (called w after o)
    by true m = wanted w after o (refused_memory M o e own m)
    by false m = ap (λ r. given r NoBuiltin w (finished w after)) (refused_result M o e own m)

-- the operands and the row of the call, in the state and in its memory representation
module _ (w v : State) (op : Token) (i j : ℕ) (x y : Tree) (row : FnBuiltin) (view : v ≡ w) (ex : slice_get w.hand i ≡ Some x) (ey : slice_get w.hand j ≡ Some y) (differ : nat_eq i j ≡ false) (found : row_of op w.store x y ≡ Some row) where
  abbrev of_operands : Result Tree EvalAltResult → State → Tree → Tree → Type 0
  of_operands result z t u = IsOutcome (MayWant row t u) result (outcome row z.limits z.store t u)

  seen : (result : Result Tree EvalAltResult) → of_operands result v x y → of_operands result w x y
  seen result h = subst (λ z. of_operands result z x y) view h

  pub called_value : (d : Tree) → of_operands (Ok d) v x y → step w (command.Binary op i j) ≡ growing Done (appended w d)
  called_value d h = binary_is w op i j x y row ex ey differ found ∙ gives_value (MayWant row x y) w d (outcome row w.limits w.store x y) (seen (Ok d) h)

  pub called_refusal : (e : EvalAltResult) (why : NotDone) (r : Result Tree NotDone) → of_operands (Err e) v x y → r ≡ Err why → why ≡ not_done_of e → Gives r w (step w (command.Binary op i j))
  called_refusal e why r h k m =
      subst (λ q. Gives q w (step w (command.Binary op i j))) (sym k)
      (subst (λ o. IsError why w o) (sym (binary_is w op i j x y row ex ey differ found))
      (subst (λ n. IsError n w (called w (appended w) (outcome row w.limits w.store x y))) (sym m) (refusal_of (MayWant row x y) w operator (appended w) e (outcome row w.limits w.store x y) (seen (Err e) h))))
