-- The contract of the code of a command.
use Rattle.std.specs.Prelude.{◌≡◌, true, Option, Some, None, Result, Ok, Err, if◌then◌else◌}
use Rattle.rhai_run.specs.declared.answer.Answer.{Answer}
use Rattle.rhai_run.specs.declared.not_done.NotDone.{NotDone}
use Rattle.rhai_run.specs.declared.not_done.NotDone.TheVariants.{Refused, Memory}
use Rattle.rhai_text.specs.declared.error.EvalAltResult.{EvalAltResult}
use Rattle.rhai_text.specs.Error.{is_memory}
use Rattle.rhai_value.specs.Tree.{Tree}
use Rattle.rhai_run.specs.declared.answer.Refusal.TheVariants.{Fault}
use Rattle.rhai_run.specs.State.{State, appended}
use Rattle.rhai_run.specs.declared.answer.Refusal.{Refusal}
use Rattle.rhai_run.specs.declared.answer.Answer.TheVariants as answer
use Rattle.rhai_run.specs.Outcome.{Outcome, growing, refuse}
use Rattle.std.specs.declared.alloc.AllocError.{AllocError}
use Rattle.rhai_run.specs.Entries.{appended_or_nothing}

-- Not done: that is the refusal, and nothing has changed; or an allocation failed, where one may be needed.
abbrev pub IsError : NotDone → State → Outcome → Type 0
IsError (Refused why) w o = o ≡ refuse why w
IsError Memory w o = o.wants ≡ true

-- A value is made, and the outcome is to append it to the hand; or it isn't.
abbrev pub Gives : Result Tree NotDone → State → Outcome → Type 0
Gives (Ok t) w o = o ≡ growing answer.Done (appended w t)
Gives (Err e) w o = IsError e w o

-- The same for an optional value: the outcome is to append it to the hand, if there is one.
abbrev pub GivesIfAny : Result (Option Tree) NotDone → State → Outcome → Type 0
GivesIfAny (Ok o) w x = x ≡ appended_or_nothing w o
GivesIfAny (Err e) w x = IsError e w x

-- a test that refuses for this reason, if there is one, and allocates nothing
abbrev pub Tests : {X : Type 0} → Result X NotDone → Option Refusal → Type 0
Tests (Ok x) o = o ≡ None
Tests (Err (Refused why)) o = o ≡ Some why
Tests (Err Memory) o = ⊥

-- the refusal for something that doesn't exist
abbrev pub IsRefusal : {X : Type 0} → NotDone → Result X Refusal → Type 0
IsRefusal (Refused why) o = o ≡ Err why
IsRefusal Memory o = ⊥

-- the error of a call as why a command isn't done
abbrev pub not_done_of : EvalAltResult → NotDone
not_done_of e = if is_memory e then Memory else Refused (Fault e)

-- A call is done, and this is the outcome; or its error is that of the outcome, and nothing has changed.
abbrev pub Calls : Result Tree EvalAltResult → State → State → Outcome → Type 0
Calls (Ok t) w v o = o ≡ growing answer.Done v
Calls (Err e) w v o = IsError (not_done_of e) w o × (v ≡ w)

-- The answer or the refusal is that of the outcome, and so is the state; or an allocation failed,
-- where one may be needed, and nothing has changed.
abbrev pub Does : Result Answer NotDone → State → State → Outcome → Type 0
Does (Ok a) old new o = (a ≡ o.reply) × (new ≡ o.after)
Does (Err (Refused why)) old new o = (answer.Refused why ≡ o.reply) × (new ≡ o.after)
Does (Err Memory) old new o = (o.wants ≡ true) × (new ≡ old)

-- The same for a method of a world: a refusal is an answer.
abbrev pub Steps : Result Answer AllocError → State → State → Outcome → Type 0
Steps (Ok a) old new o = (a ≡ o.reply) × (new ≡ o.after)
Steps (Err e) old new o = (o.wants ≡ true) × (new ≡ old)
