use Rattle.rhai_run.proofs.Refusals.{steps_refuse}
use Rattle.rhai_run.specs.declared.answer.Refusal.TheVariants.{Fault}
use Rattle.rhai_text.specs.declared.error.EvalAltResult.TheVariants as error
use Rattle.rhai_run.proofs.laws.refusals_change_nothing.Goals as goal

pub returns-clause-state : goal.returns-clause-state
returns-clause-state c w d why e = (steps_refuse w d why e).after

pub returns-clause-named : goal.returns-clause-named
returns-clause-named c w d e h = let named = (steps_refuse w d (Fault (error.ErrorMemory e)) h).named in cc

pub returns-clause-memory : goal.returns-clause-memory
returns-clause-memory c w d why e k = (steps_refuse w d why e).unwanted k
