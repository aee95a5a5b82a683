-- Positions in lists, on two states that are equal up to a renaming: they don't use the states.
use Rattle.std.proofs.Common.{ℕ, ℤ, Bool, refl}
use Rattle.rhai_value.specs.Relation.{Renaming}
use Rattle.rhai_run.specs.Correspondence.{RelatedStates}
use Rattle.rhai_run.specs.State.{State}
use Rattle.rhai_run.proofs.Outcome.{Matches, m_stays}
use Rattle.rhai_run.specs.declared.command.Command.TheVariants as command
use Rattle.rhai_run.specs.Step.{step}

module _ (r : Renaming) (w v : State) (h : RelatedStates r w v) where
  pub same_offset : (length : ℕ) (start len : ℤ) → Matches r w v (step w (command.Offset length start len)) (step v (command.Offset length start len))
  same_offset length start len = m_stays r w v h _ _ refl

  pub same_index : (length : ℕ) (index : ℤ) (from_end : Bool) → Matches r w v (step w (command.Index length index from_end)) (step v (command.Index length index from_end))
  same_index length index from_end = m_stays r w v h _ _ refl

-- the steps in this file
pub ruleset index_steps = (same_offset, same_index)
