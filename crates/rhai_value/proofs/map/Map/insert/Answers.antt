use Rattle.rhai_value.proofs.KeptKeys.{rising_in, texts_in}
use Rattle.rhai_value.proofs.map.Map.insert.Goals as goal
use Rattle.rhai_value.proofs.map.Map.insert.Goals.{in-Some, in-None}

pub returns-clause-ordered : goal.returns-clause-ordered
returns-clause-ordered c = elim c.match-self.branch [
  | in-Some w ↦ rw w.self-inside-is w.insert.ensures.whole.rising
  | in-None w ↦ rw w.self-inside-is (rising_in _ c.self-2.invariant)
]

pub returns-clause-texts : goal.returns-clause-texts
returns-clause-texts c = elim c.match-self.branch [
  | in-Some w ↦ rw w.self-inside-is w.insert.ensures.whole.texts
  | in-None w ↦ rw w.self-inside-is (texts_in _ c.self-2.invariant)
]
