use Rattle.std.proofs.Common.{sym}
use Rattle.rhai_value.proofs.KeptKeys.{rising_in, texts_in}
use Rattle.rhai_value.proofs.map.Map.get.Goals as goal

pub returns-in-Some-clause-ordered : goal.returns-in-Some-clause-ordered
returns-in-Some-clause-ordered c = rw (sym c.self.view_is) (rising_in _ c.self.invariant)

pub returns-in-None-clause-ordered : goal.returns-in-None-clause-ordered
returns-in-None-clause-ordered c = rw (sym c.self.view_is) (rising_in _ c.self.invariant)

pub returns-in-Some-clause-texts : goal.returns-in-Some-clause-texts
returns-in-Some-clause-texts c = rw (sym c.self.view_is) (texts_in _ c.self.invariant)

pub returns-in-None-clause-texts : goal.returns-in-None-clause-texts
returns-in-None-clause-texts c = rw (sym c.self.view_is) (texts_in _ c.self.invariant)
