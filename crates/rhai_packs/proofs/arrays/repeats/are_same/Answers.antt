use Rattle.rhai_packs.proofs.Sames.{told_other, told_same}
use Rattle.rhai_packs.proofs.arrays.repeats.are_same.Goals as goal

pub returns-in-Some : goal.returns-in-Some
returns-in-Some c = told_same c.args.store.now c.args.x.now c.args.y.now c.in-Some.same (rw c.in-Some.is at c.in_ok-same.ensures.same) (rw c.in-Some.is at c.in_ok-same.ensures.which)

pub returns-in-None : goal.returns-in-None
returns-in-None c = told_other c.args.store.now c.args.x.now c.args.y.now (rw c.in-None.is at c.in_ok-same.ensures.which)
