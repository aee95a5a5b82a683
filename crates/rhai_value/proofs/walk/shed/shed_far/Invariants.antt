use Rattle.std.proofs.Common.{◌≡◌, ◌+◌}
use Rattle.rhai_value.specs.Tree.{nodes}
use Rattle.rhai_value.proofs.walk.shed.shed_far.Given as goal

abbrev pub invariant-loop-inner : goal.invariant-loop-inner
invariant-loop-inner l = nodes l.whole + nodes l.held ≡ nodes l.initial.whole + nodes l.initial.held

abbrev pub decreases-loop-inner : goal.decreases-loop-inner
decreases-loop-inner l = nodes l.held

abbrev pub decreases-loop-child : goal.decreases-loop-child
decreases-loop-child l = nodes l.whole
