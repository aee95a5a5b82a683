use Rattle.std.proofs.Common.{◌≡◌, map}
use Rattle.rhai_cast.proofs.makers.yielded_items.Given as goal

abbrev pub invariant-loop-item : goal.invariant-loop-item
invariant-loop-item g l = l.values.items ≡ map g.T.Variant.tree l.yielded
