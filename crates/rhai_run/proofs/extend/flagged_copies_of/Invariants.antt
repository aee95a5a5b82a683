use Rattle.std.proofs.Common.{◌≡◌, take}
use Rattle.rhai_run.proofs.extend.flagged_copies_of.Given as goal

abbrev pub invariant-loop-named : goal.invariant-loop-named
invariant-loop-named l = l.copies.items ≡ take l.named-index l.names
