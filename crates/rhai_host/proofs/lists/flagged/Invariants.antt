use Rattle.std.proofs.Common.{◌≡◌, ◌≤◌, ◌++◌, option_map, length}
use Rattle.rhai_host.specs.Lists.{flagged_at}
use Rattle.rhai_host.proofs.lists.flagged.Given as goal

abbrev pub invariant-loop-left : goal.invariant-loop-left
invariant-loop-left l = record {
  found : flagged_at l.names l.numbers l.flags ≡ option_map (λ more. l.found.items ++ more) (flagged_at l.names l.left l.flags_left);
  fewer : length l.left ≤ length l.numbers;
}

abbrev pub decreases-loop-left : goal.decreases-loop-left
decreases-loop-left l = length l.left
