use Rattle.std.proofs.Common.{◌≡◌, ◌≤◌, ◌++◌, option_map, length}
use Rattle.rhai_host.specs.Lists.{names_at}
use Rattle.rhai_host.proofs.lists.listed.Given as goal

abbrev pub invariant-loop-left : goal.invariant-loop-left
invariant-loop-left l = record {
  found : names_at l.names l.numbers ≡ option_map (λ more. l.found.items ++ more) (names_at l.names l.left);
  fewer : length l.left ≤ length l.numbers;
}

abbrev pub decreases-loop-left : goal.decreases-loop-left
decreases-loop-left l = length l.left
