use Rattle.std.proofs.Common.{◌≡◌, []}
use Rattle.rhai_value.specs.End.{end}
use Rattle.rhai_value.proofs.Chains.{chain, IsBehind}
use Rattle.rhai_value.proofs.value.dynamic.Dynamic.long_chain_end.Given as goal

abbrev pub invariant-loop-cell : goal.invariant-loop-cell
invariant-loop-cell l = (chain l.left l.store l.site l.at ≡ end l.store [] l.self) × IsBehind l.store l.kept l.at

abbrev pub decreases-loop-cell : goal.decreases-loop-cell
decreases-loop-cell l = l.left
