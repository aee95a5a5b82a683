use Rattle.std.proofs.Common.{◌-◌, ◌≤◌, length, take, drop}
use Rattle.rhai_value.specs.Lists.{rows, AreBelow, AreAbove}
use Rattle.rhai_value.specs.Rows.{bytes_cmp}
use Rattle.rhai_value.proofs.map.sought.place_in.Given as goal

abbrev pub invariant-loop-low : goal.invariant-loop-low
invariant-loop-low l = record {
  ordered : l.low ≤ l.high;
  within : l.high ≤ length l.entries;
  below : AreBelow bytes_cmp l.sought (take l.low (rows l.entries));
  above : AreAbove bytes_cmp l.sought (drop l.high (rows l.entries));
}

abbrev pub decreases-loop-low : goal.decreases-loop-low
decreases-loop-low l = l.high - l.low
