use Rattle.std.proofs.Common.{◌≡◌, ◌≤◌, length, vec_capacity}
use Rattle.rhai_value.proofs.map.exchange.units.Given as goal

abbrev pub invariant-loop : goal.invariant-loop
invariant-loop l = record {
  full : length l.values.items ≡ l.counter;
  room : l.fn.count ≤ vec_capacity l.values;
}
