use Rattle.std.proofs.Common.{◌≡◌, ◌-◌, ◌+◌, ◌≤◌, ◌++◌, ℕ, length, map, take, drop}
use Rattle.rhai_value.specs.Lists.{chunk_rows, joined, AreBelow, AreAbove}
use Rattle.rhai_value.specs.Rows.{Rows, bytes_cmp, AreRising}
use Rattle.rhai_value.proofs.map.seat.chunks_to.Given as goal

abbrev pub invariant-loop-low : goal.invariant-loop-low
invariant-loop-low l = record {
  ordered : l.low ≤ l.high;
  within : l.high ≤ length l.rest;
  above : AreAbove bytes_cmp l.sought (joined (drop l.high (map chunk_rows l.rest)));
  below : (m : ℕ) → l.low ≡ m + 1 → (xs : Rows) → AreRising (xs ++ joined (map chunk_rows l.rest)) → AreBelow bytes_cmp l.sought (xs ++ joined (take m (map chunk_rows l.rest)));
}

abbrev pub decreases-loop-low : goal.decreases-loop-low
decreases-loop-low l = l.high - l.low
