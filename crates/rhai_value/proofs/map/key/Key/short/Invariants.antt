use Rattle.std.proofs.Common.{◌≡◌, ◌≤◌, ℕ, length, take, get_or}
use Rattle.rhai_value.proofs.map.key.Key.short.Given as goal

abbrev pub invariant-loop-i : goal.invariant-loop-i
invariant-loop-i l = record {
  long : length l.bytes ≡ 30;
  front : take l.i l.bytes ≡ take l.i l.text-2;
  zeros : (k : ℕ) → l.i ≤ k → get_or l.bytes k 0 ≡ 0;
}
