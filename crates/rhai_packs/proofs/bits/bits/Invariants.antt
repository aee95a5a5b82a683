use Rattle.std.proofs.Common.{◌≡◌, ◌≤◌, map, vec_capacity, vec_len}
use Rattle.std.specs.List.{range_with_len}
use Rattle.rhai_bits.specs.Bits.{bit}
use Rattle.rhai_value.specs.Tree.{bool, fresh}
use Rattle.rhai_packs.proofs.bits.bits.Given as goal

abbrev pub invariant-loop-place : goal.invariant-loop-place
invariant-loop-place l = record {
  within : l.place ≤ 64;
  room : 64 ≤ vec_capacity l.items;
  counted : vec_len l.items ≡ l.place;
  copied : l.items.items ≡ map (λ i. fresh (bool (bit l.fn.number i))) (range_with_len 0 l.place);
}
