use Rattle.std.proofs.Common.{◌≡◌, ◌≤◌, length, map, pos, take, vec_capacity}
use Rattle.rhai_value.specs.Tree.{fresh, int}
use Rattle.rhai_packs.proofs.blobs.to_array.Given as goal

abbrev pub invariant-loop-byte : goal.invariant-loop-byte
invariant-loop-byte l = record {
  room : length l.byte-items ≤ vec_capacity l.items;
  copied : l.items.items ≡ map (λ b. fresh (int (pos b))) (take l.byte-index l.byte-items);
}
