use Rattle.std.proofs.Common.{◌≡◌, ◌≤◌, ◌++◌, ◌+◌, ◌-◌, length, take, drop, vec_capacity, vec_len}
use Rattle.rhai_packs.proofs.arrays.moved.move_items.Given as goal

abbrev pub invariant-loop-place : goal.invariant-loop-place
invariant-loop-place l = record {
  from : l.start ≤ l.place;
  as_long : length l.items.items ≡ length l.fn.items.items;
  room : vec_len l.to + (l.end - l.place) ≤ vec_capacity l.to;
  front : take l.start l.items.items ≡ take l.start l.fn.items.items;
  back : drop l.place l.items.items ≡ drop l.place l.fn.items.items;
  moved : l.to.items ≡ l.fn.to.items ++ take (l.place - l.start) (drop l.start l.fn.items.items);
}
