use Rattle.std.proofs.Common.{◌≡◌, ◌≤◌, ◌+◌, ◌++◌, drop, length, vec_capacity}
use Rattle.rhai_packs.specs.Repeats.{unflagged}
use Rattle.rhai_packs.proofs.arrays.repeats.without_flagged.Given as goal

abbrev pub invariant-loop-flag : goal.invariant-loop-flag
invariant-loop-flag l = record {
  room : length l.kept.items + length l.rest.rest.items ≤ vec_capacity l.kept;
  len : l.flag-index + length l.rest.rest.items ≡ length l.flags;
  left : l.kept.items ++ unflagged (drop l.flag-index l.flags) l.rest.rest.items ≡ unflagged l.flags l.fn.items.items;
}
