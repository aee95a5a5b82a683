use Rattle.std.proofs.Common.{◌≡◌, ◌≤◌, ◌<◌, ◌↔◌, ℕ, false, length, slice_index_or, vec_capacity, IsTrue}
use Rattle.rhai_packs.specs.Repeats.{IsRepeat}
use Rattle.rhai_packs.proofs.arrays.repeats.repeats.Given as goal

abbrev pub invariant-loop-i : goal.invariant-loop-i
invariant-loop-i l = record {
  len : length l.repeats.items ≡ l.i;
  room : length l.items ≤ vec_capacity l.repeats;
  each : (j : ℕ) → j < l.i → IsTrue (slice_index_or l.repeats.items j false) ↔ IsRepeat l.store l.items j;
}
