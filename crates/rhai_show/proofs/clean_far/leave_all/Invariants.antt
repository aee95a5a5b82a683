use Rattle.std.proofs.Common.{◌≡◌, ◌∷◌, length, map, reverse}
use Rattle.rhai_show.specs.Rests.{level_of, path_left, HaveOpen}
use Rattle.rhai_show.proofs.clean_far.leave_all.Given as goal

abbrev pub invariant-loop-up : goal.invariant-loop-up
invariant-loop-up l = record {
  path : path_left l.path (map level_of (reverse l.left.items)) ≡ path_left l.fn.path (map level_of (l.fn.top ∷ reverse l.fn.frames.items));
  have_open : HaveOpen l.path (map level_of (reverse l.left.items));
}

abbrev pub decreases-loop-up : goal.decreases-loop-up
decreases-loop-up l = length l.left.items
