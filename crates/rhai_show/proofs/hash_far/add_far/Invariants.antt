use Rattle.std.proofs.Common.{◌++◌, ◌∷◌, map, reverse}
use Rattle.rhai_show.specs.HashBytes.{hash_bytes}
use Rattle.rhai_show.specs.InRange.{IsPlainInRange}
use Rattle.rhai_show.specs.Rests.{level_of}
use Rattle.rhai_show.proofs.HashRests.{Hashing}
use Rattle.rhai_show.proofs.Rests.{weight_left}
use Rattle.rhai_show.proofs.hash_far.add_far.Given as goal

abbrev pub invariant-loop-child : goal.invariant-loop-child
invariant-loop-child l = Hashing l.store (l.fn.out.items ++ hash_bytes l.store l.fn.path l.value) l.fn.path (IsPlainInRange l.store l.fn.path l.value) l.out.items l.path (map level_of (l.top ∷ reverse l.frames.items))

abbrev pub decreases-loop-child : goal.decreases-loop-child
decreases-loop-child l = weight_left l.store l.path (map level_of (l.top ∷ reverse l.frames.items))
