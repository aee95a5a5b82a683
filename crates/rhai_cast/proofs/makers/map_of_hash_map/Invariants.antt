use Rattle.rhai_cast.specs.Makers.{pairs}
use Rattle.rhai_cast.proofs.Lasts.{PutSoFar}
use Rattle.rhai_cast.proofs.makers.map_of_hash_map.Given as goal

abbrev pub invariant-loop-key : goal.invariant-loop-key
invariant-loop-key g l = PutSoFar (pairs g.T.Variant.tree l.key-iterator) (pairs g.T.Variant.tree l.fn.entries.entries) l.map
