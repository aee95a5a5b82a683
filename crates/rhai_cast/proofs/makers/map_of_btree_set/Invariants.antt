use Rattle.rhai_cast.specs.Makers.{keys_alone}
use Rattle.rhai_cast.proofs.Lasts.{PutSoFar}
use Rattle.rhai_cast.proofs.makers.map_of_btree_set.Given as goal

abbrev pub invariant-loop-key : goal.invariant-loop-key
invariant-loop-key l = PutSoFar (keys_alone l.key-iterator) (keys_alone l.fn.keys.keys) l.map
