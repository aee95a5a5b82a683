use Rattle.rhai_packs.specs.Same.{HasNone}
use Rattle.rhai_packs.proofs.arrays.search.index_of.Given as goal

abbrev pub invariant-loop-index : goal.invariant-loop-index
invariant-loop-index l = HasNone l.store l.wanted l.item-items l.index
