use Rattle.std.proofs.Common.{ℕ, ◌≤◌, List, ◌++◌, length, map}
use Rattle.rhai_scope.specs.NameIndex.{ListsNames}
use Rattle.rhai_scope.proofs.Headed.{so_far}
use Rattle.rhai_scope.proofs.name_index.NameIndex.pop_all.Given as goal

abbrev pub invariant-loop-i : goal.invariant-loop-i
invariant-loop-i g l = record {
  within : l.i ≤ length l.names;
  lists : (ns : List (List ℕ)) → ListsNames l.fn.self (ns ++ map g.N.Named.name_of l.names) → ListsNames l.self (so_far g.N.Named.name_of ns l.names l.i);
}

abbrev pub decreases-loop-i : goal.decreases-loop-i
decreases-loop-i g l = l.i
