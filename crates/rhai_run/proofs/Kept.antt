-- The first items of an array.
use Rattle.std.proofs.Common.{◌≡◌, ℕ, zero, suc, List, [], ◌∷◌, take, refl, ap}
use Rattle.rhai_value.specs.Rows.{trees_of}
use Rattle.rhai_value.specs.Tree.{Tree, tree_then}
use Rattle.rhai_run.specs.Scanners.{first_trees}

pub first_kept : (n : ℕ) (ts : List Tree) → trees_of (take n ts) ≡ first_trees n (trees_of ts)
first_kept zero ts = refl
first_kept (suc n) [] = refl
first_kept (suc n) (t ∷ ts) = ap (tree_then t) (first_kept n ts)
