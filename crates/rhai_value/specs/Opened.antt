-- The open cells of a path, in two forms: a list in the order of opening, and a set for look-ups.
use Rattle.std.specs.Prelude.{◌≡◌, ℕ, false, List, [], ◌∷◌}
use Rattle.std.specs.Ordering.{nat_cmp}
use Rattle.std.specs.BTreeSet.{BTreeSet, contains}
use Rattle.rhai_value.specs.Walk.{is_open}

-- no cell occurs twice
abbrev pub NoneTwice : List ℕ → Type 0
NoneTwice [] = Unit {0}
NoneTwice (c ∷ cs) = (is_open c cs ≡ false) × NoneTwice cs

-- the set has exactly the cells of the path, in which none occurs twice
pub record IsOpened (path : List ℕ) (cells : BTreeSet ℕ) : Type 0 where
  pub same : (c : ℕ) → contains nat_cmp cells c ≡ is_open c path
  pub once : NoneTwice path
