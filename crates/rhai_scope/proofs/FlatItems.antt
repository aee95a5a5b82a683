-- The results of several calls of `next` of `Scope::iter`, and the flat value of a value that isn't a holder.
use Rattle.std.proofs.Common.{◌≡◌, ℕ, Bool, List, [], ◌∷◌, ◌++◌, Result, IfOk, None, is_some, false, unwrap_or, refl, sym, ap, ◌∙◌}
use Rattle.std.specs.Borrow.{Bor}
use Rattle.std.specs.Iterator.{Yields}
use Rattle.std.specs.List.{AllZip}
use Rattle.std.specs.declared.alloc.AllocError.{AllocError}
use Rattle.rhai_value.specs.declared.cells.store.Cell.{Cell}
use Rattle.rhai_value.specs.End.{flat, value_ahead}
use Rattle.rhai_value.specs.Tree.{Tree, node, leaf, branch, fields, holder, cell_of, copy}
use Rattle.rhai_value.proofs.ForCallers.{end_own}
use Rattle.rhai_scope.specs.Items.{Named, given_flat, flat_left, GivesFlat}
use Rattle.rhai_scope.specs.declared.iter.Iter.{Iter}

abbrev pub Given : Type 0
Given = Result (Bor (List ℕ) × Bool × Tree) AllocError

-- the items removed from the list: each is the one returned, unless an allocation failed
pub record Gone (s t : Iter) (xs : List Given) : Type 0 where
  pub items : List Named
  pub splits : flat_left s ≡ items ++ flat_left t
  pub given : AllZip (λ x y. IfOk x (λ p. given_flat p ≡ y)) xs items

pub flat_gone : (s : Iter) (xs : List Given) (t : Iter) → Yields GivesFlat s xs t → Gone s t xs
flat_gone s [] t y = record { items = []; splits = ap flat_left y; given = tt }
flat_gone s (x ∷ xs) t y =
    let rest = flat_gone y.0 xs t y.2 in
    record { items = y.1.0 ∷ rest.items; splits = y.1.1 ∙ ap (λ zs. y.1.0 ∷ zs) rest.splits; given = (y.1.2, rest.given) }

module _ (s : List Cell) where
  own : (t : Tree) → cell_of t ≡ None → copy t ≡ flat s t
  own t e = ap (λ x. copy (unwrap_or (value_ahead x) t)) (sym (end_own s [] t e))

  pub flat_own : (t : Tree) → is_some (cell_of t) ≡ false → copy t ≡ flat s t
  flat_own (node (leaf l) g m) h = own (node (leaf l) g m) refl
  flat_own (node (branch k ts) g m) h = own (node (branch k ts) g m) refl
  flat_own (node (fields fs) g m) h = own (node (fields fs) g m) refl
  flat_own (node (holder c) g m) h = cc
