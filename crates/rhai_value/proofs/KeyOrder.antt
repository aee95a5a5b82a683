-- What a comparison in a sorted list says about all items before, or from there on.
use Rattle.std.proofs.Common.{◌≡◌, ℕ, zero, suc, ◌<◌, List, [], ◌∷◌, length, take, drop, get_or, Ordering, Less, Equal, Greater, refl, ap, ◌∙◌, sym, arith}
use Rattle.std.specs.Cmp.{IsTotalOrder}
use Rattle.std.specs.List.{AllByRecursion}
use Rattle.std.specs.List.Sorted.{IsStrictlySortedBy}
use Rattle.std.specs.Map.{keys_of}
use Rattle.std.specs.Ordering.{ordering_reverse}
use Rattle.std.proofs.lemmas.Map.Keys.{sorted_head, sorted_tail}
use Rattle.rhai_value.specs.Lists.{AreBelow, AreAbove}

module _ {K : Type 0} {R : K → K → Ordering} (o : IsTotalOrder R) (k : K) where
  turned : (x y : K) (r : Ordering) → R x y ≡ r → R y x ≡ ordering_reverse r
  turned x y r is = o.antisymm y x ∙ ap ordering_reverse is

  -- the key is greater than everything before an item that it is greater than, or equal to
  pub past : (x y : K) → R x y ≡ Less → R k y ≡ Greater → R k x ≡ Greater
  past x y h g = turned x k Less (o.trans x y k h (turned k y Greater g))

  pub past_equal : (x y : K) → R x y ≡ Less → R k y ≡ Equal → R k x ≡ Greater
  past_equal x y h e = turned x k Less (at (R x k) refl)
    where
      at : (r : Ordering) → R x k ≡ r → R x k ≡ Less
      at Less is = is
      at Equal is = let no : Less ≡ Equal = sym h ∙ o.congr x k y is ∙ e in cc
      at Greater is = let back : R k x ≡ Less = turned x k Greater is in let no : Equal ≡ Less = sym e ∙ o.trans k x y back h in cc

module _ {K X : Type 0} {R : K → K → Ordering} (o : IsTotalOrder R) (k : K) where
  -- the item at an index among those greater than x
  later : (x : K) (es : List (K × X)) (i : ℕ) (d : K × X) → AllByRecursion (λ y. R x y ≡ Less) (keys_of es) → i < length es → R x (get_or es i d).0 ≡ Less
  later x [] i d h lt = absurd (omega arith)
  later x (e ∷ es) zero d h lt = h.0
  later x (e ∷ es) (suc i) d h lt = later x es i d h.1 (omega arith)

  pub below_to : (es : List (K × X)) (i : ℕ) (d : K × X) → IsStrictlySortedBy R (keys_of es) → i < length es → R k (get_or es i d).0 ≡ Greater → AreBelow R k (take (suc i) es)
  below_to [] i d s lt g = absurd (omega arith)
  below_to (e ∷ es) zero d s lt g = (g, tt)
  below_to (e ∷ es) (suc i) d s lt g = (past o k e.0 (get_or es i d).0 (later e.0 es i d (sorted_head R e.0 (keys_of es) s) (omega arith)) g, below_to es i d (sorted_tail R e.0 (keys_of es) s) (omega arith) g)

  pub below_hit : (es : List (K × X)) (i : ℕ) (d : K × X) → IsStrictlySortedBy R (keys_of es) → i < length es → R k (get_or es i d).0 ≡ Equal → AreBelow R k (take i es)
  below_hit [] i d s lt g = absurd (omega arith)
  below_hit (e ∷ es) zero d s lt g = tt
  below_hit (e ∷ es) (suc i) d s lt g = (past_equal o k e.0 (get_or es i d).0 (later e.0 es i d (sorted_head R e.0 (keys_of es) s) (omega arith)) g, below_hit es i d (sorted_tail R e.0 (keys_of es) s) (omega arith) g)

  pub all_above : (x : K) (es : List (K × X)) → R k x ≡ Less → AllByRecursion (λ y. R x y ≡ Less) (keys_of es) → AreAbove R k es
  all_above x [] g h = tt
  all_above x (e ∷ es) g h = (o.trans k x e.0 g h.0, all_above x es g h.1)

  pub above_from : (es : List (K × X)) (i : ℕ) (d : K × X) → IsStrictlySortedBy R (keys_of es) → i < length es → R k (get_or es i d).0 ≡ Less → AreAbove R k (drop i es)
  above_from [] i d s lt g = absurd (omega arith)
  above_from (e ∷ es) zero d s lt g = (g, all_above e.0 es g (sorted_head R e.0 (keys_of es) s))
  above_from (e ∷ es) (suc i) d s lt g = above_from es i d (sorted_tail R e.0 (keys_of es) s) (omega arith) g
