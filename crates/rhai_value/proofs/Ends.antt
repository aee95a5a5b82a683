-- The value at the end of a chain.
use Rattle.std.proofs.Common.{◌≡◌, ℕ, ℤ, zero, suc, Bool, true, false, List, [], ◌∷◌, length, slice_get, Option, Some, None, refl, sym, ap, ap₂, ◌∙◌, subst}
use Rattle.rhai_value.specs.declared.value.access_mode.AccessMode.{AccessMode}
use Rattle.rhai_value.specs.declared.cells.chain.Site.{Site}
use Rattle.rhai_value.specs.declared.cells.chain.Site.TheVariants.{Here, InCell}
use Rattle.rhai_value.specs.declared.cells.store.Cell.{Cell}
use Rattle.rhai_value.specs.Tree.{Tree, node, leaf, branch, fields, holder, cell_of}
use Rattle.rhai_value.specs.Store.{at}
use Rattle.rhai_value.specs.Walk.{Visit, entered, barred, revisited, is_open, visit, visit_of, visit_map, unentered, walk_in}
use Rattle.rhai_value.specs.End.{End, held, stuck, closed, end_at, site_after, end_of, end}
use Rattle.rhai_value.proofs.Walks.{opens, walk_opens}

-- the value v is in this cell, or is the root t itself
abbrev pub Stands : List Cell → Tree → Site → Tree → Type 0
Stands s t Here v = t ≡ v
Stands s t (InCell c) v = at s c ≡ Some v

abbrev StandsIn : List Cell → Tree → End → Type 0
StandsIn s t (held site v) = Stands s t site v
StandsIn s t (stuck v) = Unit {0}
StandsIn s t closed = Unit {0}

at_visit : (s : List Cell) (root : Tree) (c : ℕ) (t : Tree) (o : Visit Tree) (go : Tree → End)
    → ((x : Tree) → o ≡ entered x → StandsIn s root (go x)) → StandsIn s root (end_at t (visit_map go o))
at_visit s root c t (entered x) go h = h x refl
at_visit s root c t barred go h = tt
at_visit s root c t revisited go h = tt

at_none : (s : List Cell) (root t : Tree) (o : Visit Tree) → StandsIn s root (end_at t (unentered o))
at_none s root t (entered x) = tt
at_none s root t barred = tt
at_none s root t revisited = tt

stands_in : (n : ℕ) (s : List Cell) (root : Tree) (path : List ℕ) (t : Tree) → Stands s root (site_after (slice_get path 0)) t → StandsIn s root (walk_in end_of n s path t)
stands_in zero s root path (node (leaf l) g m) h = h
stands_in (suc n) s root path (node (leaf l) g m) h = h
stands_in zero s root path (node (branch k ts) g m) h = h
stands_in zero s root path (node (fields fs) g m) h = h
stands_in (suc n) s root path (node (branch k ts) g m) h = h
stands_in (suc n) s root path (node (fields fs) g m) h = h
stands_in zero s root path (node (holder c) g m) h = at_none s root (node (holder c) g m) (visit s path c)
stands_in (suc n) s root path (node (holder c) g m) h =
    at_visit s root c (node (holder c) g m) (visit s path c) (walk_in end_of n s (c ∷ path)) (λ x e. stands_in n s root (c ∷ path) x (opens s path c x e).0)

-- the held value is at the site given by the end
pub stands : (s : List Cell) (t : Tree) (site : Site) (v : Tree) → held site v ≡ end s [] t → Stands s t site v
unfolding end
stands s t site v e = subst (StandsIn s t) (sym e) (stands_in (length s) s t [] t refl)

-- the end of a chain, by its parts
pub end_opens : (s : List Cell) (path : List ℕ) (t : Tree) → end s path t ≡ end_of path (λ c. visit_map (end s (c ∷ path)) (visit s path c)) t
unfolding end
end_opens s path t = walk_opens end_of s path t

-- the chain end case by case
pub end_own : (s : List Cell) (path : List ℕ) (t : Tree) → cell_of t ≡ None → end s path t ≡ held (site_after (slice_get path 0)) t
end_own s path (node (leaf l) g m) e = end_opens s path (node (leaf l) g m)
end_own s path (node (branch k ts) g m) e = end_opens s path (node (branch k ts) g m)
end_own s path (node (fields fs) g m) e = end_opens s path (node (fields fs) g m)
end_own s path (node (holder c) g m) e = cc

module _ (s : List Cell) (path : List ℕ) (g : ℤ) (m : AccessMode) where
  end_of_holder : (c : ℕ) (o : Option Tree) (b : Bool) → at s c ≡ o → is_open c path ≡ b
      → end s path (node (holder c) g m) ≡ end_at (node (holder c) g m) (visit_map (end s (c ∷ path)) (visit_of o b))
  end_of_holder c o b some again = end_opens s path (node (holder c) g m) ∙ ap₂ (λ x y. end_at (node (holder c) g m) (visit_map (end s (c ∷ path)) (visit_of x y))) some again

pub end_stuck : (s : List Cell) (path : List ℕ) (t : Tree) (c : ℕ) → cell_of t ≡ Some c → at s c ≡ None → end s path t ≡ stuck t
end_stuck s path (node (holder d) g m) c e none = let same : d ≡ c = cc in end_of_holder s path g m d None (is_open d path) (ap (at s) same ∙ none) refl
end_stuck s path (node (leaf l) g m) c e none = cc
end_stuck s path (node (branch k ts) g m) c e none = cc
end_stuck s path (node (fields fs) g m) c e none = cc

pub end_closes : (s : List Cell) (path : List ℕ) (t u : Tree) (c : ℕ) → cell_of t ≡ Some c → at s c ≡ Some u → is_open c path ≡ true → end s path t ≡ closed
end_closes s path (node (holder d) g m) u c e some passed = let same : d ≡ c = cc in end_of_holder s path g m d (Some u) true (ap (at s) same ∙ some) (ap (λ i. is_open i path) same ∙ passed)
end_closes s path (node (leaf l) g m) u c e some passed = cc
end_closes s path (node (branch k ts) g m) u c e some passed = cc
end_closes s path (node (fields fs) g m) u c e some passed = cc

pub end_goes_on : (s : List Cell) (path : List ℕ) (t u : Tree) (c : ℕ) → cell_of t ≡ Some c → at s c ≡ Some u → is_open c path ≡ false → end s path t ≡ end s (c ∷ path) u
end_goes_on s path (node (holder d) g m) u c e some fresh = let same : d ≡ c = cc in end_of_holder s path g m d (Some u) false (ap (at s) same ∙ some) (ap (λ i. is_open i path) same ∙ fresh) ∙ ap (λ i. end s (i ∷ path) u) same
end_goes_on s path (node (leaf l) g m) u c e some fresh = cc
end_goes_on s path (node (branch k ts) g m) u c e some fresh = cc
end_goes_on s path (node (fields fs) g m) u c e some fresh = cc
