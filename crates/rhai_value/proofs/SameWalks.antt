-- Walks over stores that are equal up to a renaming of cells.
use Rattle.std.proofs.Common.{◌≡◌, ℕ, zero, suc, ◌+◌, Bool, true, false, ◌||◌, List, [], ◌∷◌, length, Option, Some, option_and_then, refl, sym, ap, ap₂, ◌∙◌, subst, subst₂, arith}
use Rattle.std.specs.List.{AllZip}
use Rattle.rhai_value.specs.declared.cells.store.Cell.{Cell}
use Rattle.rhai_value.specs.Tree.{Tree, node, holder}
use Rattle.rhai_value.specs.Store.{at, unmarked}
use Rattle.rhai_value.specs.Walk.{Visit, entered, barred, revisited, is_open, holds_open, visit, visit_of, visit_map, unentered, walk_in, walk}
use Rattle.rhai_value.specs.End.{End, end_at, site_after, end_of, end}
use Rattle.rhai_value.specs.Relation.{Renaming, paired, Related, Alike, IsOneToOne, RelatedPaths, RelatedSite, RelatedCells, RelatedEnds}
use Rattle.rhai_value.proofs.SameTrees.{by_trees}
use Rattle.rhai_value.proofs.Zips.{by_alike, by_zip, zip_get}
use Rattle.rhai_value.proofs.Walks.{more_room_by}

-- the cells of a renaming
abbrev pub Paired : Renaming → ℕ → ℕ → Type 0
Paired r c d = paired r c d ≡ true

-- both open with related values, or neither does for the same reason
abbrev pub AlikeVisit : {A B : Type 0} → (A → B → Type 0) → Visit A → Visit B → Type 0
AlikeVisit R (entered a) (entered b) = R a b
AlikeVisit R barred barred = Unit {0}
AlikeVisit R revisited revisited = Unit {0}
AlikeVisit R _ _ = ⊥

unmarked_alike : (r : Renaming) (a b : Bool) (t u : Tree) → a ≡ b → Related r t u → Alike (Related r) (unmarked (record { content = t; is_marked = a })) (unmarked (record { content = u; is_marked = b }))
unmarked_alike r true true t u e h = tt
unmarked_alike r false false t u e h = h
unmarked_alike r _ _ t u e h = cc

-- reading paired cells
pub same_at : (r : Renaming) (s z : List Cell) (c d : ℕ) → RelatedCells r s z → Paired r c d → Alike (Related r) (at s c) (at z d)
same_at r s z c d cells p =
    let h = cells c d p in
    subst₂ (λ o q. Alike (Related r) (option_and_then unmarked o) (option_and_then unmarked q)) (sym h.2) (sym h.3) (unmarked_alike r h.0.is_marked h.1.is_marked h.0.content h.1.content h.4.0 h.4.1)

same_open : (r : Renaming) (c d : ℕ) (path road : List ℕ) → IsOneToOne r → Paired r c d → AllZip (Paired r) path road → is_open c path ≡ is_open d road
same_open r c d path road one p = by_zip (Paired r) (λ path road. is_open c path ≡ is_open d road) refl (λ a b path road q z more. ap₂ (λ v w. v || w) (one c d a b p q) more) path road

-- related values hold open cells on both paths or on neither
pub same_holds_open : (r : Renaming) (path road : List ℕ) (t u : Tree) → IsOneToOne r → RelatedPaths r path road → Related r t u → holds_open path t ≡ holds_open road u
same_holds_open r path road t u one zipped = by_trees r (λ t u. holds_open path t ≡ holds_open road u) (λ l g m. refl) (λ k ts us g m e. refl) (λ fs hs g m e. refl) (λ c d g m e. same_open r c d path road one e zipped) t u

visit_of_alike : (r : Renaming) (o q : Option Tree) (a b : Bool) → a ≡ b → Alike (Related r) o q → AlikeVisit (Related r) (visit_of o a) (visit_of q b)
visit_of_alike r o q a b e h = subst (λ x. AlikeVisit (Related r) (visit_of o a) (visit_of q x)) e (by_alike (Related r) (λ o q. AlikeVisit (Related r) (visit_of o a) (visit_of q a)) tt (either a) o q h)
  where
    either : (b : Bool) (t u : Tree) → Related r t u → AlikeVisit (Related r) (visit_of (Some t) b) (visit_of (Some u) b)
    either true t u k = tt
    either false t u k = k

-- visits that are alike are of one kind
pub by_visits : {A B : Type 0} (R : A → B → Type 0) (P : Visit A → Visit B → Type 0) → ((a : A) (b : B) → R a b → P (entered a) (entered b)) → P barred barred → P revisited revisited → (o : Visit A) (q : Visit B) → AlikeVisit R o q → P o q
by_visits R P opens bars loops (entered a) (entered b) h = opens a b h
by_visits R P opens bars loops barred barred h = bars
by_visits R P opens bars loops revisited revisited h = loops
by_visits R P opens bars loops _ _ h = absurd h

map_alike : {A B : Type 0} (r : Renaming) (R : A → B → Type 0) (f : Tree → A) (g : Tree → B) (o q : Visit Tree) → ((x y : Tree) → Related r x y → R (f x) (g y)) → AlikeVisit (Related r) o q → AlikeVisit R (visit_map f o) (visit_map g q)
map_alike r R f g o q k h = by_visits (Related r) (λ o q. AlikeVisit R (visit_map f o) (visit_map g q)) k tt tt o q h

unentered_alike : {A B : Type 0} (r : Renaming) (R : A → B → Type 0) (o q : Visit Tree) → AlikeVisit (Related r) o q → AlikeVisit R (unentered o) (unentered q)
unentered_alike {A} {B} r R o q h = by_visits (Related r) (λ o q. AlikeVisit R (unentered {A = A} o) (unentered {A = B} q)) (λ a b e. tt) tt tt o q h

-- two shapes map related trees, whose holders lead to related values, to related values
abbrev pub Keeps : {A B : Type 0} → Renaming → (List ℕ → (ℕ → Visit A) → Tree → A) → (List ℕ → (ℕ → Visit B) → Tree → B) → (A → B → Type 0) → Type 0
Keeps {A} {B} r shape form R =
    (path road : List ℕ) (h : ℕ → Visit A) (k : ℕ → Visit B) (t u : Tree) → AllZip (Paired r) path road → ((c d : ℕ) → Paired r c d → AlikeVisit R (h c) (k d)) → Related r t u → R (shape path h t) (form road k u)

module _ {A B : Type 0} (r : Renaming) (shape : List ℕ → (ℕ → Visit A) → Tree → A) (form : List ℕ → (ℕ → Visit B) → Tree → B) (R : A → B → Type 0) (s z : List Cell) where
  same_walk_in : Keeps r shape form R → IsOneToOne r → RelatedCells r s z → (n : ℕ) (path road : List ℕ) (t u : Tree) → AllZip (Paired r) path road → Related r t u → R (walk_in shape n s path t) (walk_in form n z road u)
  same_walk_in keeps one cells zero path road t u same h =
      keeps path road _ _ t u same (λ c d p. unentered_alike r R (visit s path c) (visit z road d) (visit_of_alike r (at s c) (at z d) _ _ (same_open r c d path road one p same) (same_at r s z c d cells p))) h
  same_walk_in keeps one cells (suc n) path road t u same h =
      keeps path road _ _ t u same (λ c d p.
      map_alike r R (walk_in shape n s (c ∷ path)) (walk_in form n z (d ∷ road)) (visit s path c) (visit z road d)
      (λ x y e. same_walk_in keeps one cells n (c ∷ path) (d ∷ road) x y (p, same) e)
      (visit_of_alike r (at s c) (at z d) _ _ (same_open r c d path road one p same) (same_at r s z c d cells p))) h

  -- A walk maps related values to related ones, in stores of different lengths, from open cells
  -- that are paired item by item.
  pub same_walk_from : Keeps r shape form R → IsOneToOne r → RelatedCells r s z → (path road : List ℕ) → RelatedPaths r path road → (t u : Tree) → Related r t u → R (walk shape s path t) (walk form z road u)
  same_walk_from keeps one cells path road same t u h =
      let e : length s + length z ≡ length z + length s = omega arith in
      subst₂ R
      (sym (more_room_by shape (length z) (length s) s path t (omega arith)))
      (ap (λ n. walk_in form n z road u) (sym e) ∙ sym (more_room_by form (length s) (length z) z road u (omega arith)))
      (same_walk_in keeps one cells (length z + length s) path road t u same h)

end_at_alike : (r : Renaming) (t u : Tree) (o q : Visit End) → Related r t u → AlikeVisit (RelatedEnds r) o q → RelatedEnds r (end_at t o) (end_at u q)
end_at_alike r t u o q h k = by_visits (RelatedEnds r) (λ o q. RelatedEnds r (end_at t o) (end_at u q)) (λ e f same. same) h tt o q k

site_alike : (r : Renaming) (o q : Option ℕ) → Alike (Paired r) o q → RelatedSite r (site_after o) (site_after q)
site_alike r = by_alike (Paired r) (λ o q. RelatedSite r (site_after o) (site_after q)) tt (λ c d h. h)

end_kept : (r : Renaming) → Keeps r end_of end_of (RelatedEnds r)
end_kept r path road h k t u same to = by_trees r (λ t u. RelatedEnds r (end_of path h t) (end_of road k u))
    (λ l g m. (site_alike r _ _ (zip_get (Paired r) path road 0 same), (refl, refl, refl))) (λ i ts us g m e. (site_alike r _ _ (zip_get (Paired r) path road 0 same), ((refl, e), refl, refl))) (λ fs hs g m e. (site_alike r _ _ (zip_get (Paired r) path road 0 same), (e, refl, refl)))
    (λ c d g m p. end_at_alike r (node (holder c) g m) (node (holder d) g m) (h c) (k d) (p, refl, refl) (to c d p)) t u

-- the ends of the chains from related values are related, whichever paired cells were visited
pub same_end_from : (r : Renaming) (s z : List Cell) (path road : List ℕ) (t u : Tree) → IsOneToOne r → RelatedCells r s z → RelatedPaths r path road → Related r t u → RelatedEnds r (end s path t) (end z road u)
unfolding end
same_end_from r s z path road t u one cells same h = same_walk_from r end_of end_of (RelatedEnds r) s z (end_kept r) one cells path road same t u h

pub same_end : (r : Renaming) (s z : List Cell) (t u : Tree) → IsOneToOne r → RelatedCells r s z → Related r t u → RelatedEnds r (end s [] t) (end z [] u)
same_end r s z t u one cells h = same_end_from r s z [] [] t u one cells tt h
