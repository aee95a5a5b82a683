-- Changes that preserve the relation of values and stores up to a renaming.
use Rattle.std.proofs.Common.{◌≡◌, ℕ, zero, suc, Bool, true, List, [], ◌∷◌, length, slice_get, Option, Some, refl, sym, ap, ◌∙◌, eqb-true, eq-eqb, inl, inr}
use Rattle.std.proofs.lemmas.Bool.{cases_eq}
use Rattle.std.proofs.lemmas.Option.{none-some, same_Some}
use Rattle.rhai_value.specs.declared.cells.chain.Site.TheVariants.{Here, InCell}
use Rattle.rhai_value.specs.declared.cells.store.Cell.{Cell}
use Rattle.rhai_value.specs.Tree.{Tree, Leaf}
use Rattle.rhai_value.specs.Parts.{leaf_part}
use Rattle.rhai_value.specs.Store.{put, changed_at, is_marked_at, added, set_mark}
use Rattle.rhai_value.specs.End.{End, held, stuck, closed, held_part, value_after, store_after, end_type}
use Rattle.rhai_value.specs.Relation.{Renaming, paired, Related, Respect, Alike, IsOneToOne, RelatedCell, RelatedCells, RelatedEnds}
use Rattle.rhai_value.proofs.SameTrees.{same_part, same_type}

-- a changed cell, and the others
pub get_changed : (f : Cell → Cell) (s : List Cell) (c : ℕ) (x : Cell) → slice_get s c ≡ Some x → slice_get (changed_at f s c) c ≡ Some (f x)
get_changed f [] c x e = absurd (none-some x e)
get_changed f (y ∷ s) zero x e = ap (λ z. Some (f z)) (same_Some y x e)
get_changed f (y ∷ s) (suc c) x e = get_changed f s c x e

pub get_unchanged : (f : Cell → Cell) (s : List Cell) (c d : ℕ) → (d ≡ c → ⊥) → slice_get (changed_at f s c) d ≡ slice_get s d
get_unchanged f [] c d e = refl
get_unchanged f (y ∷ s) zero zero e = absurd (e refl)
get_unchanged f (y ∷ s) zero (suc d) e = refl
get_unchanged f (y ∷ s) (suc c) zero e = refl
get_unchanged f (y ∷ s) (suc c) (suc d) e = get_unchanged f s c d (λ h. e (ap suc h))

pub length_changed : (f : Cell → Cell) (s : List Cell) (c : ℕ) → length (changed_at f s c) ≡ length s
length_changed f [] c = refl
length_changed f (y ∷ s) zero = refl
length_changed f (y ∷ s) (suc c) = ap suc (length_changed f s c)

-- paired cells are changed alike
pub same_changed : (f h : Cell → Cell) (r : Renaming) (s z : List Cell) (a b : ℕ) → IsOneToOne r → RelatedCells r s z → paired r a b ≡ true
    → ((x y : Cell) → RelatedCell r x y → RelatedCell r (f x) (h y)) → RelatedCells r (changed_at f s a) (changed_at h z b)
same_changed f h r s z a b one cells p e c d q =
    let old = cells c d q in
    elim (cases_eq c a) [
      | inl same ↦
          let other : d ≡ b = eqb-true d b (sym (one c d a b q p) ∙ eq-eqb c a same) in (
            f old.0,
            h old.1,
            ap (slice_get (changed_at f s a)) same ∙ get_changed f s a old.0 (ap (slice_get s) (sym same) ∙ old.2),
            ap (slice_get (changed_at h z b)) other ∙ get_changed h z b old.1 (ap (slice_get z) (sym other) ∙ old.3),
            e old.0 old.1 old.4,
          )
      | inr away ↦
          (old.0, old.1, get_unchanged f s a c away ∙ old.2, get_unchanged h z b d (λ i. away (eqb-true c a (one c d a b q p ∙ eq-eqb d b i))) ∙ old.3, old.4)
    ]

-- related values are put into paired cells
pub same_put : (r : Renaming) (s z : List Cell) (a b : ℕ) (t u : Tree) → IsOneToOne r → RelatedCells r s z → paired r a b ≡ true → Related r t u → RelatedCells r (put s a t) (put z b u)
same_put r s z a b t u one cells p e = same_changed _ _ r s z a b one cells p (λ x y h. (h.0, e))

-- paired cells are marked alike
pub same_set_mark : (r : Renaming) (s z : List Cell) (a b : ℕ) (m : Bool) → IsOneToOne r → RelatedCells r s z → paired r a b ≡ true → RelatedCells r (set_mark s a m) (set_mark z b m)
same_set_mark r s z a b m one cells p = same_changed _ _ r s z a b one cells p (λ x y h. (refl, h.1))

-- the same ends are of one kind
pub by_ends : (r : Renaming) (P : End → End → Type 0) → ((t u : Tree) → Related r t u → P (held Here t) (held Here u)) → ((c d : ℕ) (t u : Tree) → paired r c d ≡ true → Related r t u → P (held (InCell c) t) (held (InCell d) u))
    → ((t u : Tree) → Related r t u → P (stuck t) (stuck u)) → P closed closed → (e f : End) → RelatedEnds r e f → P e f
by_ends r P own cell bars loops (held Here t) (held Here u) h = own t u h.1
by_ends r P own cell bars loops (held (InCell c) t) (held (InCell d) u) h = cell c d t u h.0 h.1
by_ends r P own cell bars loops (stuck t) (stuck u) h = bars t u h
by_ends r P own cell bars loops closed closed h = loops
by_ends r P own cell bars loops (held p t) (held q u) h = absurd h.0
by_ends r P own cell bars loops _ _ h = absurd h

-- the properties of related ends, and values and stores after a write at them
pub same_held_leaf : {A : Type 0} (r : Renaming) (part : Leaf → Option A) (e f : End) → RelatedEnds r e f → held_part (leaf_part part) e ≡ held_part (leaf_part part) f
same_held_leaf r part = by_ends r (λ e f. held_part (leaf_part part) e ≡ held_part (leaf_part part) f) (same_part r part) (λ c d t u p. same_part r part t u) (λ t u h. refl) refl

-- if parts of related values are alike, so are held parts
pub same_held_part : {A : Type 0} (r : Renaming) (R : A → A → Type 0) (part : Tree → Option A) → ((t u : Tree) → Related r t u → Alike R (part t) (part u))
    → (e f : End) → RelatedEnds r e f → Alike R (held_part part e) (held_part part f)
same_held_part r R part same = by_ends r (λ e f. Alike R (held_part part e) (held_part part f)) same (λ c d t u p h. same t u h) (λ t u h. tt) tt

pub same_end_type : (r : Renaming) (e f : End) → RelatedEnds r e f → end_type e ≡ end_type f
same_end_type r = by_ends r (λ e f. end_type e ≡ end_type f) (same_type r) (λ c d t u p. same_type r t u) (λ t u h. refl) refl

pub same_value_after : (r : Renaming) (f g : Tree → Tree) (t u : Tree) → Respect r f g → Related r t u → (e o : End) → RelatedEnds r e o → Related r (value_after f e t) (value_after g o u)
same_value_after r f g t u k h = by_ends r (λ e o. Related r (value_after f e t) (value_after g o u)) k (λ c d x y p q. h) (λ x y q. h) h

pub same_store_after : (r : Renaming) (f g : Tree → Tree) (s z : List Cell) → Respect r f g → IsOneToOne r → RelatedCells r s z → (e o : End) → RelatedEnds r e o → RelatedCells r (store_after f e s) (store_after g o z)
same_store_after r f g s z k one cells = by_ends r (λ e o. RelatedCells r (store_after f e s) (store_after g o z)) (λ t u h. cells) (λ c d t u p h. same_put r s z c d (f t) (g u) one cells p (k t u h)) (λ t u h. cells) cells

-- a write at the end of a chain makes no cell and sets no mark
pub length_store_after : (f : Tree → Tree) (e : End) (s : List Cell) → length (store_after f e s) ≡ length s
length_store_after f (held Here v) s = refl
length_store_after f (held (InCell c) v) s = length_changed _ s c
length_store_after f (stuck v) s = refl
length_store_after f closed s = refl

pub marked_put : (s : List Cell) (c d : ℕ) (t : Tree) → is_marked_at (put s c t) d ≡ is_marked_at s d
marked_put [] c d t = refl
marked_put (x ∷ s) zero zero t = refl
marked_put (x ∷ s) zero (suc d) t = refl
marked_put (x ∷ s) (suc c) zero t = refl
marked_put (x ∷ s) (suc c) (suc d) t = marked_put s c d t

pub marked_store_after : (f : Tree → Tree) (e : End) (s : List Cell) (d : ℕ) → is_marked_at (store_after f e s) d ≡ is_marked_at s d
marked_store_after f (held Here v) s d = refl
marked_store_after f (held (InCell c) v) s d = marked_put s c d (f v)
marked_store_after f (stuck v) s d = refl
marked_store_after f closed s d = refl

-- nor does a new cell set one
pub marked_added : (s : List Cell) (t : Tree) (d : ℕ) → is_marked_at (added s t) d ≡ is_marked_at s d
marked_added [] t zero = refl
marked_added [] t (suc d) = refl
marked_added (x ∷ s) t zero = refl
marked_added (x ∷ s) t (suc d) = marked_added s t d
