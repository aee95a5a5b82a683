-- Renamings that grow with the stores.
use Rattle.std.proofs.Common.{◌≡◌, ℕ, zero, suc, ◌+◌, ◌<◌, Bool, true, false, nat_eq, ◌||◌, ◌&&◌, List, [], ◌∷◌, ◌++◌, length, slice_get, refl, sym, ap, ap₂, ◌∙◌, arith, ◌⊎◌, inl, inr}
use Rattle.std.proofs.lemmas.Bool.{or_cases}
use Rattle.std.proofs.lemmas.Option.{slice_get_within}
use Rattle.std.proofs.lemmas.Bool.Decides.{nat_tests}
use Rattle.rhai_value.specs.declared.cells.store.Cell.{Cell}
use Rattle.rhai_value.specs.Tree.{Tree, node, leaf, branch, fields, holder}
use Rattle.rhai_value.specs.Store.{added, shared_value, shared_store}
use Rattle.rhai_value.specs.Relation.{Renaming, paired, Related, AllRelated, RelatedFields, RelatedCells, IsOneToOne, new_pairs, shared_pairs}
use Rattle.rhai_value.proofs.SameTrees.{by_related, by_trees}
use Rattle.rhai_value.proofs.Zips.{get_append, get_last}

or_assoc : (a b c : Bool) → (a || b) || c ≡ a || (b || c)
or_assoc true b c = refl
or_assoc false b c = refl

pub paired_append : (r q : Renaming) (c d : ℕ) → paired (r ++ q) c d ≡ (paired r c d || paired q c d)
paired_append [] q c d = refl
paired_append (p ∷ r) q c d = ap (λ b. (nat_eq p.0 c && nat_eq p.1 d) || b) (paired_append r q c d) ∙ sym (or_assoc (nat_eq p.0 c && nat_eq p.1 d) (paired r c d) (paired q c d))

pub paired_more : (r q : Renaming) (c d : ℕ) → paired r c d ≡ true → paired (r ++ q) c d ≡ true
paired_more r q c d e = paired_append r q c d ∙ ap (λ b. b || paired q c d) e

pub related_more : (r q : Renaming) (t u : Tree) → Related r t u → Related (r ++ q) t u
related_more r q = by_related r (Related (r ++ q)) (AllRelated (r ++ q)) (RelatedFields (r ++ q)) (λ l g m. (refl, refl, refl)) (λ k ts us g m e h. ((refl, h), refl, refl)) (λ fs hs g m e h. (h, refl, refl)) (λ c d g m p. (paired_more r q c d p, refl, refl)) tt (λ t u ts us p q. (p, q)) tt (λ k t u fs hs p q. (refl, p, q))

abbrev pub one_pair : ℕ → ℕ → Renaming
one_pair n m = (n, m) ∷ []

both : (n m c d : ℕ) → ((nat_eq n c && nat_eq m d) || false) ≡ true → (n ≡ c) × (m ≡ d)
both n m c d h = grind (arith, nat_tests)

itself : (n m : ℕ) → ((nat_eq n n && nat_eq m m) || false) ≡ true
itself n m = grind (arith, nat_tests)

or_true : (a b : Bool) → b ≡ true → (a || b) ≡ true
or_true true b e = refl
or_true false b e = e

same_self : (n m : ℕ) → nat_eq n n ≡ nat_eq m m
same_self n m = grind (arith, nat_tests)

apart : (n m : ℕ) → (n ≡ m → ⊥) → nat_eq n m ≡ false
apart n m h = grind (arith, nat_tests)

-- the cells of a pair are cells of the stores
pub pair_within : (r : Renaming) (s z : List Cell) (c d : ℕ) → RelatedCells r s z → paired r c d ≡ true → (c < length s) × (d < length z)
pair_within r s z c d cells h = let old = cells c d h in (slice_get_within s c old.0 old.2, slice_get_within z d old.1 old.3)

old_new : (r : Renaming) (s z : List Cell) → RelatedCells r s z → (c d e f : ℕ) → paired r c d ≡ true → (length s ≡ e) × (length z ≡ f) → nat_eq c e ≡ nat_eq d f
old_new r s z cells c d e f h k = let l = pair_within r s z c d cells h in apart c e (λ q. omega arith) ∙ sym (apart d f (λ q. omega arith))

new_old : (r : Renaming) (s z : List Cell) → RelatedCells r s z → (c d e f : ℕ) → (length s ≡ c) × (length z ≡ d) → paired r e f ≡ true → nat_eq c e ≡ nat_eq d f
new_old r s z cells c d e f k h = let l = pair_within r s z e f cells h in apart c e (λ q. omega arith) ∙ sym (apart d f (λ q. omega arith))

-- the pairs after adding one
last_cases : (r : Renaming) (n m c d : ℕ) → paired (r ++ one_pair n m) c d ≡ true → (paired r c d ≡ true) ⊎ ((n ≡ c) × (m ≡ d))
last_cases r n m c d e =
    elim (or_cases (paired r c d) (paired (one_pair n m) c d) (sym (paired_append r (one_pair n m) c d) ∙ e)) [ inl h ↦ inl h | inr h ↦ inr (both n m c d h) ]

pub new_last : (r : Renaming) (n m : ℕ) → paired (r ++ one_pair n m) n m ≡ true
new_last r n m = paired_append r (one_pair n m) n m ∙ or_true (paired r n m) _ (itself n m)

-- the pair of two new cells extends a renaming
pub one_more : (r : Renaming) (s z : List Cell) → IsOneToOne r → RelatedCells r s z → IsOneToOne (r ++ one_pair (length s) (length z))
one_more r s z one cells c d e f p q =
    elim (last_cases r (length s) (length z) c d p) [
      | inl h ↦ elim (last_cases r (length s) (length z) e f q) [
        | inl k ↦ one c d e f h k
        | inr k ↦ old_new r s z cells c d e f h k
      ]
      | inr h ↦ elim (last_cases r (length s) (length z) e f q) [
        | inl k ↦ new_old r s z cells c d e f h k
        | inr k ↦ ap₂ nat_eq (sym h.0) (sym k.0) ∙ same_self (length s) (length z) ∙ ap₂ nat_eq h.1 k.1
      ]
    ]

pub same_added : (r : Renaming) (s z : List Cell) (x y : Tree) → RelatedCells r s z → Related r x y → RelatedCells (r ++ one_pair (length s) (length z)) (added s x) (added z y)
same_added r s z x y cells h c d p =
    let a : Cell = record { content = x; is_marked = false } in
    let b : Cell = record { content = y; is_marked = false } in
    elim (last_cases r (length s) (length z) c d p) [
      | inl k ↦
          let old = cells c d k in
          (old.0, old.1, get_append s (a ∷ []) c old.0 old.2, get_append z (b ∷ []) d old.1 old.3, (old.4.0, related_more r (one_pair (length s) (length z)) old.0.content old.1.content old.4.1))
      | inr k ↦
          (a, b, ap (slice_get (added s x)) (sym k.0) ∙ get_last s a, ap (slice_get (added z y)) (sym k.1) ∙ get_last z b, (refl, related_more r (one_pair (length s) (length z)) x y h))
    ]

-- two ranges of new pairs are one
pub pairs_join : (a b j k : ℕ) → new_pairs a b (j + k) ≡ new_pairs a b j ++ new_pairs (a + j) (b + j) k
pairs_join a b zero k =
    let e : 0 + k ≡ k = omega arith in
    let f : a + 0 ≡ a = omega arith in
    let g : b + 0 ≡ b = omega arith in
    rw (e, f, g) refl
pairs_join a b (suc j) k =
    let e : suc j + k ≡ suc (j + k) = omega arith in
    let f : a + suc j ≡ a + 1 + j = omega arith in
    let g : b + suc j ≡ b + 1 + j = omega arith in
    rw (e, f, g) (ap (λ ps. (a, b) ∷ ps) (pairs_join (a + 1) (b + 1) j k))

-- the result of sharing related values
append_none : (r : Renaming) → r ++ [] ≡ r
append_none [] = refl
append_none (p ∷ r) = ap (λ q. p ∷ q) (append_none r)

pub one_more_shared : (r : Renaming) (s z : List Cell) (t : Tree) → IsOneToOne r → RelatedCells r s z → IsOneToOne (r ++ shared_pairs s z t)
one_more_shared r s z (node (leaf l) g m) one cells = one_more r s z one cells
one_more_shared r s z (node (branch k ts) g m) one cells = one_more r s z one cells
one_more_shared r s z (node (fields fs) g m) one cells = one_more r s z one cells
one_more_shared r s z (node (holder c) g m) one cells = rw (append_none r) one

pub same_shared_value : (r : Renaming) (s z : List Cell) (t u : Tree) → Related r t u → Related (r ++ shared_pairs s z t) (shared_value s t) (shared_value z u)
same_shared_value r s z = by_trees r (λ t u. Related (r ++ shared_pairs s z t) (shared_value s t) (shared_value z u))
    (λ l g m. (new_last r (length s) (length z), refl, refl)) (λ k ts us g m e. (new_last r (length s) (length z), refl, refl)) (λ fs hs g m e. (new_last r (length s) (length z), refl, refl)) (λ c d g m e. (rw (append_none r) e, refl, refl))

pub same_shared_store : (r : Renaming) (s z : List Cell) (t u : Tree) → RelatedCells r s z → Related r t u → RelatedCells (r ++ shared_pairs s z t) (shared_store s t) (shared_store z u)
same_shared_store r s z t u cells = by_trees r (λ t u. RelatedCells (r ++ shared_pairs s z t) (shared_store s t) (shared_store z u))
    (λ l g m. same_added r s z (node (leaf l) g m) (node (leaf l) g m) cells (refl, refl, refl))
    (λ k ts us g m e. same_added r s z (node (branch k ts) g m) (node (branch k us) g m) cells ((refl, e), refl, refl))
    (λ fs hs g m e. same_added r s z (node (fields fs) g m) (node (fields hs) g m) cells (e, refl, refl))
    (λ c d g m e. rw (append_none r) cells) t u
