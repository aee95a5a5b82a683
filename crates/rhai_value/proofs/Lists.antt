-- Concatenated lists of rows, and rows inserted and removed.
use Rattle.std.proofs.Common.{◌≡◌, ℕ, zero, suc, ◌<◌, List, [], ◌∷◌, ◌++◌, length, take, drop, get_or, Ordering, Less, refl, ap, sym, ◌∙◌, arith, take-append-drop}
use Rattle.std.proofs.lemmas.Cmp.{nat_list_cmp_total}
use Rattle.std.proofs.lemmas.List.{append_assoc}
use Rattle.std.proofs.lemmas.List.Elements.{All-cons, All-head, All-tail}
use Rattle.std.specs.List.{AllByRecursion}
use Rattle.std.specs.List.Sorted.{IsStrictlySortedBy}
use Rattle.std.specs.Map.{keys_of}
use Rattle.std.specs.Ordering.{ordering_reverse}
use Rattle.std.specs.Str.{IsUtf8}
use Rattle.rhai_value.specs.Lists.{Row, joined, AreBelow, AreAbove}
use Rattle.rhai_value.specs.Rows.{Rows, bytes_cmp, AreRising, AreTexts}
use Rattle.rhai_value.specs.Tree.{Tree}

-- the items before a place of a list of lists, and those from it on
pub joined_at : {A : Type 0} → (ls : List (List A)) (n i : ℕ) → n < length ls → joined ls ≡ (joined (take n ls) ++ take i (get_or ls n [])) ++ (drop i (get_or ls n []) ++ joined (drop (suc n) ls))
joined_at [] n i lt = absurd (omega arith)
joined_at (l ∷ ls) zero i lt = ap (λ x. x ++ joined ls) (sym (take-append-drop i l)) ∙ append_assoc (take i l) (drop i l) (joined ls)
joined_at (l ∷ ls) (suc n) i lt =
    let here = get_or ls n [] in
    ap (λ x. l ++ x) (joined_at ls n i (omega arith))
    ∙ sym (append_assoc l (joined (take n ls) ++ take i here) (drop i here ++ joined (drop (suc n) ls)))
    ∙ ap (λ x. x ++ (drop i here ++ joined (drop (suc n) ls))) (sym (append_assoc l (joined (take n ls)) (take i here)))

-- ---- less and greater

module _ {K X : Type 0} (R : K → K → Ordering) (k : K) where
  pub below_both : (xs ys : List (K × X)) → AreBelow R k xs → AreBelow R k ys → AreBelow R k (xs ++ ys)
  below_both [] ys h g = g
  below_both (e ∷ es) ys h g = (h.0, below_both es ys h.1 g)

  pub above_both : (xs ys : List (K × X)) → AreAbove R k xs → AreAbove R k ys → AreAbove R k (xs ++ ys)
  above_both [] ys h g = g
  above_both (e ∷ es) ys h g = (h.0, above_both es ys h.1 g)

-- ---- ascending keys

abbrev Past : List ℕ → Rows → Type 0
Past k rs = AllByRecursion (λ y. bytes_cmp k y ≡ Less) (keys_of rs)

past_put : (x k : List ℕ) (v : Tree) (xs ys : Rows) → bytes_cmp x k ≡ Less → Past x (xs ++ ys) → Past x (xs ++ (k, v) ∷ ys)
past_put x k v [] ys lt h = (lt, h)
past_put x k v (r ∷ rs) ys lt h = (h.0, past_put x k v rs ys lt h.1)

past_taken : (x : List ℕ) (e : Row) (xs ys : Rows) → Past x (xs ++ e ∷ ys) → Past x (xs ++ ys)
past_taken x e [] ys h = h.1
past_taken x e (r ∷ rs) ys h = (h.0, past_taken x e rs ys h.1)

above_past : (k : List ℕ) (ys : Rows) → AreAbove bytes_cmp k ys → Past k ys
above_past k [] h = tt
above_past k (r ∷ rs) h = (h.0, above_past k rs h.1)

pub rising_put : (k : List ℕ) (v : Tree) (xs ys : Rows) → AreBelow bytes_cmp k xs → AreAbove bytes_cmp k ys → AreRising (xs ++ ys) → AreRising (xs ++ (k, v) ∷ ys)
unfolding IsStrictlySortedBy
rising_put k v [] ys h g s = (above_past k ys g, s)
rising_put k v (r ∷ rs) ys h g s = (past_put r.0 k v rs ys (nat_list_cmp_total.antisymm r.0 k ∙ ap ordering_reverse h.0) s.0, rising_put k v rs ys h.1 g s.1)

pub rising_taken : (e : Row) (xs ys : Rows) → AreRising (xs ++ e ∷ ys) → AreRising (xs ++ ys)
unfolding IsStrictlySortedBy
rising_taken e [] ys s = s.1
rising_taken e (r ∷ rs) ys s = (past_taken r.0 e rs ys s.0, rising_taken e rs ys s.1)

-- ---- keys that are texts

pub texts_put : (k : List ℕ) (v : Tree) (xs ys : Rows) → IsUtf8 k → AreTexts (xs ++ ys) → AreTexts (xs ++ (k, v) ∷ ys)
texts_put k v [] ys u h = All-cons IsUtf8 k (keys_of ys) u h
texts_put k v (r ∷ rs) ys u h = All-cons IsUtf8 r.0 (keys_of (rs ++ (k, v) ∷ ys)) (All-head IsUtf8 r.0 (keys_of (rs ++ ys)) h) (texts_put k v rs ys u (All-tail IsUtf8 r.0 (keys_of (rs ++ ys)) h))

pub texts_taken : (e : Row) (xs ys : Rows) → AreTexts (xs ++ e ∷ ys) → AreTexts (xs ++ ys)
texts_taken e [] ys h = All-tail IsUtf8 e.0 (keys_of ys) h
texts_taken e (r ∷ rs) ys h = All-cons IsUtf8 r.0 (keys_of (rs ++ ys)) (All-head IsUtf8 r.0 (keys_of (rs ++ e ∷ ys)) h) (texts_taken e rs ys (All-tail IsUtf8 r.0 (keys_of (rs ++ e ∷ ys)) h))

-- a value has no effect on keys
pub keys_valued : (k : List ℕ) (v w : Tree) (xs ys : Rows) → keys_of (xs ++ (k, v) ∷ ys) ≡ keys_of (xs ++ (k, w) ∷ ys)
keys_valued k v w [] ys = refl
keys_valued k v w (r ∷ rs) ys = ap (λ l. r.0 ∷ l) (keys_valued k v w rs ys)
