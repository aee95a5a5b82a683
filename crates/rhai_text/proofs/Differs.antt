-- Equality and order of bytes, by the first index at which they differ.
use Rattle.std.proofs.Common.{◌≡◌, ◌≢◌, ℕ, zero, suc, ◌+◌, ◌<◌, ◌≤◌, min, true, false, not, List, [], ◌∷◌, length, get_or, nat_eq, ◌==◌, inl, inr, refl, sym, ◌∙◌, ap, arith, true≢false, ext_get_or}
use Rattle.std.proofs.lemmas.Bool.{cases_Bool, cases_lt, cases_order, eqb-false, eqb-true, eq-eqb}
use Rattle.std.specs.Cmp.{nat_cmp_is}
use Rattle.std.specs.Cmp.Lexicographic.{bytes_decides, pointwise, slice_cmp}
use Rattle.std.specs.Ordering.{nat_cmp, ordering_then}
use Rattle.std.specs.declared.cmp.Ordering.TheVariants.{Less, Equal, Greater}
use Rattle.std.specs.Slice.Scan.{differ, HoldsNowhere, IsFirstPlace, Marks}
use Rattle.rhai_text.proofs.Order.{less_head, same_head}

level : (x y : ℕ) → not (x == y) ≡ false → x ≡ y
level x y e = elim (cases_Bool (x == y)) [ inl same ↦ eqb-true x y same | inr other ↦ absurd (true≢false (sym (ap not other) ∙ e)) ]

apart : (x y : ℕ) → not (x == y) ≡ true → x ≢ y
apart x y d e = true≢false (sym d ∙ ap not (eq-eqb x y e))

apart_head : (x y : ℕ) (xs ys : List ℕ) → x ≢ y → nat_cmp x y ≡ slice_cmp nat_cmp (x ∷ xs) (y ∷ ys)
apart_head x y xs ys n =
    elim (cases_order x y) [
      | inl same ↦ absurd (n same)
      | inr (inl less) ↦ sym (nat_cmp_is x y Less less) ∙ sym (less_head x y xs ys less)
      | inr (inr more) ↦ sym (nat_cmp_is x y Greater more) ∙ ap (λ o. ordering_then o (slice_cmp nat_cmp xs ys)) (nat_cmp_is x y Greater more)
    ]

-- the bytes at the first index at which two texts differ decide
pub by_byte : (xs ys : List ℕ) (i : ℕ) → i < length xs → i < length ys → HoldsNowhere (differ xs ys) 0 i → differ xs ys i ≡ true → nat_cmp (get_or xs i 0) (get_or ys i 0) ≡ slice_cmp nat_cmp xs ys
by_byte [] ys i a b h d = absurd (omega arith)
by_byte (x ∷ xs) [] i a b h d = absurd (omega arith)
by_byte (x ∷ xs) (y ∷ ys) zero a b h d = apart_head x y xs ys (apart x y d)
by_byte (x ∷ xs) (y ∷ ys) (suc i) a b h d =
    by_byte xs ys i (omega arith) (omega arith) (λ k l g. h (suc k) (omega arith) (omega arith)) d ∙ sym (same_head x y xs ys (level x y (h 0 (omega arith) (omega arith))))

raised : (m n : ℕ) → nat_cmp m n ≡ nat_cmp (suc m) (suc n)
raised m n =
    elim (cases_order m n) [
      | inl same ↦ sym (nat_cmp_is m n Equal same) ∙ nat_cmp_is (suc m) (suc n) Equal (omega arith)
      | inr (inl less) ↦ sym (nat_cmp_is m n Less less) ∙ nat_cmp_is (suc m) (suc n) Less (omega arith)
      | inr (inr more) ↦ sym (nat_cmp_is m n Greater more) ∙ nat_cmp_is (suc m) (suc n) Greater (omega arith)
    ]

-- if one text is a prefix of the other, the lengths decide
pub by_lengths : (xs ys : List ℕ) → HoldsNowhere (differ xs ys) 0 (min (length xs) (length ys)) → nat_cmp (length xs) (length ys) ≡ slice_cmp nat_cmp xs ys
by_lengths [] [] h = refl
by_lengths [] (y ∷ ys) h = sym (nat_cmp_is 0 (suc (length ys)) Less (omega arith))
by_lengths (x ∷ xs) [] h = sym (nat_cmp_is (suc (length xs)) 0 Greater (omega arith))
by_lengths (x ∷ xs) (y ∷ ys) h =
    sym (raised (length xs) (length ys))
    ∙ by_lengths xs ys (λ k l g. h (suc k) (omega arith) (omega arith))
    ∙ sym (same_head x y xs ys (level x y (h 0 (omega arith) (omega arith))))

module _ (xs ys : List ℕ) where
  pub equal_all : length xs ≡ length ys → HoldsNowhere (differ xs ys) 0 (length xs) → true ≡ pointwise nat_eq xs ys
  equal_all e h = sym ((bytes_decides xs ys).1 (ext_get_or 0 xs ys e (λ k l. level _ _ (h k (omega arith) l))))

  pub unequal_some : (k : ℕ) → differ xs ys k ≡ true → false ≡ pointwise nat_eq xs ys
  unequal_some k d = elim (cases_Bool (pointwise nat_eq xs ys)) [
    | inl same ↦ absurd (apart _ _ d (ap (λ bs. get_or bs k 0) ((bytes_decides xs ys).0 same)))
    | inr other ↦ sym other
  ]

  -- the texts are known to be equal up to j, and the rest is marked by m, which may test some known bytes again
  pub equal_front : length xs ≡ length ys → (i n m : ℕ) → Marks (differ xs ys) 0 n m → HoldsNowhere (differ xs ys) i (length xs) → i ≤ n → n ≤ length xs → nat_eq m 0 ≡ pointwise nat_eq xs ys
  equal_front e i n m marks h le fits =
      elim (cases_Bool (nat_eq m 0)) [
        | inl none ↦ none ∙ equal_all e (λ k l g. elim (cases_lt k n) [ inl near ↦ marks.none (eqb-true m 0 none) k l (omega arith) | inr further ↦ h k (omega arith) g ])
        | inr some ↦
            let lowest = marks.lowest (omega (arith, eqb-false m 0 some)) in
            let within = lowest.0 in
            some ∙ unequal_some _ (lowest.1.hit (omega arith))
      ]

  pub equal_by_first : length xs ≡ length ys → (r : ℕ) → IsFirstPlace (differ xs ys) 0 (length xs) r → nat_eq r (length xs) ≡ pointwise nat_eq xs ys
  equal_by_first e r first =
      let high = first.high in
      elim (cases_Bool (nat_eq r (length xs))) [
        | inl all ↦ all ∙ equal_all e (λ k l g. first.before k l (omega (arith, eqb-true r (length xs) all)))
        | inr some ↦ some ∙ unequal_some r (first.hit (omega (arith, eqb-false r (length xs) some)))
      ]
