-- What a bit for each of some indices says about the first one at which a test holds.
use Rattle.std.proofs.Common.{◌≡◌, ℕ, ◌+◌, ◌-◌, ◌%◌, ◌^◌, ◌<◌, ◌≤◌, Bool, true, false, not, cond, List, length, get_or, ◌==◌, inl, inr, refl, sym, ◌∙◌, ap, subst, arith, true≢false, w64}
use Rattle.std.proofs.lemmas.Bool.{cases_lt}
use Rattle.std.proofs.lemmas.List.{get_or_past}
use Rattle.std.proofs.lemmas.Nat.Bits.{bit_at-trailing_zeros, bit_at-zero}
use Rattle.std.proofs.lemmas.Simd.{bit_mask_l, mask_l-lt, mask_l-mod, length-zip2, length-chunk, get_or-zip2, get_or-chunk}
use Rattle.std.specs.Int.{bit_at, trailing_zeros}
use Rattle.std.specs.Slice.Scan.{differ, IsFirstPlace, Marks}
use lib.Lanes.{zip2, chunk, mask_l}
use lib.Pow.{pow_mono}

is_set : (b : Bool) → ◌≡◌ {A = ℕ} (cond b 1 0) 1 → b ≡ true
is_set true e = refl
is_set false e = absurd (omega arith)

is_unset : (b : Bool) → ◌≡◌ {A = ℕ} (cond b 1 0) 0 → b ≡ false
is_unset true e = absurd (omega arith)
is_unset false e = refl

module _ (p : ℕ → Bool) (i n : ℕ) (bs : List Bool) (long : length bs ≡ n) (small : n ≤ 64) (says : (k : ℕ) → k < n → get_or bs k false ≡ p (i + k)) where
  unset : (k : ℕ) → i ≤ k → k < i + n → bit_at (mask_l bs) (k - i) ≡ 0 → p k ≡ false
  unset k l h e = ap p (omega arith) ∙ sym (says (k - i) (omega arith)) ∙ is_unset (get_or bs (k - i) false) (sym (bit_mask_l bs (k - i)) ∙ e)

  fits : mask_l bs < 2 ^ 64
  fits = omega (arith, mask_l-lt bs, pow_mono {i = length bs} {j = 64} (omega arith))

  first : 0 < mask_l bs → (trailing_zeros w64 (mask_l bs) < n) × IsFirstPlace p i (i + n) (i + trailing_zeros w64 (mask_l bs))
  first some =
      let t = trailing_zeros w64 (mask_l bs) in
      let lowest = bit_at-trailing_zeros w64 (mask_l bs) some fits in
      let set : get_or bs t false ≡ true = is_set (get_or bs t false) (sym (bit_mask_l bs t) ∙ lowest.1) in
      let inside : t < n = elim (cases_lt t n) [ inl l ↦ l | inr past ↦ absurd (true≢false (sym set ∙ get_or_past bs t false (omega arith))) ] in
      (inside, record { low = omega arith; high = omega arith; before = λ k l h. unset k l (omega arith) (lowest.2 (k - i) (omega arith)); hit = λ _. sym (says t inside) ∙ set })

  marks : Marks p i n (mask_l bs % 2 ^ 64)
  marks = subst (Marks p i n) (sym (mask_l-mod bs 64 (omega arith))) (record { none = λ e k l h. unset k l h (ap (λ m. bit_at m (k - i)) e ∙ bit_at-zero (k - i)); lowest = first })

-- the bytes of two texts, n of them from i on
pub Marks-bytes : (xs ys : List ℕ) (i n : ℕ) → n ≤ 64 → i + n ≤ length xs → i + n ≤ length ys
    → Marks (differ xs ys) i n (mask_l (zip2 (λ x y. not (x == y)) (chunk i n xs) (chunk i n ys)) % 2 ^ 64)
Marks-bytes xs ys i n small a b =
    let t = λ (x y : ℕ). not (x == y) in
    let us = length-chunk i n xs a in
    let vs = length-chunk i n ys b in
    marks (differ xs ys) i n _ (length-zip2 t _ _ (us ∙ sym vs) ∙ us) small
    (λ k l. get_or-zip2 t _ _ k 0 0 false (omega arith) (omega arith) ∙ (λ j. t (get_or-chunk i n xs k 0 l j) (get_or-chunk i n ys k 0 l j)))
