-- A bit that is set.
use Rattle.std.proofs.Common.{◌≡◌, ℕ, zero, suc, ◌*◌, ◌/◌, ◌%◌, ◌^◌, ◌<◌, Bool, true, false, nat_eq, bit_or, List, length, get_or, set, replicate, inl, inr, refl, sym, ap, ◌∙◌, arith}
use Rattle.std.proofs.lemmas.Bool.Decides.{eqb_tells}
use Rattle.std.proofs.lemmas.List.{get_or-set_same, get_or-set_other}
use Rattle.std.proofs.lemmas.Nat.Bits.{bit_at-zero, bit_at_set_same, bit_at_set_other}
use Rattle.std.specs.Int.{w64, bit_at}
use Rattle.std.specs.Prelude.{◌≢◌, ◌⊎◌}

-- whether a bit is set in these words
abbrev pub is_in : List ℕ → ℕ → Bool
is_in ws m = nat_eq (bit_at (get_or ws (m / 64) 0) (m % 64)) 1

-- the words with one more bit
abbrev pub with_bit : List ℕ → ℕ → List ℕ
with_bit ws m = set ws (m / 64) (bit_or (get_or ws (m / 64) 0) (1 * 2 ^ (m % 64) % 2 ^ 64))

bit_within : (m : ℕ) → m % 64 < 64
bit_within m = omega arith

module _ (ws : List ℕ) (m : ℕ) (within : m / 64 < length ws) where
  same_word : (k : ℕ) → k ≡ m / 64 → get_or (with_bit ws m) k 0 ≡ bit_or (get_or ws (m / 64) 0) (1 * 2 ^ (m % 64) % 2 ^ 64)
  same_word k is = ap (λ i. get_or (with_bit ws m) i 0) is ∙ get_or-set_same ws (m / 64) _ 0 within

  pub came : is_in (with_bit ws m) m ≡ true
  came = ap (λ n. nat_eq n 1) (ap (λ x. bit_at x (m % 64)) (same_word (m / 64) refl) ∙ bit_at_set_same w64 (get_or ws (m / 64) 0) (m % 64) (bit_within m))

  -- every other bit is unchanged
  other : (k : ℕ) → (k ≢ m) → is_in (with_bit ws m) k ≡ is_in ws k
  other k apart = ap (λ n. nat_eq n 1) (at (eqb_tells (k / 64) (m / 64)))
    where
      at : ((nat_eq (k / 64) (m / 64) ≡ true) × (k / 64 ≡ m / 64)) ⊎ ((nat_eq (k / 64) (m / 64) ≡ false) × (k / 64 ≢ m / 64)) → bit_at (get_or (with_bit ws m) (k / 64) 0) (k % 64) ≡ bit_at (get_or ws (k / 64) 0) (k % 64)
      at (inl x) =
          let bits : k % 64 ≢ m % 64 = omega (arith, x.1, apart) in
          ap (λ w. bit_at w (k % 64)) (same_word (k / 64) x.1)
          ∙ bit_at_set_other w64 (get_or ws (m / 64) 0) (m % 64) (bit_within m) (k % 64) bits
          ∙ ap (λ i. bit_at (get_or ws i 0) (k % 64)) (sym x.1)
      at (inr x) = ap (λ w. bit_at w (k % 64)) (get_or-set_other ws (m / 64) (k / 64) _ 0 x.1)

  pub stays : (k : ℕ) → is_in (with_bit ws m) k ≡ false → is_in ws k ≡ false
  stays k none = at (eqb_tells k m)
    where
      at : ((nat_eq k m ≡ true) × (k ≡ m)) ⊎ ((nat_eq k m ≡ false) × (k ≢ m)) → is_in ws k ≡ false
      at (inl x) = let there : is_in (with_bit ws m) k ≡ true = ap (is_in (with_bit ws m)) x.1 ∙ came in absurd (cc)
      at (inr x) = sym (other k x.1) ∙ none

-- no bit is set in words that are 0
zero_word : (n i : ℕ) → get_or {A = ℕ} (replicate n 0) i 0 ≡ 0
zero_word zero i = refl
zero_word (suc n) zero = refl
zero_word (suc n) (suc i) = zero_word n i

pub none_in : (n k : ℕ) → is_in (replicate n 0) k ≡ false
none_in n k = ap (λ b. nat_eq b 1) (ap (λ w. bit_at w (k % 64)) (zero_word n (k / 64)) ∙ bit_at-zero (k % 64))
