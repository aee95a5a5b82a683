-- Texts of four to eight bytes as two numbers.
use Rattle.std.proofs.Common.{◌≡◌, ℕ, zero, suc, ◌+◌, ◌-◌, ◌<◌, ◌≤◌, true, false, nat_eq, List, [], ◌∷◌, length, get_or, inl, inr, sym, ap, ◌∙◌, arith}
use Rattle.std.proofs.lemmas.Grind.{same_number_lists}
use Rattle.std.proofs.lemmas.Bool.{cases_order}
use Rattle.std.proofs.lemmas.Bool.Decides.{eqb_tells}
use Rattle.std.specs.Prelude.{◌≢◌, ◌⊎◌}
use Rattle.std.specs.Cmp.Lexicographic.{pointwise, bytes_decides}
use Rattle.std.specs.Int.{w32, from_le_bytes}
use Rattle.rhai_scope.specs.NameFilter.{word_at}
use Rattle.rhai_scope.proofs.Found.{other}

abbrev pub AreBytes : List ℕ → Type 0
AreBytes xs = (i : ℕ) → get_or xs i 0 < 256

module _ (a b c d e f g h : ℕ) (a' : a < 256) (b' : b < 256) (c' : c < 256) (d' : d < 256) (e' : e < 256) (f' : f < 256) (g' : g < 256) (h' : h < 256)
    (same : from_le_bytes w32 (a ∷ b ∷ c ∷ d ∷ []) ≡ from_le_bytes w32 (e ∷ f ∷ g ∷ h ∷ [])) where
  four : (a ≡ e) × (b ≡ f) × (c ≡ g) × (d ≡ h)
  four =
      let a_e : a ≡ e = omega arith in
      let b_f : b ≡ f = omega arith in
      let c_g : c ≡ g = omega arith in
      let d_h : d ≡ h = omega arith in
      (a_e, b_f, c_g, d_h)

module _ (xs ys : List ℕ) (bx : AreBytes xs) (by : AreBytes ys) where
  -- the four bytes of equal words
  item : (s i : ℕ) → word_at xs s ≡ word_at ys s → s ≤ i → i < s + 4 → get_or xs i 0 ≡ get_or ys i 0
  item s i same above below =
      let all = four (get_or xs s 0) (get_or xs (s + 1) 0) (get_or xs (s + 2) 0) (get_or xs (s + 3) 0) (get_or ys s 0) (get_or ys (s + 1) 0) (get_or ys (s + 2) 0) (get_or ys (s + 3) 0)
      (bx s) (bx (s + 1)) (bx (s + 2)) (bx (s + 3)) (by s) (by (s + 1)) (by (s + 2)) (by (s + 3)) same in
      at (i - s) (omega arith) (omega arith) all
    where
      at : (k : ℕ) → i ≡ s + k → k < 4 → (get_or xs s 0 ≡ get_or ys s 0) × (get_or xs (s + 1) 0 ≡ get_or ys (s + 1) 0) × (get_or xs (s + 2) 0 ≡ get_or ys (s + 2) 0) × (get_or xs (s + 3) 0 ≡ get_or ys (s + 3) 0) → get_or xs i 0 ≡ get_or ys i 0
      at zero is l all = let here : i ≡ s = omega (arith, is) in ap (λ n. get_or xs n 0) here ∙ all.0 ∙ ap (λ n. get_or ys n 0) (sym here)
      at (suc zero) is l all = ap (λ n. get_or xs n 0) is ∙ all.1 ∙ ap (λ n. get_or ys n 0) (sym is)
      at (suc (suc zero)) is l all = ap (λ n. get_or xs n 0) is ∙ all.2 ∙ ap (λ n. get_or ys n 0) (sym is)
      at (suc (suc (suc zero))) is l all = ap (λ n. get_or xs n 0) is ∙ all.3 ∙ ap (λ n. get_or ys n 0) (sym is)
      at (suc (suc (suc (suc k)))) is l all = absurd (omega (arith, l))

  same_texts : length xs ≡ length ys → 4 ≤ length ys → length ys ≤ 8 → word_at xs (length ys - 4) ≡ word_at ys (length ys - 4) → word_at xs 0 ≡ word_at ys 0 → xs ≡ ys
  same_texts long least most back front = same_number_lists xs ys long (λ i l. at i l (cases_order i 4))
    where
      at : (i : ℕ) → i < length xs → (i ≡ 4) ⊎ ((i < 4) ⊎ (4 < i)) → get_or xs i 0 ≡ get_or ys i 0
      at i l (inl is) = item (length ys - 4) i back (omega (arith, is)) (omega (arith, l, long))
      at i l (inr (inl below)) = item 0 i front (omega arith) below
      at i l (inr (inr above)) = item (length ys - 4) i back (omega arith) (omega (arith, l, long))

  -- if the last four bytes are equal, the first four decide
  pub first_tell : length xs ≡ length ys → 4 ≤ length ys → length ys ≤ 8 → word_at xs (length ys - 4) ≡ word_at ys (length ys - 4) → nat_eq (word_at xs 0) (word_at ys 0) ≡ pointwise nat_eq xs ys
  first_tell long least most back = at (eqb_tells (word_at xs 0) (word_at ys 0))
    where
      at : ((nat_eq (word_at xs 0) (word_at ys 0) ≡ true) × (word_at xs 0 ≡ word_at ys 0)) ⊎ ((nat_eq (word_at xs 0) (word_at ys 0) ≡ false) × (word_at xs 0 ≢ word_at ys 0)) → nat_eq (word_at xs 0) (word_at ys 0) ≡ pointwise nat_eq xs ys
      at (inl x) = x.0 ∙ sym ((bytes_decides xs ys).1 (same_texts long least most back x.1))
      at (inr x) = x.0 ∙ sym (other xs ys (λ same. x.1 (ap (λ zs. word_at zs 0) same)))
