-- Numbers of 64 bits by their bits.
use Rattle.std.proofs.Common.{◌≡◌, ℕ, zero, suc, ◌+◌, ◌-◌, ◌*◌, ◌/◌, ◌%◌, ◌^◌, ◌<◌, ◌≤◌, Bool, true, false, nat_eq, nat_lt, cond, ◌&&◌, min, max, bit_and, bit_or, ap, sym, add-zero, ◌∙◌, refl, arith, w64, ℤ, pos, ◌*ℤ◌, to_z, of_z, FitsSigned, inl, inr}
use Rattle.std.specs.Int.{bit_at, bit_not}
use Rattle.std.proofs.Math.Facts.{Fits-of_z, to_z-of_z}
use Rattle.std.proofs.Math.Nat.{pow-suc, lt_of_le_of_lt, mul_comm, mod-eq_of_lt, div-le_self}
use Rattle.std.proofs.Math.IntN.{*ℤ_comm}
use Rattle.std.specs.Int.{int_wrap}
use Rattle.std.proofs.lemmas.Bool.{cases_lt, eqb-true, eqb-false, eq-eqb, ne_eqb, ltb-true, ltb-false, le-ltb}
use Rattle.std.proofs.lemmas.Int.{of_z-to_z, wrapping_mul_onto, int_wrap-mul_left}
use Rattle.std.proofs.lemmas.Nat.{mod_below, pow_pos, pow_below, or_lt, and_le_l, and_le_r, div-add-mod'}
use Rattle.std.proofs.lemmas.Nat.Bits.{bit_at-lt, bit_at_and, bit_at_or, bit_at_not, bit_at_set_same, bit_at_set_other, bit_at_clear_same, bit_at_clear_other, bit_at_cat_low, bit_at_cat_high, bit_at-zero, bit_at_above, same_from_bits_below}
use Rattle.rhai_bits.specs.Bits.{bit, digit, natural, int_of_bits, with_bit, with_field, field}

digit_below : (b : Bool) → digit b < 2
digit_below true = omega arith
digit_below false = omega arith

-- a number of k bits is less than 2 ^ k
one_more_bit : (b : Bool) (k n : ℕ) → n < 2 ^ k → digit b * 2 ^ k + n < 2 ^ suc k
one_more_bit true k n h = omega (arith, h, pow-suc 2 k)
one_more_bit false k n h = omega (arith, h, pow-suc 2 k)

pub natural_below : (k : ℕ) (f : ℕ → Bool) → natural k f < 2 ^ k
natural_below zero f = omega arith
natural_below (suc k) f = one_more_bit (f k) k (natural k f) (natural_below k f)

-- a number less than 2 is its lowest bit
lowest : (b : Bool) → bit_at (digit b) 0 ≡ digit b
lowest true = refl
lowest false = refl

-- each of the k bits is the given one
pub natural_has : (k : ℕ) (f : ℕ → Bool) (i : ℕ) → i < k → bit_at (natural k f) i ≡ digit (f i)
natural_has zero f i h = absurd (omega arith)
natural_has (suc k) f i h = elim (cases_lt i k) [
  | inl low ↦ bit_at_cat_low (digit (f k)) k (natural k f) i low ∙ natural_has k f i low
  | inr high ↦ let same : i ≡ k = omega arith in
      ap (bit_at (natural (suc k) f)) same ∙ top ∙ ap (λ j. digit (f j)) (sym same)
]
  where
    top : bit_at (natural (suc k) f) k ≡ digit (f k)
    top = let none : k - k ≡ 0 = omega arith in
        bit_at_cat_high (digit (f k)) k (natural k f) k (natural_below k f) (omega arith) ∙ ap (bit_at (digit (f k))) none ∙ lowest (f k)

-- a bit is the digit of its test
digit_test : (d : ℕ) → d < 2 → d ≡ digit (nat_eq d 1)
digit_test zero h = refl
digit_test (suc zero) h = refl
digit_test (suc (suc d)) h = absurd (omega arith)

pub bit_digit : (m i : ℕ) → bit_at m i ≡ digit (nat_eq (bit_at m i) 1)
bit_digit m i = digit_test (bit_at m i) (bit_at-lt m i)

test_digit : (b : Bool) → nat_eq (digit b) 1 ≡ b
test_digit true = refl
test_digit false = refl

-- an int is determined by its 64 bits
pub int_is : (m : ℕ) (f : ℕ → Bool) → m < 2 ^ 64 → ((i : ℕ) → i < 64 → bit_at m i ≡ digit (f i)) → to_z w64 m ≡ int_of_bits f
unfolding int_of_bits
int_is m f h each = ap (to_z w64) (same_from_bits_below 64 m (natural 64 f) h (natural_below 64 f) (λ i l. each i l ∙ sym (natural_has 64 f i l)))

-- the bits of an int made from bits
pub bit_of_bits : (f : ℕ → Bool) (i : ℕ) → i < 64 → bit (int_of_bits f) i ≡ f i
unfolding int_of_bits
bit_of_bits f i h =
    ap (λ m. nat_eq (bit_at m i) 1) (of_z-to_z w64 (natural 64 f) (natural_below 64 f))
    ∙ ap (λ d. nat_eq d 1) (natural_has 64 f i h) ∙ test_digit (f i)

bits_below : (n : ℤ) → FitsSigned w64 n → of_z w64 n < 2 ^ 64
bits_below n f = (Fits-of_z f).fits

-- an int is made from its own bits, however these are given
pub int_kept : (n : ℤ) (f : ℕ → Bool) → FitsSigned w64 n → ((i : ℕ) → i < 64 → bit n i ≡ f i) → int_of_bits f ≡ n
int_kept n f fits same = sym (int_is (of_z w64 n) f (bits_below n fits) (λ i l. bit_digit (of_z w64 n) i ∙ ap digit (same i l))) ∙ to_z-of_z fits

-- ---- one bit
set_digit : (m k i : ℕ) → k < 64 → (b : Bool) → nat_eq i k ≡ b → bit_at (bit_or m (1 * 2 ^ k % 2 ^ 64)) i ≡ digit (cond b true (nat_eq (bit_at m i) 1))
set_digit m k i h true e = ap (bit_at (bit_or m (1 * 2 ^ k % 2 ^ 64))) (eqb-true i k e) ∙ bit_at_set_same w64 m k h
set_digit m k i h false e = bit_at_set_other w64 m k h i (eqb-false i k e) ∙ bit_digit m i

clear_digit : (m k i : ℕ) → k < 64 → i < 64 → (b : Bool) → nat_eq i k ≡ b → bit_at (bit_and m (bit_not w64 (1 * 2 ^ k % 2 ^ 64))) i ≡ digit (cond b false (nat_eq (bit_at m i) 1))
clear_digit m k i h l true e = ap (bit_at (bit_and m (bit_not w64 (1 * 2 ^ k % 2 ^ 64)))) (eqb-true i k e) ∙ bit_at_clear_same w64 m k h
clear_digit m k i h l false e = bit_at_clear_other w64 m k h i l (eqb-false i k e) ∙ bit_digit m i

pub set_is : (n : ℤ) (k : ℕ) → FitsSigned w64 n → k < 64 → to_z w64 (bit_or (of_z w64 n) (1 * 2 ^ k % 2 ^ 64)) ≡ with_bit k true n
set_is n k f h =
    int_is _ _ (or_lt 64 _ _ (bits_below n f) (mod_below (1 * 2 ^ k) (2 ^ 64) (pow_pos 64))) (λ i l. set_digit (of_z w64 n) k i h (nat_eq i k) refl)

pub clear_is : (n : ℤ) (k : ℕ) → FitsSigned w64 n → k < 64 → to_z w64 (bit_and (of_z w64 n) (bit_not w64 (1 * 2 ^ k % 2 ^ 64))) ≡ with_bit k false n
clear_is n k f h =
    int_is _ _ (lt_of_le_of_lt (and_le_l (of_z w64 n) _) (bits_below n f)) (λ i l. clear_digit (of_z w64 n) k i h l (nat_eq i k) refl)

-- ---- a field
pub rest_digit : (x i : ℕ) → i < 64 → bit_at (x % 2 ^ 64) i ≡ bit_at x i
rest_digit x i h = sym (bit_at_cat_low (x / 2 ^ 64) 64 (x % 2 ^ 64) i h) ∙ ap (λ y. bit_at y i) (div-add-mod' x (2 ^ 64))

pub shifted_digit : (v s i : ℕ) (b : Bool) → nat_lt i s ≡ b → bit_at (v * 2 ^ s) i ≡ digit (cond b false (nat_eq (bit_at v (i - s)) 1))
shifted_digit v s i true e = ap (λ y. bit_at y i) (sym (add-zero (v * 2 ^ s))) ∙ bit_at_cat_low v s 0 i (ltb-true i s e) ∙ bit_at-zero i
shifted_digit v s i false e =
    ap (λ y. bit_at y i) (sym (add-zero (v * 2 ^ s))) ∙ bit_at_cat_high v s 0 i (pow_pos s) (ltb-false i s e) ∙ bit_digit v (i - s)

merged : (m v n : Bool) → max (min (digit n) (1 - digit m)) (min (digit v) (digit m)) ≡ digit (cond m v n)
merged true true true = refl
merged true true false = refl
merged true false true = refl
merged true false false = refl
merged false true true = refl
merged false true false = refl
merged false false true = refl
merged false false false = refl

pub field_is : (n mask v : ℤ) (s : ℕ) → FitsSigned w64 n → FitsSigned w64 mask → s < 64
    → to_z w64 (bit_or (bit_and (of_z w64 n) (bit_not w64 (of_z w64 mask))) (bit_and (of_z w64 v * 2 ^ s % 2 ^ 64) (of_z w64 mask))) ≡ with_field mask s v n
field_is n mask v s fn fm h =
    let a = of_z w64 n in
    let m = of_z w64 mask in
    let w = of_z w64 v * 2 ^ s % 2 ^ 64 in
    int_is _ _ (or_lt 64 _ _ (lt_of_le_of_lt (and_le_l a _) (bits_below n fn)) (lt_of_le_of_lt (and_le_r w m) (bits_below mask fm)))
    (λ i l. bit_at_or (bit_and a (bit_not w64 m)) (bit_and w m) i
    ∙ ap (λ x. max x (bit_at (bit_and w m) i)) (bit_at_and a (bit_not w64 m) i ∙ ap (λ y. min y (bit_at (bit_not w64 m) i)) (bit_digit a i) ∙ ap (min (digit (bit n i))) (bit_at_not w64 m i (bits_below mask fm) l ∙ ap (λ y. 1 - y) (bit_digit m i)))
    ∙ ap (max (min (digit (bit n i)) (1 - digit (bit mask i)))) (bit_at_and w m i ∙ ap (λ y. min y (bit_at m i)) (rest_digit (of_z w64 v * 2 ^ s) i l ∙ shifted_digit (of_z w64 v) s i (nat_lt i s) refl) ∙ ap (min (digit (cond (nat_lt i s) false (bit v (i - s))))) (bit_digit m i))
    ∙ merged (bit mask i) (cond (nat_lt i s) false (bit v (i - s))) (bit n i))

-- ---- reading a bit that was written
pub bit_written : (place : ℕ) (b : Bool) (n : ℤ) → place < 64 → bit (with_bit place b n) place ≡ b
bit_written place b n h = bit_of_bits (λ i. cond (nat_eq i place) b (bit n i)) place h ∙ ap (λ t. cond t b (bit n place)) (eq-eqb place place refl)

pub other_bits : (place i : ℕ) (b : Bool) (n : ℤ) → i < 64 → (i ≡ place → ⊥) → bit (with_bit place b n) i ≡ bit n i
other_bits place i b n h other = bit_of_bits (λ j. cond (nat_eq j place) b (bit n j)) i h ∙ ap (λ t. cond t b (bit n i)) (ne_eqb i place other)

same_bit : (n : ℤ) (place i : ℕ) (t : Bool) → nat_eq i place ≡ t → bit n i ≡ cond t (bit n place) (bit n i)
same_bit n place i true e = ap (bit n) (eqb-true i place e)
same_bit n place i false e = refl

pub bit_kept : (place : ℕ) (n : ℤ) → FitsSigned w64 n → with_bit place (bit n place) n ≡ n
bit_kept place n fits = int_kept n (λ i. cond (nat_eq i place) (bit n place) (bit n i)) fits (λ i l. same_bit n place i (nat_eq i place) refl)

pub outside_field : (mask v n : ℤ) (shift i : ℕ) → i < 64 → bit mask i ≡ false → bit (with_field mask shift v n) i ≡ bit n i
outside_field mask v n shift i h out =
    bit_of_bits (λ j. cond (bit mask j) (cond (nat_lt j shift) false (bit v (j - shift))) (bit n j)) i h
    ∙ ap (λ t. cond t (cond (nat_lt i shift) false (bit v (i - shift))) (bit n i)) out

-- a left shift is a product with a power of 2
wrap_pos : (m : ℕ) → m < 2 ^ 64 → int_wrap w64 (pos m) ≡ to_z w64 m
unfolding int_wrap
wrap_pos m h = ap (to_z w64) (mod-eq_of_lt h)

shift_wraps : (v : ℤ) (s : ℕ) → FitsSigned w64 v → s < 64 → to_z w64 (of_z w64 v * 2 ^ s % 2 ^ 64) ≡ int_wrap w64 (v *ℤ pos (2 ^ s))
shift_wraps v s fits h =
    let low : 2 ^ s < 2 ^ 64 = pow_below s 64 h in
    ap (λ n. to_z w64 (n % 2 ^ 64)) (mul_comm (of_z w64 v) (2 ^ s)) ∙ wrapping_mul_onto w64 (2 ^ s) v low fits
    ∙ ap (λ z. int_wrap w64 (z *ℤ v)) (sym (wrap_pos (2 ^ s) low)) ∙ int_wrap-mul_left w64 (pos (2 ^ s)) v ∙ ap (int_wrap w64) (*ℤ_comm (pos (2 ^ s)) v)

pub inside_field : (mask v n : ℤ) (shift i : ℕ) → i < 64 → shift < 64 → FitsSigned w64 v → bit mask i ≡ true
    → bit (with_field mask shift v n) i ≡ bit (int_wrap w64 (v *ℤ pos (2 ^ shift))) i
inside_field mask v n shift i h small fits inside =
    let x = of_z w64 v * 2 ^ shift in
    let b = cond (nat_lt i shift) false (bit v (i - shift)) in
    let read : bit (to_z w64 (x % 2 ^ 64)) i ≡ b =
    ap (λ m. nat_eq (bit_at m i) 1) (of_z-to_z w64 (x % 2 ^ 64) (mod_below x (2 ^ 64) (pow_pos 64)))
    ∙ ap (λ d. nat_eq d 1) (rest_digit x i h ∙ shifted_digit (of_z w64 v) shift i (nat_lt i shift) refl) ∙ test_digit b in
    bit_of_bits (λ j. cond (bit mask j) (cond (nat_lt j shift) false (bit v (j - shift))) (bit n j)) i h
    ∙ ap (λ t. cond t b (bit n i)) inside ∙ sym read ∙ ap (λ z. bit z i) (shift_wraps v shift fits small)

-- ---- reading a field
-- ints with the same bits are equal
int_of_same : (f g : ℕ → Bool) → ((i : ℕ) → i < 64 → f i ≡ g i) → int_of_bits f ≡ int_of_bits g
unfolding int_of_bits
int_of_same f g same =
    ap (to_z w64) (same_from_bits_below 64 (natural 64 f) (natural 64 g) (natural_below 64 f) (natural_below 64 g)
    (λ i l. natural_has 64 f i l ∙ ap digit (same i l) ∙ sym (natural_has 64 g i l)))

pub down_digit : (x s i : ℕ) → bit_at (x / 2 ^ s) i ≡ bit_at x (i + s)
down_digit x s i =
    let place : i + s - s ≡ i = omega arith in
    sym (ap (bit_at (x / 2 ^ s)) place) ∙ sym (bit_at_cat_high (x / 2 ^ s) s (x % 2 ^ s) (i + s) (mod_below x (2 ^ s) (pow_pos s)) (omega arith))
    ∙ ap (λ y. bit_at y (i + s)) (div-add-mod' x (2 ^ s))

both_digits : (n m : Bool) → min (digit n) (digit m) ≡ digit (m && n)
both_digits true true = refl
both_digits true false = refl
both_digits false true = refl
both_digits false false = refl

pub field_read_is : (n mask : ℤ) (s u : ℕ) → FitsSigned w64 n → u ≡ of_z w64 (to_z w64 (bit_and (of_z w64 n) (of_z w64 mask))) → to_z w64 (u / 2 ^ s) ≡ field mask s n
field_read_is n mask s u fits same =
    let a = of_z w64 n in
    let m = of_z w64 mask in
    ap (λ x. to_z w64 (x / 2 ^ s)) (same ∙ of_z-to_z w64 (bit_and a m) (lt_of_le_of_lt (and_le_l a m) (bits_below n fits)))
    ∙ int_is _ _ (lt_of_le_of_lt (div-le_self (bit_and a m) (2 ^ s)) (lt_of_le_of_lt (and_le_l a m) (bits_below n fits)))
    (λ i l. down_digit (bit_and a m) s i ∙ bit_at_and a m (i + s) ∙ ap (λ x. min x (bit_at m (i + s))) (bit_digit a (i + s))
    ∙ ap (min (digit (bit n (i + s)))) (bit_digit m (i + s)) ∙ both_digits (bit n (i + s)) (bit mask (i + s)))

-- no bit past the 64th is set
no_bit : (n : ℤ) (i : ℕ) → FitsSigned w64 n → 64 ≤ i → bit n i ≡ false
no_bit n i fits h = ap (λ d. nat_eq d 1) (bit_at_above (of_z w64 n) 64 i (bits_below n fits) h)

shown : (m b c : Bool) → (m ≡ true → b ≡ c) → (m && b) ≡ (m && c)
shown true b c same = same refl
shown false b c same = refl

under_mask : (mask x n : ℤ) (shift i : ℕ) → i + shift < 64 → bit mask (i + shift) ≡ true → bit (with_field mask shift x n) (i + shift) ≡ bit x i
under_mask mask x n shift i low inside =
    let place : i + shift - shift ≡ i = omega arith in
    bit_of_bits (λ j. cond (bit mask j) (cond (nat_lt j shift) false (bit x (j - shift))) (bit n j)) (i + shift) low
    ∙ ap (λ t. cond t (cond (nat_lt (i + shift) shift) false (bit x (i + shift - shift))) (bit n (i + shift))) inside
    ∙ ap (λ t. cond t false (bit x (i + shift - shift))) (le-ltb (i + shift) shift (omega arith)) ∙ ap (bit x) place

-- reading a field that was written gives the bits of the value within the mask
pub field_written : (mask x n : ℤ) (shift : ℕ) → FitsSigned w64 mask → field mask shift (with_field mask shift x n) ≡ int_of_bits (λ i. bit mask (i + shift) && bit x i)
field_written mask x n shift fits = int_of_same _ _ (λ i l. elim (cases_lt (i + shift) 64) [
  | inl low ↦ shown (bit mask (i + shift)) _ _ (under_mask mask x n shift i low)
  | inr high ↦ shown (bit mask (i + shift)) _ _ (λ inside. absurd (differ (sym inside ∙ no_bit mask (i + shift) fits high)))
])
  where
    differ : true ≡ false → ⊥
    differ e = cc

-- writing a field over itself, with a mask that has no bit below it
over_field : (mask n : ℤ) (shift i : ℕ) → i < 64 → ((j : ℕ) → j < shift → bit mask j ≡ false) → (m : Bool) → bit mask i ≡ m → (b : Bool) → nat_lt i shift ≡ b
    → bit n i ≡ cond m (cond b false (bit (field mask shift n) (i - shift))) (bit n i)
over_field mask n shift i l none false e b f = refl
over_field mask n shift i l none true e true f = absurd (differ (sym e ∙ none i (ltb-true i shift f)))
  where
    differ : true ≡ false → ⊥
    differ d = cc
over_field mask n shift i l none true e false f =
    let above : shift ≤ i = ltb-false i shift f in
    let place : i - shift + shift ≡ i = omega (arith, above) in
    sym (bit_of_bits (λ j. bit mask (j + shift) && bit n (j + shift)) (i - shift) (omega (arith, l)) ∙ ap (λ j. bit mask j && bit n j) place ∙ ap (λ t. t && bit n i) e)

pub field_kept : (mask n : ℤ) (shift : ℕ) → FitsSigned w64 n → ((j : ℕ) → j < shift → bit mask j ≡ false) → with_field mask shift (field mask shift n) n ≡ n
field_kept mask n shift fits none =
    int_kept n (λ i. cond (bit mask i) (cond (nat_lt i shift) false (bit (field mask shift n) (i - shift))) (bit n i)) fits
    (λ i l. over_field mask n shift i l none (bit mask i) refl (nat_lt i shift) refl)
