-- Ints in which consecutive bits are set.
use Rattle.std.proofs.Common.{◌≡◌, ℕ, ◌+◌, ◌-◌, ◌*◌, ◌/◌, ◌%◌, ◌^◌, ◌<◌, ◌≤◌, Bool, true, false, nat_eq, nat_le, nat_lt, cond, ◌&&◌, ap, sym, ◌∙◌, refl, arith, w64, to_z, pos, inl, inr}
use Rattle.std.specs.Int.{bit_at}
use Rattle.std.proofs.lemmas.Bool.{cases_lt, ltb-true, ltb-false, lt-ltb, le-ltb, le-leb, lt-leb}
use Rattle.std.proofs.lemmas.Nat.{mod_below, pow_pos}
use Rattle.std.proofs.lemmas.Nat.Bits.{bit_at-zero, bit_at_ones, bit_at_ones_above}
use Rattle.rhai_bits.specs.Bits.{digit}
use Rattle.rhai_bits.proofs.IntBits.{int_is, rest_digit, shifted_digit, down_digit}
use Rattle.rhai_packs.specs.Bits.{mask}

-- the lowest bits of a number of ones, d of which were shifted out
one : (d j n : ℕ) → j + d < 64 → j < n → nat_eq (bit_at ((2 ^ 64 - 1) / 2 ^ d) j) 1 ≡ nat_lt j n
one d j n low h = ap (λ b. nat_eq b 1) (down_digit (2 ^ 64 - 1) d j ∙ bit_at_ones 64 (j + d) low) ∙ sym (lt-ltb j n h)

none : (d j n : ℕ) → 64 ≤ j + d → n ≤ j → nat_eq (bit_at ((2 ^ 64 - 1) / 2 ^ d) j) 1 ≡ nat_lt j n
none d j n high h = ap (λ b. nat_eq b 1) (down_digit (2 ^ 64 - 1) d j ∙ bit_at_ones_above 64 (j + d) high) ∙ sym (le-ltb j n h)

ones : (d j n : ℕ) → n + d ≡ 64 → nat_eq (bit_at ((2 ^ 64 - 1) / 2 ^ d) j) 1 ≡ nat_lt j n
ones d j n all = elim (cases_lt j n) [
  | inl low ↦ one d j n (omega (arith, all, low)) low
  | inr high ↦ none d j n (omega (arith, all, high)) high
]

shifted : (i s n : ℕ) → s ≤ i → nat_lt (i - s) n ≡ nat_lt i (s + n)
shifted i s n h = elim (cases_lt i (s + n)) [
  | inl low ↦ lt-ltb (i - s) n (omega (arith, low, h)) ∙ sym (lt-ltb i (s + n) low)
  | inr high ↦ le-ltb (i - s) n (omega (arith, high, h)) ∙ sym (le-ltb i (s + n) high)
]

-- a bit of these ones after a shift to the left
placed : (d i s n : ℕ) → n + d ≡ 64 → (b : Bool) → nat_lt i s ≡ b
    → cond b false (nat_eq (bit_at ((2 ^ 64 - 1) / 2 ^ d) (i - s)) 1) ≡ (nat_le s i && nat_lt i (s + n))
placed d i s n all true e = ap (λ t. t && nat_lt i (s + n)) (sym (lt-leb s i (ltb-true i s e)))
placed d i s n all false e =
    let above : s ≤ i = ltb-false i s e in
    ones d (i - s) n all ∙ shifted i s n above ∙ ap (λ t. t && nat_lt i (s + n)) (sym (le-leb s i above))

pub mask_is : (place count d : ℕ) → count + d ≡ 64 → to_z w64 ((2 ^ 64 - 1) / 2 ^ d * 2 ^ place % 2 ^ 64) ≡ mask place count
mask_is place count d all =
    int_is _ _ (mod_below ((2 ^ 64 - 1) / 2 ^ d * 2 ^ place) (2 ^ 64) (pow_pos 64))
    (λ i l. rest_digit ((2 ^ 64 - 1) / 2 ^ d * 2 ^ place) i l ∙ shifted_digit ((2 ^ 64 - 1) / 2 ^ d) place i (nat_lt i place) refl
    ∙ ap digit (placed d i place count all (nat_lt i place) refl))

-- no bit is set
none_of : (b : Bool) → (b && false) ≡ false
none_of true = refl
none_of false = refl

unset : (place i : ℕ) → (nat_le place i && nat_lt i (place + 0)) ≡ false
unset place i = elim (cases_lt i place) [
  | inl low ↦ ap (λ t. t && nat_lt i (place + 0)) (lt-leb place i low)
  | inr high ↦ ap (λ t. nat_le place i && t) (le-ltb i (place + 0) (omega (arith, high))) ∙ none_of (nat_le place i)
]

pub mask_none : (place count : ℕ) → count ≡ 0 → pos 0 ≡ mask place count
mask_none place count none =
    int_is 0 (λ i. nat_le place i && nat_lt i (place + 0)) (pow_pos 64) (λ i l. bit_at-zero i ∙ ap digit (sym (unset place i)))
    ∙ ap (mask place) (sym none)
