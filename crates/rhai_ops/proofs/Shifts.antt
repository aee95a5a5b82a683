-- Shifts by any amount.
use Rattle.std.proofs.Common.{◌≡◌, ℕ, ◌+◌, ◌-◌, ◌/◌, ◌%◌, ◌^◌, ◌<◌, ◌≤◌, ap, sym, ◌∙◌, arith, w64, ℤ, pos, negsuc, ◌*ℤ◌, to_z, of_z, FitsSigned}
use Rattle.std.specs.Int.{int_wrap, int_shl}
use Rattle.std.specs.Int.Signed.{shr_z, mag_shr}
use Rattle.std.proofs.Math.Nat.{lt_of_le_of_lt, mul_comm, pow-le-pow_right, div-eq_of_lt, mod-eq_of_lt, mul-mod_left, zero-lt-suc}
use Rattle.std.proofs.Math.IntN.{*ℤ_comm, *ℤ-zero}
use Rattle.std.proofs.lemmas.Int.{wrapping_mul_onto, int_wrap-mul_left, int_wrap-mul_right, to_z-of_z}
use Rattle.std.proofs.lemmas.Nat.{pow_below, pow-add}
use Rattle.rhai_ops.specs.Numbers.{times_power, floor_power}

pub wrap_pos : (m : ℕ) → m < 2 ^ 64 → int_wrap w64 (pos m) ≡ to_z w64 m
unfolding int_wrap
wrap_pos m h = ap (to_z w64) (mod-eq_of_lt h)

pub shl_wraps : (x : ℤ) (k : ℕ) → FitsSigned w64 x → k < 64 → int_shl w64 x k ≡ times_power x k
unfolding times_power
shl_wraps x k fits h =
    let low : 2 ^ k < 2 ^ 64 = pow_below k 64 h in
    ap (λ n. to_z w64 (n % 2 ^ 64)) (mul_comm (of_z w64 x) (2 ^ k))
    ∙ wrapping_mul_onto w64 (2 ^ k) x low fits
    ∙ ap (λ z. int_wrap w64 (z *ℤ x)) (sym (wrap_pos (2 ^ k) low))
    ∙ int_wrap-mul_left w64 (pos (2 ^ k)) x
    ∙ ap (int_wrap w64) (*ℤ_comm (pos (2 ^ k)) x)

-- a power of 2 that is at least 2 ^ 64 has no low bits
no_low_bits : (k : ℕ) → 64 ≤ k → 2 ^ k % 2 ^ 64 ≡ 0
no_low_bits k h = ap (λ n. n % 2 ^ 64) (ap (λ n. 2 ^ n) e ∙ pow-add 2 (k - 64) 64) ∙ mul-mod_left (2 ^ (k - 64)) (2 ^ 64)
  where
    e : k ≡ (k - 64) + 64
    e = omega arith

wrap_high : (k : ℕ) → 64 ≤ k → int_wrap w64 (pos (2 ^ k)) ≡ pos 0
unfolding int_wrap
wrap_high k h = ap (to_z w64) (no_low_bits k h)

pub high_is_none : (x : ℤ) (k : ℕ) → 64 ≤ k → pos 0 ≡ times_power x k
unfolding times_power int_wrap
high_is_none x k h =
    sym (sym (int_wrap-mul_right w64 x (pos (2 ^ k)))
    ∙ ap (λ z. int_wrap w64 (x *ℤ z)) (wrap_high k h)
    ∙ ap (int_wrap w64) (*ℤ-zero x))

pub shr_fits : (x : ℤ) (m : ℕ) → FitsSigned w64 x → FitsSigned w64 (shr_z x m)
shr_fits x m fits = record { sfits = lt_of_le_of_lt (mag_shr x m) fits.sfits }

pub shr_is_floor : (x : ℤ) (k : ℕ) → FitsSigned w64 x → to_z w64 (of_z w64 (shr_z (to_z w64 (of_z w64 x)) (2 ^ k))) ≡ floor_power x k
unfolding floor_power
shr_is_floor x k fits =
    ap (λ z. to_z w64 (of_z w64 (shr_z z (2 ^ k)))) (to_z-of_z w64 x fits) ∙ to_z-of_z w64 _ (shr_fits x (2 ^ k) fits)

through_high : (a k : ℕ) → a < 2 ^ 63 → 63 ≤ k → a / 2 ^ 63 ≡ a / 2 ^ k
through_high a k h high =
    let more : 2 ^ 63 ≤ 2 ^ k = pow-le-pow_right (zero-lt-suc 1) high in
    div-eq_of_lt h ∙ sym (div-eq_of_lt (omega arith))

pub shr_all : (x : ℤ) (k : ℕ) → FitsSigned w64 x → 63 ≤ k → shr_z x (2 ^ 63) ≡ shr_z x (2 ^ k)
shr_all (pos a) k fits high = ap pos (through_high a k fits.sfits high)
shr_all (negsuc a) k fits high = ap negsuc (through_high a k fits.sfits high)

pub shr_all_is_floor : (x : ℤ) (k : ℕ) → FitsSigned w64 x → 63 ≤ k → to_z w64 (of_z w64 (shr_z (to_z w64 (of_z w64 x)) (2 ^ 63))) ≡ floor_power x k
unfolding floor_power
shr_all_is_floor x k fits high = shr_is_floor x 63 fits ∙ shr_all x k fits high
