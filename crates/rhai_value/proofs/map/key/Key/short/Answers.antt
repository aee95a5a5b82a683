use Rattle.std.proofs.Common.{◌≡◌, ℕ, zero, suc, replicate, length, take, get_or, refl, ap, sym, subst, ◌∙◌, arith}
use Rattle.std.proofs.lemmas.List.{take_all, length-replicate}
use Rattle.std.specs.Str.{IsUtf8}
use Rattle.rhai_value.proofs.map.key.Key.short.Goals as goal

abbrev nought : ℕ
nought = 0

zeros_at : (n k : ℕ) → get_or (replicate n nought) k nought ≡ nought
zeros_at zero zero = refl
zeros_at zero (suc k) = refl
zeros_at (suc n) zero = refl
zeros_at (suc n) (suc k) = zeros_at n k

pub loop-i-init : goal.loop-i-init
loop-i-init c = record { long = length-replicate 30 nought; front = refl; zeros = λ k le. zeros_at 30 k }

pub invariant_of-result : goal.invariant_of-result
invariant_of-result c =
    let i = c.loop-i.invariant in
    let text = c.args.text.now in
    let bytes = c.loop-i.bytes in
    let end : c.loop-i.i ≡ length text = omega (arith, c.loop-i-test.false, c.loop-i.auto.i-end, c.as_bytes-text.ensures.value) in
    let whole : take (length text) bytes ≡ text = ap (λ n. take n bytes) (sym end) ∙ i.front ∙ take_all c.loop-i.i text (omega (arith, end)) in
    rw c.as_bytes-text.ensures.value (record {
      within = omega (arith, c.requires);
      long = i.long;
      text = ∣ subst IsUtf8 (sym whole) c.utf8.text ∣₁;
      zeros = λ k le. i.zeros k (omega (arith, le, end));
    })
