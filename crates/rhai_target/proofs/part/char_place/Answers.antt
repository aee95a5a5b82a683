use Rattle.std.proofs.Common.{◌≡◌, ℕ, zero, suc, ℤ, pos, negsuc, ◌≤◌, Bool, true, false, nat_lt, List, [], ◌∷◌, length, slice_get, Some, None, option_map, option_and_then, refl, sym, ap, ◌∙◌, arith, cond}
use Rattle.std.proofs.Math.Facts.{to_z-of_z}
use Rattle.std.proofs.lemmas.Bool.{ltb-false}
use Rattle.rhai_target.specs.Part.{char_read, char_part}
use Rattle.rhai_target.proofs.part.char_place.Goals as goal
use lib.Signed.{lt_z}
use lib.IntN.{nat_abs}

past : (cs : List ℕ) (n : ℕ) → length cs ≤ n → slice_get cs n ≡ None
past [] n h = refl
past (c ∷ cs) zero h = absurd (omega (arith, h))
past (c ∷ cs) (suc n) h = past cs n (omega (arith, h))

at_length : (cs : List ℕ) (n : ℕ) (b : Bool) → nat_lt n (length cs) ≡ b → char_read cs n ≡ option_and_then (char_read cs) (cond b (Some n) None)
at_length cs n true e = refl
at_length cs n false e = ap (option_map _) (past cs n (ltb-false n (length cs) e))

ahead : (cs : List ℕ) (index : ℤ) (n : ℕ) → lt_z index (pos 0) ≡ false → n ≡ nat_abs index → char_read cs n ≡ char_part index cs
ahead cs (pos k) n e same = ap (char_read cs) same ∙ at_length cs k (nat_lt k (length cs)) refl
ahead cs (negsuc k) n e same = cc

pub returns-else-index-lt0 : goal.returns-else-index-lt0
returns-else-index-lt0 c =
    let kept = to_z-of_z c.ranges.index in
    ahead c.args.text.now c.args.index c.unsigned_abs.result (ap (λ z. lt_z z (pos 0)) (sym kept) ∙ c.if-index-lt0.false) (c.unsigned_abs.ensures.value ∙ ap nat_abs kept)
