-- A number after a byte.
use Rattle.std.proofs.Common.{◌≡◌, ℕ, ℤ, ◌∷◌, ap, ◌∙◌}
use mir.Val.{to_z, of_z}
use Rattle.std.specs.Prelude.{FitsSigned}
use Rattle.std.specs.Int.{w64, to_le_bytes, cast_unsigned}
use Rattle.std.proofs.lemmas.Int.{to_z-of_z}
use Rattle.rhai_show.specs.HashBytes.{int_bytes}

-- the bytes of an int after a byte
pub int_behind : (b m : ℕ) (n : ℤ) → FitsSigned w64 n → m ≡ cast_unsigned w64 (to_z w64 (of_z w64 n)) → b ∷ to_le_bytes w64 m ≡ b ∷ int_bytes n
unfolding int_bytes
int_behind b m n fits e = ap (λ k. b ∷ to_le_bytes w64 k) (e ∙ ap (cast_unsigned w64) (to_z-of_z w64 n fits))
