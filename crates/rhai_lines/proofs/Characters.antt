-- A text of one character.
use Rattle.std.proofs.Common.{◌≡◌, ℕ, true, false, Bool, ◌&&◌, List, [], ◌∷◌, None, Result, Ok, Err, refl, sym, ap, ◌∙◌, append-nil, encode_utf8, encode_utf8_all}
use Rattle.std.proofs.Math.Utf8.{scalar, scalars}
use Rattle.std.specs.Char.{IsScalar}
use Rattle.std.specs.Result.{result_ok}
use Rattle.std.specs.Str.{chars, IsUtf8}
use Rattle.std.specs.Str.Parse.{ParsesChar}
use Rattle.std.proofs.lemmas.Str.{scalars-chars, encodes-chars}
use Rattle.rhai_text.proofs.ForCallers.{chars-one}
use Rattle.rhai_lines.specs.Arguments.{only}

first : (s t : Bool) → (s && t) ≡ true → s ≡ true
first true t e = refl
first false t e = cc

none : (cs : List ℕ) → scalars cs ≡ true → ((c : ℕ) → IsScalar c → encode_utf8_all cs ≡ encode_utf8 c → ⊥) → None ≡ only cs
none [] s n = refl
none (c ∷ []) s n = absurd (n c (first (scalar c) true s) (append-nil (encode_utf8 c)))
none (c ∷ d ∷ cs) s n = refl

pub parsed_char : {E : Type 0} (bs : List ℕ) (r : Result ℕ E) → IsUtf8 bs → ParsesChar bs r → result_ok r ≡ only (chars bs)
parsed_char bs (Ok c) u h = sym (ap only (chars-one bs c u h))
parsed_char bs (Err e) u h = none (chars bs) (scalars-chars bs u) (λ c s k. h c s (sym (encodes-chars bs u) ∙ k))
