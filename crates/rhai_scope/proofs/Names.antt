-- Names and their characters.
use Rattle.std.proofs.Common.{◌≡◌, ℕ, Bool, true, false, nat_eq, List, [], refl, sym, ap, ◌∙◌}
use Rattle.std.proofs.lemmas.Str.{chars-nil, encodes-chars}
use Rattle.std.specs.Cmp.Lexicographic.{pointwise, bytes_decides}
use Rattle.std.specs.Str.{chars, encode_utf8_all, IsUtf8}

pub no_characters : chars [] ≡ []
no_characters = chars-nil

both_true : (a b : Bool) → (a ≡ true → b ≡ true) → (b ≡ true → a ≡ true) → a ≡ b
both_true true b f g = sym (f refl)
both_true false true f g = g refl
both_true false false f g = refl

-- texts are equal if their bytes are
pub same_bytes : (xs ys : List ℕ) → IsUtf8 xs → IsUtf8 ys → pointwise nat_eq xs ys ≡ pointwise nat_eq (chars xs) (chars ys)
same_bytes xs ys ux uy =
    both_true (pointwise nat_eq xs ys) (pointwise nat_eq (chars xs) (chars ys))
    (λ e. (bytes_decides (chars xs) (chars ys)).1 (ap chars ((bytes_decides xs ys).0 e)))
    (λ e. (bytes_decides xs ys).1 (sym (encodes-chars xs ux) ∙ ap encode_utf8_all ((bytes_decides (chars xs) (chars ys)).0 e) ∙ encodes-chars ys uy))
