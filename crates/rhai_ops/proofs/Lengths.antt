-- The bytes of texts and of characters.
use Rattle.std.proofs.Common.{◌≡◌, ℕ, ◌+◌, List, [], ◌∷◌, ◌++◌, length, length-append, sym, ap, ◌∙◌}
use Rattle.std.specs.Char.{encode_utf8}
use Rattle.std.specs.Str.{chars, encode_utf8_all, IsUtf8}
use Rattle.std.proofs.lemmas.List.{append-nil}
use Rattle.std.proofs.lemmas.Str.{chars_from_encodes, encodes-append, encodes-chars}

pub joined_length : (a b : List ℕ) → length (encode_utf8_all (a ++ b)) ≡ length (encode_utf8_all a) + length (encode_utf8_all b)
joined_length a b = ap length (encodes-append a b) ∙ length-append (encode_utf8_all a) (encode_utf8_all b)

-- characters appended to others, by their bytes
pub extended_length : (a bs : List ℕ) → IsUtf8 bs → length (encode_utf8_all (a ++ chars bs)) ≡ length (encode_utf8_all a) + length bs
extended_length a bs u = joined_length a (chars bs) ∙ ap (λ xs. length (encode_utf8_all a) + length xs) (encodes-chars bs u)

-- the text of one character
pub spelled_bytes : (c : ℕ) → encode_utf8_all (c ∷ []) ≡ encode_utf8 c
spelled_bytes c = append-nil (encode_utf8 c)

pub spelled_characters : (bs : List ℕ) (c : ℕ) → IsUtf8 bs → bs ≡ encode_utf8 c → chars bs ≡ c ∷ []
spelled_characters bs c u e = sym (chars_from_encodes (c ∷ []) bs u (append-nil (encode_utf8 c) ∙ sym e))
