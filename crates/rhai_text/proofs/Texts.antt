-- The characters of texts that are concatenated or split.
use Rattle.std.proofs.Common.{◌≡◌, ℕ, ◌+◌, ◌-◌, ◌≤◌, suc, List, [], ◌∷◌, ◌++◌, length, take, drop, set, sym, ◌∙◌, ap, subst, add-one, arith, length-append, length-drop}
use Rattle.std.proofs.lemmas.List.{append-nil, take-append-drop, drop-drop, drop_all, set_split, take_at, drop_at}
use Rattle.std.proofs.lemmas.Str.{chars-append, chars_from_encodes, cons_from_encodes, encodes-append, encodes-chars, length-le-encodes, IsUtf8-from_ascii, chars-IsAscii, encodes-IsAscii, IsAscii-drop, IsUtf8-take, IsCharBoundary-at_seam}
use Rattle.std.specs.Char.{encode_utf8}
use Rattle.std.specs.Str.{chars, encode_utf8_all, IsAscii, IsUtf8, IsCharBoundary}

-- the concatenation of two texts, and of three
pub chars_two : (xs ys : List ℕ) → IsUtf8 xs → chars (xs ++ ys) ≡ chars xs ++ chars ys
chars_two = chars-append

pub chars-three : (xs ys zs : List ℕ) → IsUtf8 xs → IsUtf8 ys → chars (xs ++ (ys ++ zs)) ≡ chars xs ++ (chars ys ++ chars zs)
chars-three xs ys zs u v = chars-append xs (ys ++ zs) u ∙ ap (λ cs. chars xs ++ cs) (chars-append ys zs v)

-- the bytes of an ASCII text encode its characters, and equal them
pub ascii_encodes : (bs cs : List ℕ) → chars bs ≡ cs → IsAscii bs → IsAscii (encode_utf8_all cs)
ascii_encodes bs cs e a = subst IsAscii (sym (encodes-chars bs (IsUtf8-from_ascii bs a)) ∙ ap encode_utf8_all e) a

pub ascii_is : (bs cs : List ℕ) → chars bs ≡ cs → bs ≡ encode_utf8_all cs → IsAscii (encode_utf8_all cs) → bs ≡ cs
ascii_is bs cs e f a = sym (chars-IsAscii bs (subst IsAscii (sym f) a)) ∙ e

-- the rest of an ASCII text
module _ (text : List ℕ) (n : ℕ) (a : IsAscii text) where
  pub drop_encodes : drop n text ≡ encode_utf8_all (drop n (chars text))
  drop_encodes = sym (encodes-IsAscii (drop n text) (IsAscii-drop text n a)) ∙ ap (λ bs. encode_utf8_all (drop n bs)) (sym (chars-IsAscii text a))

  pub nothing_encodes : length text ≤ n → [] ≡ encode_utf8_all (drop n (chars text))
  nothing_encodes h = sym (drop_all n text h) ∙ drop_encodes

  pub IsAscii-rest : (rest : List ℕ) → rest ≡ encode_utf8_all (drop n (chars text)) → IsAscii rest
  IsAscii-rest rest e = subst IsAscii (drop_encodes ∙ sym e) (IsAscii-drop text n a)

-- one character further in the bytes of a text's characters from i on
pub encodes-drop_next : (cs rest : List ℕ) (i c : ℕ) → encode_utf8_all (drop i cs) ≡ encode_utf8 c ++ rest → rest ≡ encode_utf8_all (drop (i + 1) cs)
encodes-drop_next cs rest i c e =
    let next = cons_from_encodes (drop i cs) rest c e in
    sym next.2 ∙ ap encode_utf8_all (sym (ap (drop 1) next.1) ∙ drop-drop 1 i cs)

-- if nothing is left from i on, nothing is left further on
pub encodes-drop_past : (cs : List ℕ) (i n : ℕ) → length (encode_utf8_all (drop i cs)) ≡ 0 → i ≤ n → [] ≡ encode_utf8_all (drop n cs)
encodes-drop_past cs i n e h =
    ap encode_utf8_all (sym (drop_all n cs (omega (arith, length-drop i cs, length-le-encodes (drop i cs)))))

-- a text split where `back` begins, which is the bytes of its characters from `count` on
module _ (text : List ℕ) (u : IsUtf8 text) (count : ℕ) (back : List ℕ) (ub : IsUtf8 back) (e : back ≡ encode_utf8_all (drop count (chars text))) where
  both : text ≡ encode_utf8_all (take count (chars text)) ++ back
  both =
      sym (encodes-chars text u)
      ∙ ap encode_utf8_all (sym (take-append-drop count (chars text)))
      ∙ encodes-append (take count (chars text)) (drop count (chars text))
      ∙ ap (λ bs. encode_utf8_all (take count (chars text)) ++ bs) (sym e)

  pub length-le-cut : length back ≤ length text
  length-le-cut = omega (arith, ap length both, length-append (encode_utf8_all (take count (chars text))) back)

  seam : length (encode_utf8_all (take count (chars text))) ≡ length text - length back
  seam = omega (arith, ap length both, length-append (encode_utf8_all (take count (chars text))) back)

  pub IsCharBoundary-cut : IsCharBoundary text (length text - length back)
  IsCharBoundary-cut = subst (IsCharBoundary text) seam (IsCharBoundary-at_seam text (encode_utf8_all (take count (chars text))) back both ub)

  pub chars-front_cut : chars (take (length text - length back) text) ≡ take count (chars text)
  chars-front_cut =
      let front : take (length text - length back) text ≡ encode_utf8_all (take count (chars text)) =
      ap (take (length text - length back)) both ∙ take_at (encode_utf8_all (take count (chars text))) back (length text - length back) seam
      in
      sym (chars_from_encodes (take count (chars text)) (take (length text - length back) text) (IsUtf8-take text (length text - length back) u IsCharBoundary-cut) (sym front))

  pub drop-back_cut : drop (length text - length back) text ≡ encode_utf8_all (drop count (chars text))
  drop-back_cut =
      ap (drop (length text - length back)) both ∙ drop_at (encode_utf8_all (take count (chars text))) back (length text - length back) seam ∙ e

  pub chars-back_cut : chars (drop (length text - length back) text) ≡ drop count (chars text)
  chars-back_cut =
      ap chars (drop-back_cut ∙ sym e) ∙ sym (chars_from_encodes (drop count (chars text)) back ub (sym e))

-- the list with another character at i, given the rest from i on
pub set-at_drop : (cs rest : List ℕ) (i c d : ℕ) → drop i cs ≡ c ∷ rest → set cs i d ≡ take i cs ++ (d ∷ rest)
set-at_drop cs rest i c d e =
    let next : drop (suc i) cs ≡ rest = sym (rw add-one at (drop-drop 1 i cs)) ∙ ap (drop 1) e in
    set_split cs i d (omega (arith, ap length e, length-drop i cs)) ∙ ap (λ xs. take i cs ++ (d ∷ xs)) next

pub chars-one : (bs : List ℕ) (c : ℕ) → IsUtf8 bs → bs ≡ encode_utf8 c → chars bs ≡ c ∷ []
chars-one bs c u e = sym (chars_from_encodes (c ∷ []) bs u (append-nil (encode_utf8 c) ∙ sym e))
