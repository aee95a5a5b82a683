-- Texts cut at a character.
use Rattle.std.proofs.Common.{◌≡◌, ℕ, ◌+◌, ◌-◌, ◌≤◌, List, [], ◌++◌, length, take, drop, sym, ap, subst, ◌∙◌, arith, length-append, length-drop}
use Rattle.std.proofs.lemmas.List.{take-append-drop, take_all, drop_all, drop-drop, take_at, drop_at}
use Rattle.std.proofs.lemmas.Str.{chars-nil, chars_from_encodes, cons_from_encodes, encodes-append, encodes-chars, length-le-encodes, IsCharBoundary-at_seam}
use Rattle.std.specs.Char.{encode_utf8}
use Rattle.std.specs.Str.{chars, encode_utf8_all, IsCharBoundary, IsUtf8}

-- one character further in the bytes of a text's characters from i on
pub one_on : (cs rest : List ℕ) (i c : ℕ) → encode_utf8_all (drop i cs) ≡ encode_utf8 c ++ rest → rest ≡ encode_utf8_all (drop (i + 1) cs)
one_on cs rest i c e =
    let next = cons_from_encodes (drop i cs) rest c e in
    sym next.2 ∙ ap encode_utf8_all (sym (ap (drop 1) next.1) ∙ drop-drop 1 i cs)

-- if nothing is left from i on, the first characters up to a later index are all
pub all_taken : (text : List ℕ) (i n : ℕ) → IsUtf8 text → length (encode_utf8_all (drop i (chars text))) ≡ 0 → i ≤ n → text ≡ encode_utf8_all (take n (chars text))
all_taken text i n u e h =
    let cs = chars text in
    sym (encodes-chars text u) ∙ ap encode_utf8_all (sym (take_all n cs (omega (arith, length-drop i cs, length-le-encodes (drop i cs)))))

-- then none are left there
pub none_left : (text : List ℕ) (i n : ℕ) → length (encode_utf8_all (drop i (chars text))) ≡ 0 → i ≤ n → [] ≡ encode_utf8_all (drop n (chars text))
none_left text i n e h =
    let cs = chars text in
    ap encode_utf8_all (sym (drop_all n cs (omega (arith, length-drop i cs, length-le-encodes (drop i cs)))))

pub no_others : (text : List ℕ) (i n : ℕ) → length (encode_utf8_all (drop i (chars text))) ≡ 0 → i ≤ n → chars [] ≡ drop n (chars text)
no_others text i n e h =
    let cs = chars text in
    chars-nil ∙ sym (drop_all n cs (omega (arith, h, length-drop i cs, length-le-encodes (drop i cs), e)))

-- a text split where `back` begins, which is the bytes of its characters from n on
module _ (text : List ℕ) (u : IsUtf8 text) (n : ℕ) (back : List ℕ) (ub : IsUtf8 back) (e : back ≡ encode_utf8_all (drop n (chars text))) where
  both : text ≡ encode_utf8_all (take n (chars text)) ++ back
  both =
      sym (encodes-chars text u)
      ∙ ap encode_utf8_all (sym (take-append-drop n (chars text)))
      ∙ encodes-append (take n (chars text)) (drop n (chars text))
      ∙ ap (λ bs. encode_utf8_all (take n (chars text)) ++ bs) (sym e)

  pub back_fits : length back ≤ length text
  back_fits = omega (arith, ap length both, length-append (encode_utf8_all (take n (chars text))) back)

  seam : length (encode_utf8_all (take n (chars text))) ≡ length text - length back
  seam = omega (arith, ap length both, length-append (encode_utf8_all (take n (chars text))) back)

  pub cut_fits : IsCharBoundary text (length text - length back)
  cut_fits = subst (IsCharBoundary text) seam (IsCharBoundary-at_seam text (encode_utf8_all (take n (chars text))) back both ub)

  pub front_cut : take (length text - length back) text ≡ encode_utf8_all (take n (chars text))
  front_cut = ap (take (length text - length back)) both ∙ take_at (encode_utf8_all (take n (chars text))) back (length text - length back) seam

  pub back_cut : drop (length text - length back) text ≡ encode_utf8_all (drop n (chars text))
  back_cut = ap (drop (length text - length back)) both ∙ drop_at (encode_utf8_all (take n (chars text))) back (length text - length back) seam ∙ e

  pub back_chars : chars (drop (length text - length back) text) ≡ drop n (chars text)
  back_chars = ap chars (back_cut ∙ sym e) ∙ sym (chars_from_encodes (drop n (chars text)) back ub (sym e))
