-- Bytes read and written in the middle of a list.
use Rattle.std.proofs.Common.{◌≡◌, ℕ, ◌+◌, ◌-◌, ◌<◌, ◌≤◌, min, Bool, cond, nat_lt, List, [], ◌∷◌, ◌++◌, length, take, drop, replicate, slice_set, slice_index_or, ap, sym, ◌∙◌, arith, append_assoc, length-append, inl, inr}
use Rattle.std.proofs.Math.Seq.{set-append_seam, take-append_seam}
use Rattle.std.proofs.lemmas.List.{drop_more, drop-replicate, length-take-le, take-take, take_all, take-append-drop}
use Rattle.std.proofs.lemmas.Bool.{cases_lt}
use Rattle.std.proofs.lemmas.List.Elements.{filter-append}
use Rattle.rhai_packs.specs.Written.{ascii_of, eight, overwritten}

pub overwritten_none : (xs : List ℕ) (k : ℕ) → overwritten xs k [] ≡ xs
overwritten_none xs k = ap (λ j. take k xs ++ drop j xs) (add_nothing k) ∙ take-append-drop k xs
  where
    add_nothing : (k : ℕ) → k + 0 ≡ k
    add_nothing k = omega arith

-- one more item
pub overwritten_more : (xs ys : List ℕ) (k b : ℕ) → k + length ys < length xs → slice_set (overwritten xs k ys) (k + length ys) b ≡ overwritten xs k (ys ++ b ∷ [])
overwritten_more xs ys k b h =
    let m = k + length ys in
    let d = slice_index_or xs m 0 in
    let long : length (take k xs ++ ys) ≡ m = length-append (take k xs) ys ∙ ap (λ n. n + length ys) (length-take-le k xs (omega (arith, h))) in
    let next : m + 1 ≡ k + length (ys ++ b ∷ []) = omega (arith, length-append ys (b ∷ [])) in
    ap (λ zs. slice_set zs m b) (sym (append_assoc (take k xs) ys (drop m xs)) ∙ ap (λ zs. (take k xs ++ ys) ++ zs) (drop_more xs m 0 h))
    ∙ ap (λ n. slice_set ((take k xs ++ ys) ++ d ∷ drop (m + 1) xs) n b) (sym long)
    ∙ set-append_seam (take k xs ++ ys) d (drop (m + 1) xs) b
    ∙ append_assoc (take k xs) ys (b ∷ drop (m + 1) xs)
    ∙ ap (λ zs. take k xs ++ zs) (sym (append_assoc ys (b ∷ []) (drop (m + 1) xs)) ∙ ap (λ n. (ys ++ b ∷ []) ++ drop n xs) next)

-- ---- the ASCII characters of a text
one : (b : ℕ) (t : Bool) → nat_lt b 128 ≡ t → ascii_of (b ∷ []) ≡ cond t (b ∷ []) []
one b t e = ap (λ s. cond s (b ∷ []) []) e

pub ascii_more : (text : List ℕ) (i b : ℕ) (t : Bool) → nat_lt b 128 ≡ t → take (i + 1) text ≡ take i text ++ b ∷ [] → ascii_of (take (i + 1) text) ≡ ascii_of (take i text) ++ cond t (b ∷ []) []
ascii_more text i b t e more = ap ascii_of more ∙ filter-append (λ c. nat_lt c 128) (take i text) (b ∷ []) ∙ ap (λ ys. ascii_of (take i text) ++ ys) (one b t e)

-- those that fill a part
pub ascii_cut : (text : List ℕ) (i n : ℕ) → length (ascii_of (take i text)) ≡ n → take n (ascii_of text) ≡ ascii_of (take i text)
ascii_cut text i n e =
    ap (λ zs. take n (ascii_of zs)) (sym (take-append-drop i text)) ∙ ap (take n) (filter-append (λ c. nat_lt c 128) (take i text) (drop i text))
    ∙ ap (λ k. take k (ascii_of (take i text) ++ ascii_of (drop i text))) (sym e) ∙ take-append_seam (ascii_of (take i text)) (ascii_of (drop i text))

-- ---- the eight bytes of an int
pub eight_is : (ys : List ℕ) (k : ℕ) → k ≤ length ys → take (min k 8) ys ++ drop (min k 8) (replicate 8 0) ≡ eight (take k ys)
eight_is ys k h = elim (cases_lt k 8) [
  | inl low ↦ short low
  | inr high ↦ long high
]
  where
    count : length (take k ys) ≡ k
    count = length-take-le k ys h

    short : k < 8 → take (min k 8) ys ++ drop (min k 8) (replicate 8 0) ≡ eight (take k ys)
    short low =
        let least : min k 8 ≡ k = omega (arith, low) in
        ap (λ n. take n ys ++ drop n (replicate 8 0)) least
        ∙ ap (λ zs. take k ys ++ zs) (drop-replicate k 8 0 ∙ ap (λ n. replicate (8 - n) 0) (sym count))
        ∙ ap (λ zs. zs ++ replicate (8 - length (take k ys)) 0) (sym (take_all 8 (take k ys) (omega (arith, count, low))))

    long : 8 ≤ k → take (min k 8) ys ++ drop (min k 8) (replicate 8 0) ≡ eight (take k ys)
    long high =
        let least : min k 8 ≡ 8 = omega (arith, high) in
        let none : 8 - length (take k ys) ≡ 0 = omega (arith, count, high) in
        ap (λ n. take n ys ++ drop n (replicate 8 0)) least
        ∙ ap (λ zs. zs ++ drop 8 (replicate 8 0)) (sym (take-take 8 k ys high))
        ∙ ap (λ zs. take 8 (take k ys) ++ zs) (drop-replicate 8 8 0 ∙ ap (λ n. replicate n 0) (sym none))
