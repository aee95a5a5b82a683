-- Replacing each occurrence of a pattern by nothing is `minus`.
use Rattle.std.proofs.Common.{◌≡◌, ℕ, zero, suc, ◌<◌, ◌≤◌, List, [], ◌++◌, length, take, drop, sym, ◌∙◌, ap, subst, inl, inr, arith, length-drop, length-append, Bor, Option}
use Rattle.std.proofs.Math.Seq.{drop-append_seam, take-append_seam}
use Rattle.std.proofs.lemmas.Bool.{cases_lt}
use Rattle.std.proofs.lemmas.List.{take-append-drop, take-append-le, length-take-le}
use Rattle.std.proofs.lemmas.Str.{chars-append, encodes-chars, encodes-append, IsUtf8-append, IsUtf8-drop, IsUtf8-take, IsCharBoundary-from_drop, length-le-encodes}
use Rattle.std.specs.Str.{chars, encode_utf8_all, IsUtf8, IsCharBoundary}
use Rattle.std.specs.Str.Pattern.{FindsText, HasTextAt, LacksTextAt}
use Rattle.std.specs.Str.Replace.{ReplacesMatches}
use Rattle.rhai_text.specs.Text.{minus}
use Rattle.rhai_text.proofs.Minus.{minus-first, minus-lacks}

-- of two ways to split a list in two, the longer front has more bytes
more_bytes : (front xs u v : List ℕ) → front ++ u ≡ xs ++ v → length xs < length front → length (encode_utf8_all xs) < length (encode_utf8_all front)
more_bytes front xs u v e shorter =
    let n = length xs in
    let same : take n front ≡ xs = sym (take-append-le n front u (omega arith)) ∙ ap (take n) e ∙ take-append_seam xs v in
    let split : encode_utf8_all front ≡ encode_utf8_all xs ++ encode_utf8_all (drop n front) =
    ap encode_utf8_all (sym (take-append-drop n front))
    ∙ encodes-append (take n front) (drop n front)
    ∙ ap (λ ys. encode_utf8_all ys ++ encode_utf8_all (drop n front)) same
    in
    omega (arith, ap length split, length-append (encode_utf8_all xs) (encode_utf8_all (drop n front)), length-le-encodes (drop n front), length-drop n front)

module _ (p : List ℕ) (up : IsUtf8 p) where
  -- if the characters of p occur in those of the text, its bytes occur in the text's
  bytes_at : (s xs ys : List ℕ) → IsUtf8 s → chars s ≡ xs ++ (chars p ++ ys) → s ≡ encode_utf8_all xs ++ (p ++ encode_utf8_all ys)
  bytes_at s xs ys u e =
      sym (encodes-chars s u)
      ∙ ap encode_utf8_all e
      ∙ encodes-append xs (chars p ++ ys)
      ∙ ap (λ bs. encode_utf8_all xs ++ bs) (encodes-append (chars p) ys ∙ ap (λ bs. bs ++ encode_utf8_all ys) (encodes-chars p up))

  found_at : (s xs ys : List ℕ) → IsUtf8 s → chars s ≡ xs ++ (chars p ++ ys) → drop (length (encode_utf8_all xs)) s ≡ p ++ encode_utf8_all ys
  found_at s xs ys u e =
      ap (drop (length (encode_utf8_all xs))) (bytes_at s xs ys u e) ∙ drop-append_seam (encode_utf8_all xs) (p ++ encode_utf8_all ys)

  minus-none_found : (s : List ℕ) → IsUtf8 s → ((i : ℕ) → i ≤ length s → LacksTextAt p s i) → minus (chars s) (chars p) ≡ chars s
  minus-none_found s u lacks =
      minus-lacks (chars s) (chars p) (λ xs ys e.
      let bytes = bytes_at s xs ys u e in
      lacks (length (encode_utf8_all xs))
      (omega (arith, ap length bytes, length-append (encode_utf8_all xs) (p ++ encode_utf8_all ys)))
      (encode_utf8_all ys)
      (found_at s xs ys u e))

  module _ (some : 0 < length p) (s : List ℕ) (a b : ℕ) (u : IsUtf8 s) (lacks : (i : ℕ) → i < a → LacksTextAt p s i) (at : HasTextAt p s a b) where
    after_text : IsUtf8 (drop b s)
    after_text = IsUtf8-drop s b u (subst (IsCharBoundary s) (sym at.ends) at.after)

    within : a ≤ length s
    within = omega (arith, ap length at.split, length-append p (drop b s), length-drop a s)

    before_text : IsUtf8 (take a s)
    before_text = IsUtf8-take s a u (IsCharBoundary-from_drop s a within (subst IsUtf8 (sym at.split) (IsUtf8-append p (drop b s) up after_text)))

    three_parts : chars s ≡ chars (take a s) ++ (chars p ++ chars (drop b s))
    three_parts =
        ap chars (sym (take-append-drop a s) ∙ ap (λ xs. take a s ++ xs) at.split)
        ∙ chars-append (take a s) (p ++ drop b s) before_text
        ∙ ap (λ cs. chars (take a s) ++ cs) (chars-append p (drop b s) up)

    -- no earlier index in characters, since there is none in bytes
    no_earlier : (xs ys : List ℕ) → chars (take a s) ++ (chars p ++ chars (drop b s)) ≡ xs ++ (chars p ++ ys) → length (chars (take a s)) ≤ length xs
    no_earlier xs ys e =
        elim (cases_lt (length xs) (length (chars (take a s)))) [
          | inl shorter ↦
              let fewer : length (encode_utf8_all xs) < a =
              omega (arith, more_bytes (chars (take a s)) xs (chars p ++ chars (drop b s)) (chars p ++ ys) e shorter, ap length (encodes-chars (take a s) before_text), length-take-le a s within)
              in
              absurd (lacks (length (encode_utf8_all xs)) fewer (encode_utf8_all ys) (found_at s xs ys u (three_parts ∙ e)))
          | inr le ↦ le
        ]

    minus-first_found : minus (chars s) (chars p) ≡ chars (take a s) ++ minus (chars (drop b s)) (chars p)
    minus-first_found =
        ap (λ cs. minus cs (chars p)) three_parts
        ∙ minus-first (chars (take a s)) (chars p) (chars (drop b s)) (record { first = no_earlier })

    found_bytes : (rest : List ℕ) → rest ≡ encode_utf8_all (minus (chars (drop b s)) (chars p)) → take a s ++ ([] ++ rest) ≡ encode_utf8_all (minus (chars s) (chars p))
    found_bytes rest e =
        ap (λ bs. take a s ++ bs) e
        ∙ ap (λ bs. bs ++ encode_utf8_all (minus (chars (drop b s)) (chars p))) (sym (encodes-chars (take a s) before_text))
        ∙ sym (encodes-append (chars (take a s)) (minus (chars (drop b s)) (chars p)))
        ∙ ap encode_utf8_all (sym minus-first_found)

abbrev finds : Bor (List ℕ) → List ℕ → Option (ℕ × ℕ) → Type 0
finds p = FindsText p.now

abbrev keeps : Bor (List ℕ) → Bor (List ℕ) → Type 0
keeps p q = q.now ≡ p.now

pub ReplacesMatches-minus : (n : ℕ) (p : Bor (List ℕ)) (s out : List ℕ) → IsUtf8 p.now → 0 < length p.now → IsUtf8 s → ReplacesMatches finds keeps [] n p s out → out ≡ encode_utf8_all (minus (chars s) (chars p.now))
ReplacesMatches-minus zero p s out up some u r =
    r.1 ∙ sym (encodes-chars s u) ∙ ap encode_utf8_all (sym (minus-none_found p.now up s u r.0))
ReplacesMatches-minus (suc n) p s out up some u (a, b, q, rest, found, kept, inl more, is) =
    let uq : IsUtf8 q.now = subst IsUtf8 (sym kept) up in
    let someq : 0 < length q.now = omega (arith, ap length kept) in
    is ∙ found_bytes p.now up some s a b u found.0 found.1 rest
    (ReplacesMatches-minus n q (drop b s) rest uq someq (after_text p.now up some s a b u found.0 found.1) more.1
    ∙ ap (λ x. encode_utf8_all (minus (chars (drop b s)) (chars x))) kept)
ReplacesMatches-minus (suc n) p s out up some u (a, b, q, rest, found, kept, inr empty, is) =
    absurd (omega (arith, found.1.ends, empty.0, some))
