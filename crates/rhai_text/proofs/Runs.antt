-- A text split at a character that follows a run of others.
use Rattle.std.proofs.Common.{◌≡◌, ℕ, false, cond, not, List, [], ◌∷◌, ◌++◌, drop, nat_eq, Option, Some, None, is_some, Bor, refl, sym, ◌∙◌, ap, subst, arith, rules}
use Rattle.std.proofs.lemmas.Bool.{eq-eqb}
use Rattle.std.proofs.lemmas.List.{append-nil, take-append-drop}
use Rattle.std.proofs.lemmas.List.Elements.{filter-append}
use Rattle.std.proofs.lemmas.Str.{chars-nil, encodes-append, encodes-chars, encodes_same, len_utf8_bounds, IsUtf8-drop, IsUtf8-nil}
use Rattle.std.specs.Char.{encode_utf8}
use Rattle.std.specs.Str.{chars, encode_utf8_all, IsUtf8, IsCharBoundary, NonePass}
use Rattle.std.specs.Str.Iter.{text_or_empty}
use Rattle.std.specs.Str.Pattern.{FindsChar, IsSplitAtFirstMatch}
use Rattle.rhai_text.specs.Text.{minus_char}

pub chars-cut : (s cs rest : List ℕ) (c : ℕ) → IsUtf8 s → IsUtf8 rest → s ≡ encode_utf8_all cs ++ (encode_utf8 c ++ rest) → chars s ≡ cs ++ (c ∷ chars rest)
chars-cut s cs rest c u v e =
    encodes_same (chars s) (cs ++ (c ∷ chars rest))
    (encodes-chars s u
    ∙ e
    ∙ ap (λ bs. encode_utf8_all cs ++ (encode_utf8 c ++ bs)) (sym (encodes-chars rest v))
    ∙ sym (encodes-append cs (c ∷ chars rest)))

keeps : (c : ℕ) (cs : List ℕ) → NonePass (λ d. nat_eq d c) cs → minus_char cs c ≡ cs
keeps c [] h = refl
keeps c (d ∷ ds) h =
    ap (λ b. cond (not b) (d ∷ minus_char ds c) (minus_char ds c)) h.0 ∙ ap (λ xs. d ∷ xs) (keeps c ds h.1)

takes_one : (c : ℕ) (cs rest : List ℕ) → NonePass (λ d. nat_eq d c) cs → minus_char (cs ++ (c ∷ rest)) c ≡ cs ++ minus_char rest c
takes_one c cs rest h =
    filter-append (λ d. not (nat_eq d c)) cs (c ∷ rest)
    ∙ ap (λ xs. xs ++ minus_char (c ∷ rest) c) (keeps c cs h)
    ∙ ap (λ b. cs ++ cond (not b) (c ∷ minus_char rest c) (minus_char rest c)) (eq-eqb c c refl)

pub nothing_more : (rest : Option (Bor (List ℕ))) → false ≡ is_some rest → text_or_empty rest ≡ []
nothing_more None h = refl
nothing_more (Some t) h = absurd (search rules)

-- x is the part of s before the first c, and rest the part after that c; without a c, x is s, and there is no rest
module _ (c : ℕ) (s x : List ℕ) (rest : Option (Bor (List ℕ))) (u : IsUtf8 s) where
  pub minus_char-split : IsSplitAtFirstMatch (FindsChar c) s x (is_some rest) (text_or_empty rest)
      → IsUtf8 (text_or_empty rest) × (encode_utf8_all (minus_char (chars s) c) ≡ x ++ encode_utf8_all (minus_char (chars (text_or_empty rest)) c))
  minus_char-split (_, (None, (cs, spells, none), (whole, last))) =
      let empty = nothing_more rest (sym last) in (
        subst IsUtf8 (sym empty) IsUtf8-nil,
        ap (λ xs. encode_utf8_all (minus_char xs c)) (encodes_same (chars s) cs (encodes-chars s u ∙ sym spells))
            ∙ ap encode_utf8_all (keeps c cs none)
            ∙ spells
            ∙ sym whole
            ∙ sym (append-nil x)
            ∙ ap (λ bs. x ++ encode_utf8_all (minus_char bs c)) (sym (ap chars empty ∙ chars-nil)),
      )
  minus_char-split (_, (Some (i, j), ((cs, spells, none), at), parts)) =
      let cut = parts (omega (arith, at.ends, (len_utf8_bounds c).0)) in
      let t = text_or_empty rest in
      let v : IsUtf8 t = subst IsUtf8 (sym cut.2) (IsUtf8-drop s j u (subst (IsCharBoundary s) (sym at.ends) at.after)) in
      let bytes : s ≡ encode_utf8_all cs ++ (encode_utf8 c ++ t) =
      sym (take-append-drop i s) ∙ ap (λ bs. bs ++ drop i s) (sym spells) ∙ ap (λ bs. encode_utf8_all cs ++ bs) (at.split ∙ ap (λ bs. encode_utf8 c ++ bs) (sym cut.2))
      in (
        v,
        ap (λ xs. encode_utf8_all (minus_char xs c)) (chars-cut s cs t c u v bytes)
            ∙ ap encode_utf8_all (takes_one c cs (chars t) none)
            ∙ encodes-append cs (minus_char (chars t) c)
            ∙ ap (λ bs. bs ++ encode_utf8_all (minus_char (chars t) c)) (spells ∙ sym cut.0),
      )
