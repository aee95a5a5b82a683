-- Padding texts to a number of characters.
use Rattle.std.proofs.Common.{◌≡◌, ℕ, zero, suc, ◌+◌, ◌*◌, ◌/◌, ◌%◌, ◌<◌, List, [], ◌∷◌, ◌++◌, length, take, replicate, refl, sym, ap, ◌∙◌, append_assoc, arith, length-append}
use Rattle.std.proofs.lemmas.List.{append-nil}
use Rattle.std.proofs.lemmas.Str.{chars-append, chars_from_encodes, chars-nil, encodes-append, encodes-chars}
use Rattle.std.specs.List.{repeat}
use Rattle.std.specs.Str.{chars, encode_utf8_all, IsUtf8}
use Rattle.rhai_packs.specs.Padding.{cycled}

-- the characters of a text repeated before another
pub chars-repeat : (n : ℕ) (bs ys : List ℕ) → IsUtf8 bs → chars (repeat n bs ++ ys) ≡ repeat n (chars bs) ++ chars ys
chars-repeat zero bs ys u = refl
chars-repeat (suc n) bs ys u =
    ap chars (append_assoc bs (repeat n bs) ys)
    ∙ chars-append bs (repeat n bs ++ ys) u
    ∙ ap (λ cs. chars bs ++ cs) (chars-repeat n bs ys u)
    ∙ sym (append_assoc (chars bs) (repeat n (chars bs)) (chars ys))

-- the number of their bytes
pub length-repeat : (n : ℕ) (cs ys : List ℕ) → length (encode_utf8_all (repeat n cs ++ ys)) ≡ n * length (encode_utf8_all cs) + length (encode_utf8_all ys)
length-repeat zero cs ys = omega arith
length-repeat (suc n) cs ys =
    let whole = ap (λ t. length (encode_utf8_all t)) (append_assoc cs (repeat n cs) ys) ∙ ap length (encodes-append cs (repeat n cs ++ ys)) ∙ length-append (encode_utf8_all cs) (encode_utf8_all (repeat n cs ++ ys)) in
    let more = length-repeat n cs ys in
    omega (arith, whole, more)

repeat_one : (n c : ℕ) → repeat n (c ∷ []) ≡ replicate n c
repeat_one zero c = refl
repeat_one (suc n) c = ap (λ cs. c ∷ cs) (repeat_one n c)

-- one character repeated
pub cycled-one : (n c : ℕ) → cycled n (c ∷ []) ≡ replicate n c
cycled-one n c =
    let whole : n / 1 ≡ n = omega arith in
    let rest : n % 1 ≡ 0 = omega arith in
    ap (λ m. repeat m (c ∷ []) ++ take (n % 1) (c ∷ [])) whole ∙ ap (λ m. repeat n (c ∷ []) ++ take m (c ∷ [])) rest ∙ append-nil (repeat n (c ∷ [])) ∙ repeat_one n c

cycled-some : (m : ℕ) (cs : List ℕ) → 0 < length cs → cycled m cs ≡ repeat (m / length cs) cs ++ take (m % length cs) cs
cycled-some m [] h = absurd (omega (arith, h))
cycled-some m (c ∷ cs) h = refl

-- a repeated text, and a part of it: its characters, and the number of its bytes
module _ (padding part : List ℕ) (m w : ℕ) (u : IsUtf8 padding) (v : IsUtf8 part) (long : w ≡ length (chars padding)) (some : 0 < w) (is : part ≡ encode_utf8_all (take (m % w) (chars padding))) where
  whole : cycled m (chars padding) ≡ repeat (m / w) (chars padding) ++ take (m % w) (chars padding)
  whole = cycled-some m (chars padding) (omega (arith, long, some)) ∙ ap (λ n. repeat (m / n) (chars padding) ++ take (m % n) (chars padding)) (sym long)

  pub padding_spelled : repeat (m / w) (chars padding) ++ chars part ≡ cycled m (chars padding)
  padding_spelled = ap (λ cs. repeat (m / w) (chars padding) ++ cs) (sym (chars_from_encodes (take (m % w) (chars padding)) part v (sym is))) ∙ sym whole

  pub padding_bytes : (m / w) * length padding + length part ≡ length (encode_utf8_all (cycled m (chars padding)))
  padding_bytes =
      ap (λ bs. (m / w) * length bs + length part) (sym (encodes-chars padding u))
      ∙ ap (λ bs. (m / w) * length (encode_utf8_all (chars padding)) + length bs) is
      ∙ sym (length-repeat (m / w) (chars padding) (take (m % w) (chars padding)))
      ∙ ap (λ cs. length (encode_utf8_all cs)) (sym whole)

-- a text that has characters isn't empty
pub not_empty : (bs : List ℕ) (w : ℕ) → w ≡ length (chars bs) → (w ≡ 0 → ⊥) → bs ≡ [] → ⊥
not_empty bs w long some e = some (long ∙ ap (λ b. length (chars b)) e ∙ ap length chars-nil)
