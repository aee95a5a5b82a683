-- Appending characters to a text, one piece after another.
use Rattle.std.proofs.Common.{◌≡◌, ℕ, ◌-◌, List, [], ◌∷◌, ◌++◌, length, take, drop, refl, sym, ◌∙◌, ap, subst, arith, length-append, append_assoc, if◌then◌else◌, is_ok, OnOk, OnErr, Result, Ok, Err}
use Rattle.std.proofs.Math.Seq.{drop-append_seam, take-append_seam}
use Rattle.std.proofs.lemmas.List.{append-nil, take_at}
use Rattle.std.proofs.lemmas.List.Concat.{flat_map-append}
use Rattle.std.proofs.lemmas.Str.{chars-append, chars_from_encodes, encodes-append, IsCharBoundary-at_seam, IsCharBoundary-from_take, IsUtf8-drop}
use Rattle.std.specs.Char.{encode_utf8}
use Rattle.std.specs.List.{flat_map}
use Rattle.std.specs.Str.{chars, encode_utf8_all, IsCharBoundary, IsUtf8}
use Rattle.rhai_text.specs.Quote.{Extends, escaped}
use Rattle.rhai_text.proofs.Runs.{chars-cut}

pub encodes-more : (base : List ℕ) {before now : List ℕ} (cs ds : List ℕ) → before ≡ base ++ encode_utf8_all cs → now ≡ before ++ encode_utf8_all ds → now ≡ base ++ encode_utf8_all (cs ++ ds)
encodes-more base cs ds e f =
    f
    ∙ ap (λ bs. bs ++ encode_utf8_all ds) e
    ∙ append_assoc base (encode_utf8_all cs) (encode_utf8_all ds)
    ∙ ap (λ bs. base ++ bs) (sym (encodes-append cs ds))

pub encodes-one_more : (base : List ℕ) {before now : List ℕ} (cs : List ℕ) (c : ℕ) → before ≡ base ++ encode_utf8_all cs → now ≡ before ++ encode_utf8 c → now ≡ base ++ encode_utf8_all (cs ++ c ∷ [])
encodes-one_more base {before = before} cs c e f =
    encodes-more base cs (c ∷ []) e (f ∙ ap (λ bs. before ++ bs) (sym (append-nil (encode_utf8 c))))

pub Extends-trans : (old middle new : List ℕ) → Extends old middle → Extends middle new → Extends old new
Extends-trans old middle new (xs, e) (ys, f) = (xs ++ ys, f ∙ ap (λ bs. bs ++ ys) e ∙ append_assoc old xs ys)

-- the result of a call that appends
pub OnOk-appended : {T E : Type 0} (r : Result T E) (now more same : List ℕ) → now ≡ (if is_ok r then more else same) → OnOk r (now ≡ more)
OnOk-appended (Ok x) now more same e = e
OnOk-appended (Err x) now more same e = tt

pub OnErr-always : {T E P : Type 0} (r : Result T E) → P → OnErr r P
OnErr-always (Ok x) p = tt
OnErr-always (Err x) p = p

-- a text with more appended
module _ (old new : List ℕ) (u : IsUtf8 old) (v : IsUtf8 new) (more : List ℕ) (e : new ≡ old ++ more) where
  front : take (length old) new ≡ old
  front = ap (take (length old)) e ∙ take-append_seam old more

  pub IsCharBoundary-extended : IsCharBoundary new (length old)
  IsCharBoundary-extended =
      IsCharBoundary-from_take new (length old) v (omega (arith, ap length e, length-append old more)) (subst IsUtf8 (sym front) u)

  pub IsUtf8-extension : IsUtf8 more
  IsUtf8-extension =
      subst IsUtf8 (ap (drop (length old)) e ∙ drop-append_seam old more) (IsUtf8-drop new (length old) v IsCharBoundary-extended)

pub chars-extended : (old new cs : List ℕ) → IsUtf8 old → IsUtf8 new → new ≡ old ++ encode_utf8_all cs → chars new ≡ chars old ++ cs
chars-extended old new cs u v e =
    ap chars e
    ∙ chars-append old (encode_utf8_all cs) u
    ∙ ap (λ xs. chars old ++ xs) (sym (chars_from_encodes cs (encode_utf8_all cs) (IsUtf8-extension old new u v (encode_utf8_all cs) e) refl))

-- characters that are not escaped, and one more of them
pub unescaped-more : (quote : ℕ) (cs : List ℕ) (c : ℕ) → flat_map (escaped quote) cs ≡ cs → escaped quote c ≡ c ∷ [] → flat_map (escaped quote) (cs ++ c ∷ []) ≡ cs ++ c ∷ []
unescaped-more quote cs c h e =
    flat_map-append (escaped quote) cs (c ∷ []) ∙ ap (λ xs. xs ++ (escaped quote c ++ [])) h ∙ ap (λ xs. cs ++ (xs ++ [])) e

-- a run s that begins with the characters cs, which are not escaped, and c
module _ (quote : ℕ) (s cs rest : List ℕ) (c : ℕ) (e : s ≡ encode_utf8_all cs ++ (encode_utf8 c ++ rest)) where
  pub run-more : s ≡ encode_utf8_all (cs ++ c ∷ []) ++ rest
  run-more = e ∙ sym (append_assoc (encode_utf8_all cs) (encode_utf8 c) rest) ∙ ap (λ bs. bs ++ rest) (encodes-one_more [] cs c refl refl)

  module _ (width left : ℕ) (w : width ≡ length (encode_utf8 c)) (l : left ≡ length rest) where
    seam : length (encode_utf8_all cs) ≡ length s - width - left
    seam =
        omega (arith, ap length e, length-append (encode_utf8_all cs) (encode_utf8 c ++ rest), length-append (encode_utf8 c) rest, w, l)

    pub IsCharBoundary-run : IsUtf8 (encode_utf8 c ++ rest) → IsCharBoundary s (length s - width - left)
    IsCharBoundary-run u = subst (IsCharBoundary s) seam (IsCharBoundary-at_seam s (encode_utf8_all cs) (encode_utf8 c ++ rest) e u)

    pub take-run : take (length s - width - left) s ≡ encode_utf8_all cs
    take-run =
        ap (take (length s - width - left)) e ∙ take_at (encode_utf8_all cs) (encode_utf8 c ++ rest) (length s - width - left) seam

  -- the text written for it: the run as it is, c escaped, and then the rest
  pub run-written : IsUtf8 s → IsUtf8 rest → flat_map (escaped quote) cs ≡ cs → (old before now : List ℕ) → before ≡ old ++ encode_utf8_all cs → now ≡ before ++ encode_utf8_all (escaped quote c)
      → now ++ encode_utf8_all (flat_map (escaped quote) (chars rest)) ≡ old ++ encode_utf8_all (flat_map (escaped quote) (chars s))
  run-written u v plain old before now f g =
      let after = flat_map (escaped quote) (chars rest) in
      ap (λ bs. bs ++ encode_utf8_all after) (encodes-more old cs (escaped quote c) f g)
      ∙ append_assoc old (encode_utf8_all (cs ++ escaped quote c)) (encode_utf8_all after)
      ∙ ap (λ bs. old ++ bs) (sym (encodes-append (cs ++ escaped quote c) after))
      ∙ ap (λ ds. old ++ encode_utf8_all ds)
      (append_assoc cs (escaped quote c) after
      ∙ ap (λ ds. ds ++ (escaped quote c ++ after)) (sym plain)
      ∙ sym (flat_map-append (escaped quote) cs (c ∷ chars rest))
      ∙ ap (flat_map (escaped quote)) (sym (chars-cut s cs rest c u v e)))
