-- Appending to lines.
use Rattle.std.proofs.Common.{◌≡◌, ℕ, ◌<◌, Bool, true, false, not, ◌&&◌, ◌==◌, if◌then◌else◌, nat_lt, flat_map, Fits, w8, slice_index_or, length, List, [], ◌∷◌, ◌++◌, suc, Option, Some, None, option_map, IsSomeAnd, Result, Ok, Err, encode_utf8_all, refl, sym, ap, ap₂, ◌∙◌, append_assoc, append-nil, arith}
use Rattle.std.specs.List.{list_all}
use Rattle.std.specs.Str.{chars, IsUtf8}
use Rattle.std.specs.declared.alloc.AllocError.{AllocError}
use Rattle.std.proofs.Math.Utf8.{scalars}
use Rattle.std.proofs.lemmas.Bool.Decides.{nat_tests}
use Rattle.std.proofs.lemmas.Str.{scalars-chars, encodes-chars, chars-nil}
use Rattle.rhai_lines.specs.Words.{Left}
use Rattle.rhai_lines.specs.Vocabulary.{Word}
use Rattle.rhai_lines.specs.Spelling.{behind, spells, writes, joined, text_words, has_feed, spoken}
use Rattle.rhai_lines.specs.Arguments.{Arguments, one, before, a_text, a_char, a_blob}
use Rattle.rhai_lines.specs.Cursor.{Adds, AddsLine}
use Rattle.rhai_show.specs.Leaves.{hex_digits}
use Rattle.rhai_lines.specs.Verbs.{form_of}
use Rattle.rhai_run.specs.declared.command.Command.{Command}

-- a text, and the rest after it
abbrev written : List ℕ → Option Left → Option (List ℕ)
written verb left = option_map (λ l. verb ++ behind l) left

-- a word, and then the rest after it
pub before_added : {A B : Type 0} (r : Result Bool AllocError) (verb : List ℕ) (p : Word A) (more : Arguments B) (c : A × B) (old mid new : List ℕ)
    → IsSomeAnd (spoken verb (one p) c.0) (λ bytes. mid ≡ old ++ bytes) → Adds r (spoken [] more c.1) mid new → Adds r (spoken verb (before p more) c) old new
unfolding spoken writes
before_added r verb p more c old mid new = by r (spells p c.0) (writes more c.1)
  where
    by : (r : Result Bool AllocError) (u : Option (List ℕ)) (v : Option Left) → IsSomeAnd (written verb (option_map Some u)) (λ bytes. mid ≡ old ++ bytes) → Adds r (written [] v) mid new → Adds r (written verb (joined u v)) old new
    by r None v h k = absurd h
    by (Ok true) (Some w) None h k = absurd k
    by (Ok true) (Some w) (Some l) h k = k ∙ ap (λ x. x ++ behind l) h ∙ append_assoc old (verb ++ 32 ∷ w) (behind l) ∙ ap (λ x. old ++ x) (append_assoc verb (32 ∷ w) (behind l))
    by (Ok false) (Some w) None h k = refl
    by (Ok false) (Some w) (Some l) h k = cc
    by (Err e) (Some w) v h k = tt

pub before_none : {A B : Type 0} (verb : List ℕ) (p : Word A) (more : Arguments B) (c : A × B) → spoken verb (one p) c.0 ≡ None → spoken verb (before p more) c ≡ None
unfolding spoken writes
before_none verb p more c = by (spells p c.0) (writes more c.1)
  where
    by : (u : Option (List ℕ)) (v : Option Left) → written verb (option_map Some u) ≡ None → written verb (joined u v) ≡ None
    by None v e = refl
    by (Some w) v e = cc

-- A verb, and the words of values from which its form makes the command: the line of the command.
pub adds_line : (verb : List ℕ) (values : (form_of verb).Values) (c : Command) (r : Result Bool AllocError) (old new : List ℕ)
    → Adds r (spoken verb (form_of verb).arguments values) old new → (form_of verb).make values ≡ c → AddsLine r c old new
adds_line verb values c r old new h m = by r (spoken verb (form_of verb).arguments values) refl h
  where
    by : (r : Result Bool AllocError) (o : Option (List ℕ)) → spoken verb (form_of verb).arguments values ≡ o → Adds r o old new → AddsLine r c old new
    by (Ok true) None k h = absurd h
    by (Ok true) (Some line) k h = (line, (verb, values, m, sym k), h)
    by (Ok false) None k h = (verb, values, m, sym k)
    by (Ok false) (Some line) k h = cc
    by (Err e) o k h = tt

-- a text: the rest for its characters
pub text_is : (text : List ℕ) → IsUtf8 text → (length text == 0) ≡ false → text_words (chars text) ≡ (if not (has_feed text) then Some (Some text) else None)
text_is text u n = by (chars text) refl
  where
    nothing : (bytes : List ℕ) → encode_utf8_all [] ≡ bytes → (length bytes == 0) ≡ true
    nothing bytes e = ap (λ x. length x == 0) (sym e)

    by : (cs : List ℕ) → chars text ≡ cs → text_words cs ≡ (if not (has_feed text) then Some (Some text) else None)
    by [] e = cc (nothing text (ap encode_utf8_all (sym e) ∙ encodes-chars text u), n)
    by (c ∷ cs) e =
        let s : scalars (c ∷ cs) ≡ true = ap scalars (sym e) ∙ scalars-chars text u in
        let t : encode_utf8_all (c ∷ cs) ≡ text = ap encode_utf8_all (sym e) ∙ encodes-chars text u in
        ap₂ (λ x y. if x && not (has_feed y) then Some (Some y) else None) s t

pub empty_text_is : (verb text : List ℕ) → (length text == 0) ≡ true → spoken verb a_text (chars text) ≡ Some verb
unfolding spoken writes
empty_text_is verb [] e = ap (λ t. written verb (text_words t)) chars-nil ∙ ap Some (append-nil verb)
empty_text_is verb (b ∷ bs) e = let f : suc (length bs) ≡ 0 = grind (arith, nat_tests, e) in absurd (omega (arith, f))

pub some_text_is : (verb text : List ℕ) → IsUtf8 text → (length text == 0) ≡ false → has_feed text ≡ false → spoken verb a_text (chars text) ≡ Some (verb ++ 32 ∷ text)
unfolding spoken writes
some_text_is verb text u n e = ap (written verb) (text_is text u n ∙ ap (λ t. if not t then Some (Some text) else None) e)

pub fed_text_is : (verb text : List ℕ) → IsUtf8 text → (length text == 0) ≡ false → has_feed text ≡ true → spoken verb a_text (chars text) ≡ None
unfolding spoken writes
fed_text_is verb text u n e = ap (written verb) (text_is text u n ∙ ap (λ t. if not t then Some (Some text) else None) e)

pub character_is : (verb : List ℕ) (c : ℕ) → spoken verb a_char c ≡ spoken verb a_text (c ∷ [])
unfolding spoken writes
character_is verb c = refl

-- bytes: each of them has two digits
each_fits : (bytes : List ℕ) → ((i : ℕ) → Fits w8 (slice_index_or bytes i 0)) → list_all (λ x. nat_lt x 256) bytes ≡ true
each_fits [] h = refl
each_fits (b ∷ bs) h =
    let k : b < 256 = omega (arith, h 0) in
    let t : nat_lt b 256 ≡ true = grind (arith, nat_tests, k) in
    ap₂ (λ x y. x && y) t (each_fits bs (λ i. h (suc i)))

pub blob_is : (verb bytes : List ℕ) → ((i : ℕ) → Fits w8 (slice_index_or bytes i 0)) → (length bytes == 0) ≡ false → spoken verb a_blob bytes ≡ Some (verb ++ 32 ∷ flat_map hex_digits bytes)
unfolding spoken writes
blob_is verb [] h n = cc n
blob_is verb (b ∷ bs) h n = ap (λ t. written verb (if t then Some (Some (flat_map hex_digits (b ∷ bs))) else None)) (each_fits (b ∷ bs) h)
