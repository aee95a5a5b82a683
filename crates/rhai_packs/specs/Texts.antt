-- Searching in texts, and making texts. A text is its UTF-8 bytes.
use Rattle.std.specs.Prelude.{◌≡◌, ◌<◌, ◌≤◌, ◌⊎◌, ℕ, ◌+◌, ◌-◌, ◌++◌, true, false, List, [], ◌∷◌, length, take, drop, Option, Some, None, option_map, Result, Ok, Err}
use Rattle.std.specs.Borrow.{Bor}
use Rattle.std.specs.Str.{chars, encode_utf8_all}
use Rattle.std.specs.Str.Pattern.{FindsText}
use Rattle.std.specs.Str.Replace.{ReplacesMatches}
use Rattle.rhai_text.specs.declared.error.EvalAltResult.{EvalAltResult}
use Rattle.rhai_text.specs.declared.error.EvalAltResult.TheVariants.{ErrorMismatchDataType, ErrorDataRace, ErrorArithmetic, ErrorDataTooLarge, ErrorMemory}
use Rattle.rhai_text.specs.declared.error.SizeKind.TheVariants as size
use Rattle.rhai_text.specs.declared.limits.Limits.{Limits}
use Rattle.rhai_packs.specs.Sizes.{may_grow, no_place}

-- the part occurs in the text
abbrev pub HasPart : List ℕ → List ℕ → Type 0
HasPart text part = (front : List ℕ) × (rest : List ℕ) × (text ≡ front ++ (part ++ rest))

-- out is the text with each occurrence of the part replaced by another
abbrev pub IsReplaced : List ℕ → Bor (List ℕ) → List ℕ → List ℕ → Type 0
IsReplaced text part other out = (n : ℕ) × ReplacesMatches (λ p. FindsText p.now) (λ p q. q.now ≡ p.now) other n part text out

-- A call that makes a text of given length from one that has n bytes: it succeeds if the limit
-- allows it, and otherwise gives the error. An allocation may fail before that is known.
abbrev pub IsMadeText : {A : Type 0} → Limits → ℕ → ℕ → Result A EvalAltResult → Type 0
IsMadeText l n made (Ok x) = may_grow l.text n (made - n) ≡ true
IsMadeText l n made (Err (ErrorDataTooLarge k p)) = (may_grow l.text n (made - n) ≡ false) × (k ≡ size.Text) × (p ≡ no_place)
IsMadeText l n made (Err (ErrorMemory e)) = Unit {0}
IsMadeText l n made (Err (ErrorMismatchDataType wanted found p)) = ⊥
IsMadeText l n made (Err (ErrorDataRace p)) = ⊥
IsMadeText l n made (Err (ErrorArithmetic f p)) = ⊥

-- why no text is made from one that has n bytes: the result has more bytes than the limit allows,
-- or an allocation failed
abbrev pub IsRefusedText : Limits → ℕ → (List ℕ → Type 0) → EvalAltResult → Type 0
IsRefusedText l n Makes (ErrorDataTooLarge k p) = (made : List ℕ) × Makes made × (may_grow l.text n (length made - n) ≡ false) × (k ≡ size.Text) × (p ≡ no_place)
IsRefusedText l n Makes (ErrorMemory e) = Unit {0}
IsRefusedText l n Makes (ErrorMismatchDataType wanted found p) = ⊥
IsRefusedText l n Makes (ErrorDataRace p) = ⊥
IsRefusedText l n Makes (ErrorArithmetic f p) = ⊥

-- the number of characters before the first occurrence of the part, if there is one
abbrev pub IsFoundAt : List ℕ → List ℕ → Option ℕ → Type 0
IsFoundAt text part None = FindsText part text None
IsFoundAt text part (Some k) = (i : ℕ) × (j : ℕ) × FindsText part text (Some (i, j)) × (k ≡ length (chars (take i text)))

-- The number of characters before the first occurrence of the part that begins at character k or
-- behind it. There is none if the text has no character k.
abbrev pub IsFoundFrom : List ℕ → List ℕ → ℕ → Option ℕ → Type 0
IsFoundFrom text part k r =
    ((length text ≤ k) × (r ≡ None))
    ⊎ ((k < length text) × ((found : Option ℕ) × IsFoundAt (encode_utf8_all (drop k text)) part found × (r ≡ option_map (λ n. k + n) found)))

-- the character of a list that has one, and otherwise another
abbrev pub only_or : ℕ → List ℕ → ℕ
only_or other [] = other
only_or other (c ∷ []) = c
only_or other (c ∷ d ∷ ds) = other
