-- The arguments of a verb: the meaning of the whole rest of the line after it.
use Rattle.std.specs.Prelude.{ℕ, ◌+◌, ◌*◌, ◌%◌, Bool, true, false, ◌&&◌, ◌==◌, nat_lt, if◌then◌else◌, List, [], ◌∷◌, length, Option, Some, None, option_map, option_and_then}
use Rattle.std.specs.List.{list_all}
use Rattle.std.specs.Char.{is_ascii_hexdigit, digit_value}
use Rattle.std.specs.Str.{chars}
use Rattle.rhai_lines.specs.Words.{Left, words_of, and_then, name_of}
use Rattle.rhai_lines.specs.Vocabulary.{Word, reads, a_name}

-- nothing is left: the value is this one
abbrev pub last : {A : Type 0} → A → Left → Option A
last a None = Some a
last a (Some text) = None

-- the values of the words of a list, if each has one
abbrev pub each_of : {A : Type 0} → (List ℕ → Option A) → List (List ℕ) → Option (List A)
each_of says [] = Some []
each_of says (word ∷ words) = option_and_then (λ a. option_map (λ more. a ∷ more) (each_of says words)) (says word)

-- a name, flagged if an exclamation mark (33) precedes it
abbrev pub flagged_of : List ℕ → Option (List ℕ × Bool)
flagged_of [] = None
flagged_of (b ∷ bs) = if b == 33 then option_map (λ name. (name, true)) (name_of bs) else option_map (λ name. (name, false)) (name_of (b ∷ bs))

-- the remaining characters: none if nothing is left
abbrev pub text_left : Left → List ℕ
text_left None = []
text_left (Some text) = chars text

-- the only character of a text
abbrev pub only : List ℕ → Option ℕ
only [] = None
only (c ∷ []) = Some c
only (c ∷ d ∷ cs) = None

-- hexadecimal digits in either case, two a byte, the high one first
abbrev pub bytes_of_pairs : List ℕ → List ℕ
bytes_of_pairs [] = []
bytes_of_pairs (digit ∷ []) = []
bytes_of_pairs (high ∷ low ∷ digits) = (digit_value high * 16 + digit_value low) ∷ bytes_of_pairs digits

abbrev pub is_hex : List ℕ → Bool
is_hex digits = nat_lt 0 (length digits) && length digits % 2 == 0 && list_all is_ascii_hexdigit digits

-- The arguments of a verb, by their values: those of no verb, none, one word and more; and
-- arguments that extend to the end of the line.
pub data Arguments : Type 0 → Type 1 where
  of_no_verb : Arguments ⊥
  none : Arguments (Unit {0})
  one : {A : Type 0} → Word A → Arguments A
  before : {A B : Type 0} → Word A → Arguments B → Arguments (A × B)
  names : Arguments (List (List ℕ))
  flagged_names : Arguments (List (List ℕ × Bool))
  an_alias a_text a_blob : Arguments (List ℕ)
  a_char : Arguments ℕ

-- The values of the whole rest of the line; a missing alias is the empty one.
unfoldable pub says : {A : Type 0} → Arguments A → Left → Option A
says of_no_verb left = None
says none left = last tt left
says (one word) left = and_then (reads word left) last
says (before word more) left = and_then (reads word left) (λ a rest. option_map (λ b. (a, b)) (says more rest))
says names left = each_of name_of (words_of left)
says flagged_names left = each_of flagged_of (words_of left)
says an_alias None = Some []
says an_alias (Some text) = and_then (reads a_name (Some text)) last
says a_text left = Some (text_left left)
says a_blob None = Some []
says a_blob (Some digits) = if is_hex digits then Some (bytes_of_pairs digits) else None
says a_char left = only (text_left left)
