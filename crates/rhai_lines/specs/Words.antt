-- Splitting a line into words.
use Rattle.std.specs.Prelude.{ℕ, Bool, true, false, ◌&&◌, ◌||◌, ◌==◌, nat_lt, if◌then◌else◌, List, [], ◌∷◌, length, Option, Some, None, option_map, bytes_eq, codes}
use Rattle.std.specs.List.{list_all, slice_split, position_or_len, before_first, after_first}
use Rattle.std.specs.Char.{is_ascii_alphanumeric}

-- The rest of a line after its first words: nothing, or the text after a space (32).
abbrev pub Left : Type 0
Left = Option (List ℕ)

-- the first word of a text, and the rest after it
abbrev pub is_space : ℕ → Bool
is_space b = b == 32

abbrev pub word_of : List ℕ → List ℕ
word_of text = before_first is_space text

abbrev pub left_of : List ℕ → Left
left_of text = if nat_lt (position_or_len is_space text) (length text) then Some (after_first is_space text) else None

-- all remaining words
abbrev pub words_of : Left → List (List ℕ)
words_of None = []
words_of (Some text) = slice_split is_space text

-- the next word, if it has a value, and the rest after it
abbrev pub next_word : {A : Type 0} → (List ℕ → Option A) → Left → Option (A × Left)
next_word says None = None
next_word says (Some text) = option_map (λ a. (a, left_of text)) (says (word_of text))

-- the result of a value and the rest after it
abbrev pub and_then : {A B : Type 0} → Option (A × Left) → (A → Left → Option B) → Option B
and_then None go = None
and_then (Some p) go = go p.0 p.1

-- looks a word up in a table: the first row of that name
abbrev pub named : {A : Type 0} → List (List ℕ × A) → List ℕ → Option A
named [] word = None
named (row ∷ rows) word = if bytes_eq word row.0 then Some row.1 else named rows word

-- a name is one or more ASCII letters, digits and underscores (95), so its bytes are its characters
abbrev pub is_name_byte : ℕ → Bool
is_name_byte b = is_ascii_alphanumeric b || b == 95

abbrev pub is_name : List ℕ → Bool
is_name word = nat_lt 0 (length word) && list_all is_name_byte word

abbrev pub name_of : List ℕ → Option (List ℕ)
name_of word = if is_name word then Some word else None

-- a word as a boolean
abbrev pub truths : List (List ℕ × Bool)
truths = (codes "true", true) ∷ (codes "false", false) ∷ []
