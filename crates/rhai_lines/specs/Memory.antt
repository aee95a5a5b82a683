-- The lines for which reading allocates.
use Rattle.std.specs.Prelude.{◌≡◌, ℕ, Bool, true, false, ◌||◌, List, [], ◌∷◌, Option, Some, None, is_some}
use Rattle.rhai_run.specs.declared.command.Place.{Place}
use Rattle.rhai_run.specs.declared.command.Place.TheVariants as place
use Rattle.rhai_lines.specs.Words.{Left, word_of, left_of, name_of}
use Rattle.rhai_lines.specs.Vocabulary.{Word, a_truth, a_position, a_bit, an_int, a_tag, a_kind, a_token, a_question, a_scanner, a_host, a_place, a_name, reads}
use Rattle.rhai_lines.specs.Arguments.{Arguments, of_no_verb, none, one, before, names, flagged_names, an_alias, a_text, a_blob, a_char, flagged_of, is_hex}
use Rattle.rhai_lines.specs.Verbs.{verbs, form_in}

abbrev pub names_entry : Place → Bool
names_entry (place.Hand i) = false
names_entry (place.Entry name) = true

-- Whether the value of a word needs an allocation: for a name, and a place that is one.
unfoldable pub takes_for : {A : Type 0} → Word A → A → Bool
takes_for a_truth b = false
takes_for a_position n = false
takes_for a_bit n = false
takes_for an_int z = false
takes_for a_tag z = false
takes_for a_kind k = false
takes_for a_token t = false
takes_for a_question q = false
takes_for a_scanner s = false
takes_for a_host h = false
takes_for a_place p = names_entry p
takes_for a_name name = true

-- whether something holds of a value read, and the rest after it: false if there is none
abbrev pub holds : {A : Type 0} → Option (A × Left) → (A → Left → Bool) → Bool
holds None test = false
holds (Some p) test = test p.0 p.1

-- whether the first word left has a value
abbrev pub first_says : {A : Type 0} → (List ℕ → Option A) → Left → Bool
first_says says None = false
first_says says (Some text) = is_some (says (word_of text))

-- Whether reading the arguments allocates: for a word with such a value, before the rest after it
-- is read; for a list from the first name on; for a text and a missing alias always; and for a blob
-- that has digits.
unfoldable pub takes : {A : Type 0} → Arguments A → Left → Bool
takes of_no_verb left = false
takes none left = false
takes (one word) left = holds (reads word left) (λ a rest. takes_for word a)
takes (before word more) left = holds (reads word left) (λ a rest. takes_for word a || takes more rest)
takes names left = first_says name_of left
takes flagged_names left = first_says flagged_of left
takes an_alias None = true
takes an_alias (Some text) = holds (reads a_name (Some text)) (λ a rest. takes_for a_name a)
takes a_text left = true
takes a_blob None = false
takes a_blob (Some digits) = is_hex digits
takes a_char left = false

-- the same for the rest after a verb
unfoldable pub takes_by : List ℕ → Left → Bool
takes_by [] left = false
takes_by (b ∷ bs) left = takes (form_in verbs (b ∷ bs)).arguments left

abbrev pub TakesMemory : List ℕ → Type 0
TakesMemory line = takes_by (word_of line) (left_of line) ≡ true
