-- The written form of a command: its verb, and the words of its values.
use Rattle.std.specs.Prelude.{◌≡◌, ℕ, ℤ, Bool, not, ◌&&◌, nat_eq, nat_lt, if◌then◌else◌, List, [], ◌∷◌, ◌++◌, flat_map, encode_utf8_all, Option, Some, None, option_map, option_and_then, codes}
use Rattle.std.specs.List.{list_all, list_any}
use Rattle.std.specs.Fmt.{decimal, signed_decimal}
use Rattle.std.proofs.Math.Utf8.{scalars}
use denote.Enum.Bare.{sameb}
use Rattle.rhai_text.specs.contracts.token.Token as token
use Rattle.rhai_text.specs.declared.token.Token.{Token}
use Rattle.rhai_value.specs.Types.{is_type}
use Rattle.rhai_value.specs.declared.value.host.Host.{Host}
use Rattle.rhai_value.specs.declared.value.host.Host.TheVariants as host
use Rattle.rhai_run.specs.declared.command.Command.{Command}
use Rattle.rhai_run.specs.declared.command.Question.{Question}
use Rattle.rhai_run.specs.declared.command.Question.TheVariants as question
use Rattle.rhai_run.specs.declared.command.Scanner.{Scanner}
use Rattle.rhai_run.specs.declared.command.Scanner.TheVariants.{Tags, Zero, NoShare, Cut}
use Rattle.rhai_run.specs.declared.command.Place.{Place}
use Rattle.rhai_run.specs.declared.command.Place.TheVariants as place
use Rattle.rhai_lines.specs.Words.{Left, name_of}
use Rattle.rhai_lines.specs.Numbers.{below, as_signed}
use Rattle.rhai_lines.specs.Vocabulary.{Word, a_truth, a_position, a_bit, an_int, a_tag, a_kind, a_token, a_question, a_scanner, a_host, a_place, a_name, kinds, operators}
use Rattle.rhai_show.specs.Leaves.{hex_digits}
use Rattle.rhai_lines.specs.Arguments.{Arguments, of_no_verb, none, one, before, names, flagged_names, an_alias, a_text, a_blob, a_char}
use Rattle.rhai_lines.specs.Verbs.{form_of}

-- the bytes of the rest, with the space (32) before it
abbrev pub behind : Left → List ℕ
behind None = []
behind (Some text) = 32 ∷ text

-- the name of a value in a table: that in the first row with the value
abbrev pub called : {A : Type 0} → (A → A → Bool) → List (List ℕ × A) → A → Option (List ℕ)
called same [] a = None
called same (row ∷ rows) a = if same a row.1 then Some row.0 else called same rows a

abbrev pub is_token : Token → Token → Bool
is_token s t = sameb token.the_type s t

-- a number of at most that many bits, as a word: its decimal digits, preceded by a minus if it is negative
abbrev pub unsigned_word : ℕ → ℕ → Option (List ℕ)
unsigned_word bits n = option_map decimal (below bits n)

abbrev pub signed_word : ℕ → ℤ → Option (List ℕ)
signed_word bits z = option_map signed_decimal (as_signed bits z)

-- a word, and the words of one more value after it
abbrev pub with_word : List ℕ → Option (List ℕ) → Option (List ℕ)
with_word word more = option_map (λ w. word ++ 32 ∷ w) more

abbrev pub question_words : Question → Option (List ℕ)
question_words question.Tag = Some (codes "tag")
question_words question.Variant = Some (codes "variant")
question_words question.Shared = Some (codes "shared")
question_words question.ReadOnly = Some (codes "readonly")
question_words question.Locked = Some (codes "locked")
question_words question.TypeName = Some (codes "type")
question_words (question.Held k) = with_word (codes "held") (called is_type kinds k)
question_words question.Hashable = Some (codes "hashable")
question_words (question.Is k) = with_word (codes "is") (called is_type kinds k)
question_words question.Unit = Some (codes "unit")
question_words question.Int = Some (codes "int")
question_words question.Bool = Some (codes "bool")
question_words question.Char = Some (codes "char")

abbrev pub scanner_words : Scanner → Option (List ℕ)
scanner_words (Tags t) = with_word (codes "tags") (signed_word 31 t)
scanner_words Zero = Some (codes "zero")
scanner_words NoShare = Some (codes "noshare")
scanner_words (Cut n) = with_word (codes "cut") (unsigned_word 64 n)

abbrev pub host_words : Host → Option (List ℕ)
host_words (host.U8 n) = with_word (codes "u8") (unsigned_word 8 n)
host_words (host.U16 n) = with_word (codes "u16") (unsigned_word 16 n)
host_words (host.U32 n) = with_word (codes "u32") (unsigned_word 32 n)
host_words (host.U64 n) = with_word (codes "u64") (unsigned_word 64 n)
host_words (host.U128 n) = with_word (codes "u128") (unsigned_word 128 n)
host_words (host.I8 n) = with_word (codes "i8") (signed_word 7 n)
host_words (host.I16 n) = with_word (codes "i16") (signed_word 15 n)
host_words (host.I32 n) = with_word (codes "i32") (signed_word 31 n)
host_words (host.I128 n) = with_word (codes "i128") (signed_word 127 n)
host_words (host.ExclusiveRange r) = None
host_words (host.InclusiveRange r) = None

abbrev pub place_word : Place → Option (List ℕ)
place_word (place.Hand i) = unsigned_word 64 i
place_word (place.Entry name) = option_map (λ n. 64 ∷ n) (name_of name)

-- The words of a value of a kind, if there are any.
unfoldable pub spells : {A : Type 0} → Word A → A → Option (List ℕ)
spells a_truth b = Some (if b then codes "true" else codes "false")
spells a_position n = unsigned_word 64 n
spells a_bit n = unsigned_word 8 n
spells an_int z = signed_word 63 z
spells a_tag z = signed_word 31 z
spells a_kind k = called is_type kinds k
spells a_token t = called is_token operators t
spells a_question q = question_words q
spells a_scanner s = scanner_words s
spells a_host h = host_words h
spells a_place p = place_word p
spells a_name name = name_of name

-- the words of a value, and the rest after them
abbrev pub joined : Option (List ℕ) → Option Left → Option Left
joined words rest = option_and_then (λ w. option_map (λ left. Some (w ++ behind left)) rest) words

-- a word for each item of a list
abbrev pub words_for : {A : Type 0} → (A → Option (List ℕ)) → List A → Option Left
words_for spelled [] = Some None
words_for spelled (a ∷ more) = joined (spelled a) (words_for spelled more)

abbrev pub flagged_word : List ℕ × Bool → Option (List ℕ)
flagged_word p = option_map (λ name. if p.1 then 33 ∷ name else name) (name_of p.0)

-- characters as the rest of a line: none if they include a line feed (10), or a number that isn't a character
abbrev pub has_feed : List ℕ → Bool
has_feed bytes = list_any (λ b. nat_eq b 10) bytes

abbrev pub text_words : List ℕ → Option Left
text_words [] = Some None
text_words (c ∷ cs) = if scalars (c ∷ cs) && not (has_feed (encode_utf8_all (c ∷ cs))) then Some (Some (encode_utf8_all (c ∷ cs))) else None

abbrev pub blob_words : List ℕ → Option Left
blob_words [] = Some None
blob_words (b ∷ bs) = if list_all (λ x. nat_lt x 256) (b ∷ bs) then Some (Some (flat_map hex_digits (b ∷ bs))) else None

-- The rest of a line for the values of a verb's arguments, if they can be written.
unfoldable pub writes : {A : Type 0} → Arguments A → A → Option Left
writes of_no_verb a = None
writes none u = Some None
writes (one word) a = option_map Some (spells word a)
writes (before word more) p = joined (spells word p.0) (writes more p.1)
writes names entries = words_for name_of entries
writes flagged_names entries = words_for flagged_word entries
writes an_alias [] = Some None
writes an_alias (c ∷ cs) = option_map Some (spells a_name (c ∷ cs))
writes a_text t = text_words t
writes a_blob bytes = blob_words bytes
writes a_char c = text_words (c ∷ [])

-- a verb, and the rest for values after it
unfoldable pub spoken : {A : Type 0} → List ℕ → Arguments A → A → Option (List ℕ)
spoken verb arguments a = option_map (λ left. verb ++ behind left) (writes arguments a)

-- The line of a command: the form of some verb makes the command from these values, and the line is
-- that verb and the words of the values. There is none if a value has no words: a name that isn't a
-- word of a line, a text with a line feed, or a host's range.
abbrev pub IsLineOf : Command → Option (List ℕ) → Type 0
IsLineOf c line = (verb : List ℕ) × (values : (form_of verb).Values) × ((form_of verb).make values ≡ c) × (line ≡ spoken verb (form_of verb).arguments values)

-- The journal of commands is their lines in order, each with a line feed (10): there is none if one
-- of them has no line.
abbrev pub IsFollowed : Option (List ℕ) → (Option (List ℕ) → Type 0) → Option (List ℕ) → Type 0
IsFollowed None IsMore journal = journal ≡ None
IsFollowed (Some line) IsMore journal = (more : Option (List ℕ)) × IsMore more × (journal ≡ option_map (λ m. line ++ 10 ∷ m) more)

abbrev pub IsJournalOf : List Command → Option (List ℕ) → Type 0
IsJournalOf [] journal = journal ≡ Some []
IsJournalOf (c ∷ cs) journal = (line : Option (List ℕ)) × IsLineOf c line × IsFollowed line (λ more. IsJournalOf cs more) journal
