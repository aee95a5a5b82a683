-- The verbs: the command of a verb and its arguments.
use Rattle.std.specs.Prelude.{ℕ, true, false, cond, if◌then◌else◌, List, [], ◌∷◌, Option, None, option_map, codes, bytes_eq}
use Rattle.std.specs.Str.{is_utf8}
use Rattle.rhai_run.specs.declared.command.Command.{Command}
use Rattle.rhai_run.specs.declared.command.Command.TheVariants.{Put, MakeArray, MakeMap, MakeFn, Copy, Take, Drop, Share, Flatten, FlattenClone, Cast, MakeReadOnly, SetTag, Ask, WriteInt, Write, Binary, Assign, Scan, Push, PushDynamic, PushConstant, SetEntry, SetOrPush, SetValue, Pop, Rewind, Clear, Len, IsEmpty, Contains, Search, IsConstant, Get, GetValue, GetRef, SetRef, Remove, SetAlias, Aliases, KeepVisible, CopyScope, Entries, Names as Listed, Extend, ExtendFlagged, ShowScope, HashScope, Mark, Unmark, WriteMarked, ReadMarked, WriteBit, WriteField, WriteByte, WriteChar, WriteSlice, Offset, Index, Show, Debug, Hash}
use Rattle.rhai_run.specs.declared.command.Literal.TheVariants.{Unit, Bool as Truth, Int, Char, Text, Blob, Host as Hosted, Range, RangeEq}
use Rattle.rhai_lines.specs.Words.{Left, word_of, left_of}
use Rattle.rhai_lines.specs.Vocabulary.{Word, a_truth, a_position, a_bit, an_int, a_tag, a_kind, a_token, a_question, a_scanner, a_host, a_place, a_name}
use Rattle.rhai_lines.specs.Arguments.{Arguments, of_no_verb, none, one, before, names, flagged_names, an_alias, a_text, a_blob, a_char, says}

-- The form of a line: the arguments of its verb, and the command made from their values.
pub record Form : Type 1 where
  pub Values : Type 0
  pub arguments : Arguments Values
  pub make : Values → Command

abbrev pub form : {A : Type 0} → Arguments A → (A → Command) → Form
form {A} arguments make = record { Values = A; arguments = arguments; make = make }

abbrev pub args0 : Command → Form
args0 c = form none (λ u. c)

abbrev pub args1 : {A : Type 0} → Word A → (A → Command) → Form
args1 first make = form (one first) make

abbrev pub args2 : {A B : Type 0} → Word A → Word B → (A → B → Command) → Form
args2 first second make = form (before first (one second)) (λ p. make p.0 p.1)

abbrev pub args3 : {A B C : Type 0} → Word A → Word B → Word C → (A → B → C → Command) → Form
args3 first second third make = form (before first (before second (one third))) (λ p. make p.0 p.1.0 p.1.1)

abbrev pub args4 : {A B C D : Type 0} → Word A → Word B → Word C → Word D → (A → B → C → D → Command) → Form
args4 first second third fourth make = form (before first (before second (before third (one fourth)))) (λ p. make p.0 p.1.0 p.1.1.0 p.1.1.1)

-- Each verb and its form. A command is read by its row and written by it.
abbrev pub verbs : List (List ℕ × Form)
verbs =
    (codes "unit", args0 (Put Unit))
    ∷ (codes "bool", args1 a_truth (λ b. Put (Truth b)))
    ∷ (codes "int", args1 an_int (λ n. Put (Int n)))
    ∷ (codes "host", args1 a_host (λ h. Put (Hosted h)))
    ∷ (codes "range", args2 an_int an_int (λ a b. Put (Range (record { start = a; end = b }))))
    ∷ (codes "rangeeq", args2 an_int an_int (λ a b. Put (RangeEq (record { start = a; end = b }))))
    ∷ (codes "char", form a_char (λ c. Put (Char c)))
    ∷ (codes "text", form a_text (λ t. Put (Text t)))
    ∷ (codes "blob", form a_blob (λ bytes. Put (Blob bytes)))
    ∷ (codes "array", args1 a_position MakeArray)
    ∷ (codes "map", form names MakeMap)
    ∷ (codes "fn", args2 a_name a_position MakeFn)
    ∷ (codes "copy", args1 a_position Copy)
    ∷ (codes "flatclone", args1 a_position FlattenClone)
    ∷ (codes "cast", args2 a_position a_kind Cast)
    ∷ (codes "take", args1 a_position Take)
    ∷ (codes "drop", args0 Drop)
    ∷ (codes "share", args1 a_position Share)
    ∷ (codes "flatten", args1 a_position Flatten)
    ∷ (codes "readonly", args1 a_position MakeReadOnly)
    ∷ (codes "tag", args2 a_position a_tag SetTag)
    ∷ (codes "write", args2 a_position an_int WriteInt)
    ∷ (codes "store", args2 a_position a_position Write)
    ∷ (codes "scan", args2 a_position a_scanner Scan)
    ∷ (codes "ask", args2 a_position a_question Ask)
    ∷ (codes "show", args1 a_position Show)
    ∷ (codes "debug", args1 a_position Debug)
    ∷ (codes "hash", args1 a_position Hash)
    ∷ (codes "op", args3 a_position a_token a_position (λ i op j. Binary op i j))
    ∷ (codes "push", args2 a_name a_position Push)
    ∷ (codes "pushdyn", args2 a_name a_position PushDynamic)
    ∷ (codes "pushconst", args2 a_name a_position PushConstant)
    ∷ (codes "set", args2 a_name a_position SetEntry)
    ∷ (codes "setorpush", args2 a_name a_position SetOrPush)
    ∷ (codes "setvalue", args2 a_name a_position SetValue)
    ∷ (codes "pop", args0 Pop)
    ∷ (codes "rewind", args1 a_position Rewind)
    ∷ (codes "clear", args0 Clear)
    ∷ (codes "visible", args0 KeepVisible)
    ∷ (codes "copyscope", args0 CopyScope)
    ∷ (codes "len", args0 Len)
    ∷ (codes "empty", args0 IsEmpty)
    ∷ (codes "iter", args0 Entries)
    ∷ (codes "names", args0 Listed)
    ∷ (codes "showscope", args0 ShowScope)
    ∷ (codes "hashscope", args0 HashScope)
    ∷ (codes "contains", args1 a_name Contains)
    ∷ (codes "search", args1 a_name Search)
    ∷ (codes "constant", args1 a_name IsConstant)
    ∷ (codes "extend", form names Extend)
    ∷ (codes "extendflagged", form flagged_names ExtendFlagged)
    ∷ (codes "get", args1 a_name Get)
    ∷ (codes "aliases", args1 a_name Aliases)
    ∷ (codes "alias", form (before a_name an_alias) (λ p. SetAlias p.0 p.1))
    ∷ (codes "value", args2 a_name a_kind GetValue)
    ∷ (codes "ref", args2 a_name a_kind GetRef)
    ∷ (codes "remove", args2 a_name a_kind Remove)
    ∷ (codes "refint", args2 a_name an_int SetRef)
    ∷ (codes "mark", args1 a_place Mark)
    ∷ (codes "unmark", args1 a_position Unmark)
    ∷ (codes "writemarked", args2 a_position a_position WriteMarked)
    ∷ (codes "readmarked", args1 a_position ReadMarked)
    ∷ (codes "offset", args3 a_position an_int an_int Offset)
    ∷ (codes "index", args3 a_position an_int a_truth Index)
    ∷ (codes "bit", args3 a_place a_bit a_position WriteBit)
    ∷ (codes "field", args4 a_place an_int a_bit a_position WriteField)
    ∷ (codes "byte", args3 a_place a_position a_position WriteByte)
    ∷ (codes "charat", args3 a_place a_position a_position WriteChar)
    ∷ (codes "slice", args4 a_place a_position a_position a_position (λ p a b j. WriteSlice p a b true j))
    ∷ (codes "sliceeq", args4 a_place a_position a_position a_position (λ p a b j. WriteSlice p a b false j))
    ∷ (codes "assign", args3 a_place a_token a_position (λ p op j. Assign op p j))
    ∷ []

-- the form of a verb: the first row of that name
abbrev pub form_in : List (List ℕ × Form) → List ℕ → Form
form_in [] verb = form of_no_verb (elim [ ])
form_in (row ∷ rows) verb = cond (bytes_eq verb row.0) row.1 (form_in rows verb)

unfoldable pub form_of : List ℕ → Form
form_of [] = form of_no_verb (elim [ ])
form_of (b ∷ bs) = form_in verbs (b ∷ bs)

-- the command given by a form, and by a verb, with the rest of the line
abbrev pub said : Form → Left → Option Command
said form left = option_map form.make (says form.arguments left)

unfoldable pub said_by : List ℕ → Left → Option Command
said_by [] left = None
said_by (b ∷ bs) left = said (form_in verbs (b ∷ bs)) left

-- the command of a line, if it has one; a line that isn't a text has none
abbrev pub command_of : List ℕ → Option Command
command_of line = if is_utf8 line then said_by (word_of line) (left_of line) else None
