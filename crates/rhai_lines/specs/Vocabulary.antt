-- The words of a line: the values of each kind of word.
use Rattle.std.specs.Prelude.{ℕ, ℤ, Bool, ◌==◌, List, [], ◌∷◌, Option, Some, None, option_map, codes, bytes_eq, if◌then◌else◌}
use Rattle.rhai_text.specs.declared.token.Token.{Token}
use Rattle.rhai_text.specs.declared.token.Token.TheVariants.{Plus, Minus, Multiply, Divide, Modulo, PowerOf, RightShift, LeftShift, Ampersand, Pipe, XOr, EqualsTo, NotEqualsTo, GreaterThan, GreaterThanEqualsTo, LessThan, LessThanEqualsTo, ExclusiveRange, InclusiveRange, Equals, PlusAssign, MinusAssign, MultiplyAssign, DivideAssign, ModuloAssign, PowerOfAssign, RightShiftAssign, LeftShiftAssign, AndAssign, OrAssign, XOrAssign}
use Rattle.rhai_value.specs.declared.value.type_id.TypeId.{TypeId}
use Rattle.rhai_value.specs.declared.value.type_id.TypeId.TheVariants as kind
use Rattle.rhai_run.specs.declared.command.Question.{Question}
use Rattle.rhai_run.specs.declared.command.Question.TheVariants as question
use Rattle.rhai_run.specs.declared.command.Scanner.{Scanner}
use Rattle.rhai_run.specs.declared.command.Scanner.TheVariants.{Tags, Zero, NoShare, Cut}
use Rattle.rhai_run.specs.declared.command.Place.{Place}
use Rattle.rhai_run.specs.declared.command.Place.TheVariants as place
use Rattle.rhai_value.specs.declared.value.host.Host.{Host}
use Rattle.rhai_value.specs.declared.value.host.Host.TheVariants as host
use Rattle.rhai_lines.specs.Words.{Left, next_word, and_then, named, name_of, truths}
use Rattle.rhai_lines.specs.Numbers.{unsigned_of, signed_of}

-- the names of types
unfoldable pub kinds : List (List ℕ × TypeId)
kinds =
    (codes "()", kind.Unit)
    ∷ (codes "bool", kind.Bool)
    ∷ (codes "char", kind.Char)
    ∷ (codes "i64", kind.Int)
    ∷ (codes "u8", kind.U8)
    ∷ (codes "u16", kind.U16)
    ∷ (codes "u32", kind.U32)
    ∷ (codes "u64", kind.U64)
    ∷ (codes "u128", kind.U128)
    ∷ (codes "i8", kind.I8)
    ∷ (codes "i16", kind.I16)
    ∷ (codes "i32", kind.I32)
    ∷ (codes "i128", kind.I128)
    ∷ (codes "String", kind.String)
    ∷ (codes "string", kind.ImmutableString)
    ∷ (codes "array", kind.Array)
    ∷ (codes "blob", kind.Blob)
    ∷ (codes "map", kind.Map)
    ∷ (codes "Fn", kind.FnPtr)
    ∷ (codes "range", kind.ExclusiveRange)
    ∷ (codes "rangeeq", kind.InclusiveRange)
    ∷ (codes "Dynamic", kind.Dynamic)
    ∷ (codes "<shared>", kind.Shared)
    ∷ []

-- the binary operators, and the assignments
unfoldable pub operators : List (List ℕ × Token)
operators =
    (codes "+", Plus)
    ∷ (codes "-", Minus)
    ∷ (codes "*", Multiply)
    ∷ (codes "/", Divide)
    ∷ (codes "%", Modulo)
    ∷ (codes "**", PowerOf)
    ∷ (codes ">>", RightShift)
    ∷ (codes "<<", LeftShift)
    ∷ (codes "&", Ampersand)
    ∷ (codes "|", Pipe)
    ∷ (codes "^", XOr)
    ∷ (codes "==", EqualsTo)
    ∷ (codes "!=", NotEqualsTo)
    ∷ (codes ">", GreaterThan)
    ∷ (codes ">=", GreaterThanEqualsTo)
    ∷ (codes "<", LessThan)
    ∷ (codes "<=", LessThanEqualsTo)
    ∷ (codes "..", ExclusiveRange)
    ∷ (codes "..=", InclusiveRange)
    ∷ (codes "=", Equals)
    ∷ (codes "+=", PlusAssign)
    ∷ (codes "-=", MinusAssign)
    ∷ (codes "*=", MultiplyAssign)
    ∷ (codes "/=", DivideAssign)
    ∷ (codes "%=", ModuloAssign)
    ∷ (codes "**=", PowerOfAssign)
    ∷ (codes ">>=", RightShiftAssign)
    ∷ (codes "<<=", LeftShiftAssign)
    ∷ (codes "&=", AndAssign)
    ∷ (codes "|=", OrAssign)
    ∷ (codes "^=", XOrAssign)
    ∷ []

-- the questions of one word; two others are followed by a type
abbrev pub plain_questions : List (List ℕ × Question)
plain_questions =
    (codes "tag", question.Tag)
    ∷ (codes "variant", question.Variant)
    ∷ (codes "shared", question.Shared)
    ∷ (codes "readonly", question.ReadOnly)
    ∷ (codes "locked", question.Locked)
    ∷ (codes "type", question.TypeName)
    ∷ (codes "hashable", question.Hashable)
    ∷ (codes "unit", question.Unit)
    ∷ (codes "int", question.Int)
    ∷ (codes "bool", question.Bool)
    ∷ (codes "char", question.Char)
    ∷ []

abbrev pub question_by : List ℕ → Left → Option (Question × Left)
question_by word rest =
    if bytes_eq word (codes "is") then and_then (next_word (named kinds) rest) (λ k more. Some (question.Is k, more)) else
    if bytes_eq word (codes "held") then and_then (next_word (named kinds) rest) (λ k more. Some (question.Held k, more)) else
    option_map (λ q. (q, rest)) (named plain_questions word)

-- the scanners
abbrev pub scanner_by : List ℕ → Left → Option (Scanner × Left)
scanner_by word rest =
    if bytes_eq word (codes "tags") then and_then (next_word (signed_of 31) rest) (λ t more. Some (Tags t, more)) else
    if bytes_eq word (codes "zero") then Some (Zero, rest) else
    if bytes_eq word (codes "noshare") then Some (NoShare, rest) else
    if bytes_eq word (codes "cut") then and_then (next_word (unsigned_of 64) rest) (λ n more. Some (Cut n, more)) else
    None

-- a number of one of the host's types: the name of the type, and the number in its range
abbrev pub host_of : List ℕ → List ℕ → Option Host
host_of kind word =
    if bytes_eq kind (codes "u8") then option_map host.U8 (unsigned_of 8 word) else
    if bytes_eq kind (codes "u16") then option_map host.U16 (unsigned_of 16 word) else
    if bytes_eq kind (codes "u32") then option_map host.U32 (unsigned_of 32 word) else
    if bytes_eq kind (codes "u64") then option_map host.U64 (unsigned_of 64 word) else
    if bytes_eq kind (codes "u128") then option_map host.U128 (unsigned_of 128 word) else
    if bytes_eq kind (codes "i8") then option_map host.I8 (signed_of 7 word) else
    if bytes_eq kind (codes "i16") then option_map host.I16 (signed_of 15 word) else
    if bytes_eq kind (codes "i32") then option_map host.I32 (signed_of 31 word) else
    if bytes_eq kind (codes "i128") then option_map host.I128 (signed_of 127 word) else
    None

-- a place: a hand position, or the name of an entry after an at sign (64)
abbrev pub place_of : List ℕ → Option Place
place_of [] = None
place_of (b ∷ bs) = if b == 64 then option_map place.Entry (name_of bs) else option_map place.Hand (unsigned_of 64 (b ∷ bs))

-- The kinds of word, by their values.
pub data Word : Type 0 → Type 1 where
  a_truth : Word Bool
  a_position a_bit : Word ℕ
  an_int a_tag : Word ℤ
  a_kind : Word TypeId
  a_token : Word Token
  a_question : Word Question
  a_scanner : Word Scanner
  a_host : Word Host
  a_place : Word Place
  a_name : Word (List ℕ)

-- The value of a word of a kind, for some with the word after it, and the rest.
unfoldable pub reads : {A : Type 0} → Word A → Left → Option (A × Left)
reads a_truth left = next_word (named truths) left
reads a_position left = next_word (unsigned_of 64) left
reads a_bit left = next_word (unsigned_of 8) left
reads an_int left = next_word (signed_of 63) left
reads a_tag left = next_word (signed_of 31) left
reads a_kind left = next_word (named kinds) left
reads a_token left = next_word (named operators) left
reads a_question left = and_then (next_word (λ word. Some word) left) question_by
reads a_scanner left = and_then (next_word (λ word. Some word) left) scanner_by
reads a_host left = and_then (next_word (λ word. Some word) left) (λ kind. next_word (host_of kind))
reads a_place left = next_word place_of left
reads a_name left = next_word name_of left
