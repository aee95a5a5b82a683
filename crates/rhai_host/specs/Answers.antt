-- How an answer is reported in numbers.
use Rattle.std.specs.Prelude.{ℕ, ℤ, ◌%◌, ◌/◌, ◌^◌, Bool, true, false, length, encode_utf8_all}
use Rattle.std.specs.Int.{cast_unsigned, w128}
use Rattle.rhai_text.specs.declared.error.ArithmeticFault.{ArithmeticFault}
use Rattle.rhai_text.specs.declared.error.ArithmeticFault.TheVariants as arithmetic
use Rattle.rhai_text.specs.declared.error.EvalAltResult.{EvalAltResult}
use Rattle.rhai_text.specs.declared.error.EvalAltResult.TheVariants as error
use Rattle.rhai_text.specs.declared.error.SizeKind.{SizeKind}
use Rattle.rhai_text.specs.declared.error.SizeKind.TheVariants as size
use Rattle.rhai_run.specs.declared.answer.Answer.{Answer}
use Rattle.rhai_run.specs.declared.answer.Answer.TheVariants as answer
use Rattle.rhai_run.specs.declared.answer.Refusal.{Refusal}
use Rattle.rhai_run.specs.declared.answer.Refusal.TheVariants as refusal
use Rattle.rhai_host.specs.declared.told.Told.{Told}

-- the report: the kind of the answer, the number of the reason, and two words
abbrev pub in_numbers : ℕ → ℕ → ℕ → ℕ → Told
in_numbers kind reason low high = record { kind = kind; reason = reason; low = low; high = high }

-- a boolean as a number
abbrev pub bit : Bool → ℕ
bit false = 0
bit true = 1

-- the lower and the upper 64 bits of a 128-bit number in two's complement
abbrev pub low_word : ℤ → ℕ
low_word n = cast_unsigned w128 n % 2 ^ 64

abbrev pub high_word : ℤ → ℕ
high_word n = cast_unsigned w128 n / 2 ^ 64

-- the numbers of the arithmetic faults
abbrev pub arithmetic_number : ArithmeticFault → ℕ
arithmetic_number arithmetic.Overflow = 0
arithmetic_number arithmetic.DivisionByZero = 1
arithmetic_number arithmetic.NegativePower = 2
arithmetic_number arithmetic.PowerTooLarge = 3

-- the numbers of the sizes that have a limit
abbrev pub size_number : SizeKind → ℕ
size_number size.Text = 0
size_number size.Items = 1

-- an error: its number, which one of its kind, or the lengths of the names of the expected and the
-- actual type
abbrev pub told_fault : EvalAltResult → Told
told_fault (error.ErrorMismatchDataType wanted found at) = in_numbers 7 13 (length wanted) (length found)
told_fault (error.ErrorDataRace at) = in_numbers 7 14 0 0
told_fault (error.ErrorArithmetic why at) = in_numbers 7 15 (arithmetic_number why) 0
told_fault (error.ErrorDataTooLarge what at) = in_numbers 7 16 (size_number what) 0
told_fault (error.ErrorMemory e) = in_numbers 7 17 0 0

-- a refusal: its number, and the length of the name of the held type
abbrev pub told_refusal : Refusal → Told
told_refusal refusal.NoValue = in_numbers 7 0 0 0
told_refusal refusal.SameValue = in_numbers 7 1 0 0
told_refusal refusal.NoEntry = in_numbers 7 2 0 0
told_refusal refusal.EmptyScope = in_numbers 7 3 0 0
told_refusal refusal.ConstantEntry = in_numbers 7 4 0 0
told_refusal refusal.SharedEntry = in_numbers 7 5 0 0
told_refusal refusal.NoMark = in_numbers 7 6 0 0
told_refusal refusal.WrongSource = in_numbers 7 7 0 0
told_refusal refusal.BitPlace = in_numbers 7 8 0 0
told_refusal refusal.BytePlace = in_numbers 7 9 0 0
told_refusal refusal.NoBuiltin = in_numbers 7 10 0 0
told_refusal refusal.NotHashable = in_numbers 7 11 0 0
told_refusal (refusal.Mismatch name) = in_numbers 7 12 (length name) 0
told_refusal (refusal.Fault e) = told_fault e

-- an answer: its kind, and a boolean, the two words of a number, the length in bytes of a text or
-- of bytes, or two numbers
abbrev pub told_of : Answer → Told
told_of answer.Done = in_numbers 0 0 0 0
told_of (answer.Bool b) = in_numbers 1 0 (bit b) 0
told_of (answer.Int n) = in_numbers 2 0 (low_word n) (high_word n)
told_of (answer.Text t) = in_numbers 3 0 (length (encode_utf8_all t)) 0
told_of (answer.Bytes b) = in_numbers 4 0 (length b) 0
told_of (answer.Pair m n) = in_numbers 5 0 m n
told_of answer.Nothing = in_numbers 6 0 0 0
told_of (answer.Refused why) = told_refusal why

-- what is kept after an answer: a text, bytes and a refusal replace what was kept before; other
-- answers leave it
abbrev pub kept_answer : Answer → Answer → Answer
kept_answer last answer.Done = last
kept_answer last (answer.Bool b) = last
kept_answer last (answer.Int n) = last
kept_answer last (answer.Text t) = answer.Text t
kept_answer last (answer.Bytes b) = answer.Bytes b
kept_answer last (answer.Pair m n) = last
kept_answer last answer.Nothing = last
kept_answer last (answer.Refused why) = answer.Refused why
