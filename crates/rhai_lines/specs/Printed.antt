-- The printed form of an answer.
use Rattle.std.specs.Prelude.{ℕ, pos, List, ◌++◌, flat_map, if◌then◌else◌, codes, encode_utf8_all}
use Rattle.std.specs.Fmt.{signed_decimal}
use Rattle.rhai_show.specs.Leaves.{hex_digits}
use Rattle.rhai_text.specs.declared.error.ArithmeticFault.{ArithmeticFault}
use Rattle.rhai_text.specs.declared.error.ArithmeticFault.TheVariants.{Overflow, DivisionByZero, NegativePower, PowerTooLarge}
use Rattle.rhai_text.specs.declared.error.SizeKind.{SizeKind}
use Rattle.rhai_text.specs.declared.error.SizeKind.TheVariants.{Text, Items}
use Rattle.rhai_run.specs.declared.answer.Answer.{Answer}
use Rattle.rhai_run.specs.declared.answer.Refusal.{Refusal}
use Rattle.rhai_text.specs.declared.error.EvalAltResult.{EvalAltResult}
use Rattle.rhai_run.specs.declared.answer.Answer.TheVariants as answer
use Rattle.rhai_run.specs.declared.answer.Refusal.TheVariants.{NoValue, SameValue, NoEntry, EmptyScope, ConstantEntry, SharedEntry, NoMark, WrongSource, BitPlace, BytePlace, NoBuiltin, NotHashable, Mismatch, Fault}
use Rattle.rhai_text.specs.declared.error.EvalAltResult.TheVariants as error

-- why a calculation has no result, and which size is too large
abbrev pub arithmetic_text : ArithmeticFault → List ℕ
arithmetic_text Overflow = codes "Overflow"
arithmetic_text DivisionByZero = codes "DivisionByZero"
arithmetic_text NegativePower = codes "NegativePower"
arithmetic_text PowerTooLarge = codes "PowerTooLarge"

abbrev pub size_text : SizeKind → List ℕ
size_text Text = codes "Text"
size_text Items = codes "Items"

-- the error of a call: its name, followed by the expected and the actual type, the reason or the kind of size
abbrev pub fault_text : EvalAltResult → List ℕ
fault_text (error.ErrorMismatchDataType wanted found at) = codes "ErrorMismatchDataType " ++ wanted ++ codes " " ++ found
fault_text (error.ErrorDataRace at) = codes "ErrorDataRace"
fault_text (error.ErrorArithmetic why at) = codes "ErrorArithmetic " ++ arithmetic_text why
fault_text (error.ErrorDataTooLarge size at) = codes "ErrorDataTooLarge " ++ size_text size
fault_text (error.ErrorMemory e) = codes "ErrorMemory"

-- why a command was refused: the name of the refusal, for a mismatch followed by the held type; for a fault the error
abbrev pub reason_text : Refusal → List ℕ
reason_text NoValue = codes "NoValue"
reason_text SameValue = codes "SameValue"
reason_text NoEntry = codes "NoEntry"
reason_text EmptyScope = codes "EmptyScope"
reason_text ConstantEntry = codes "ConstantEntry"
reason_text SharedEntry = codes "SharedEntry"
reason_text NoMark = codes "NoMark"
reason_text WrongSource = codes "WrongSource"
reason_text BitPlace = codes "BitPlace"
reason_text BytePlace = codes "BytePlace"
reason_text NoBuiltin = codes "NoBuiltin"
reason_text NotHashable = codes "NotHashable"
reason_text (Mismatch name) = codes "Mismatch " ++ name
reason_text (Fault why) = fault_text why

-- an answer, as bytes
abbrev pub printed : Answer → List ℕ
printed answer.Done = codes "ok"
printed (answer.Bool b) = if b then codes "true" else codes "false"
printed (answer.Int n) = signed_decimal n
printed (answer.Text characters) = encode_utf8_all characters
printed (answer.Bytes bs) = flat_map hex_digits bs
printed (answer.Pair m n) = signed_decimal (pos m) ++ codes " " ++ signed_decimal (pos n)
printed answer.Nothing = codes "none"
printed (answer.Refused why) = codes "refused " ++ reason_text why
