-- The meaning of numbers that a host passes.
use Rattle.std.specs.Prelude.{ℕ, ℤ, ◌+◌, ◌*◌, ◌^◌, List, [], ◌∷◌, nat_lt, slice_get, Option, None, Some, if◌then◌else◌}
use Rattle.std.specs.Int.{cast_signed, w128}
use Rattle.std.specs.Str.{chars, is_utf8}
use Rattle.rhai_text.specs.declared.token.Token.{Token}
use Rattle.rhai_text.specs.declared.token.Token.TheVariants as op
use Rattle.rhai_value.specs.declared.value.type_id.TypeId.{TypeId}
use Rattle.rhai_value.specs.declared.value.type_id.TypeId.TheVariants as id

-- the types, in the order of their numbers
abbrev pub types : List TypeId
types = id.Unit ∷ id.Bool ∷ id.Char ∷ id.Int ∷ id.U8 ∷ id.U16 ∷ id.U32 ∷ id.U64 ∷ id.U128 ∷ id.I8 ∷ id.I16 ∷ id.I32 ∷ id.I128 ∷ id.String
    ∷ id.ImmutableString ∷ id.Array ∷ id.Blob ∷ id.Map ∷ id.FnPtr ∷ id.ExclusiveRange ∷ id.InclusiveRange ∷ id.Dynamic ∷ id.Shared ∷ []

-- the type of a number, if it has one
abbrev pub type_of : ℕ → Option TypeId
type_of number = slice_get types number

-- the operators, in the order of their numbers
abbrev pub operators : List Token
operators = op.Plus ∷ op.Minus ∷ op.Multiply ∷ op.Divide ∷ op.Modulo ∷ op.PowerOf ∷ op.RightShift ∷ op.LeftShift ∷ op.Ampersand ∷ op.Pipe ∷ op.XOr
    ∷ op.EqualsTo ∷ op.NotEqualsTo ∷ op.GreaterThan ∷ op.GreaterThanEqualsTo ∷ op.LessThan ∷ op.LessThanEqualsTo ∷ op.ExclusiveRange ∷ op.InclusiveRange
    ∷ op.Equals ∷ op.PlusAssign ∷ op.MinusAssign ∷ op.MultiplyAssign ∷ op.DivideAssign ∷ op.ModuloAssign ∷ op.PowerOfAssign ∷ op.RightShiftAssign
    ∷ op.LeftShiftAssign ∷ op.AndAssign ∷ op.OrAssign ∷ op.XOrAssign ∷ []

-- the operator of a number, if it has one
abbrev pub operator_of : ℕ → Option Token
operator_of number = slice_get operators number

-- the characters of bytes, if they are UTF-8
abbrev pub text_of : List ℕ → Option (List ℕ)
text_of bytes = if is_utf8 bytes then Some (chars bytes) else None

-- a number of 128 bits from its lower and its upper 64, unsigned and signed
abbrev pub wide : ℕ → ℕ → ℕ
wide low high = low + 2 ^ 64 * high

abbrev pub wide_signed : ℕ → ℕ → ℤ
wide_signed low high = cast_signed w128 (wide low high)

-- the character with a code, if there is one
abbrev pub char_of : ℕ → Option ℕ
char_of code = if nat_lt code 55296 then Some code else if nat_lt code 57344 then None else if nat_lt code 1114112 then Some code else None
