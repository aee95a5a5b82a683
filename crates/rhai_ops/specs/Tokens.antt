-- The conditions on an operator in the lines of the tables.
use Rattle.std.specs.Prelude.{Bool, not, ◌&&◌, is_some, pos, false}
use Rattle.std.specs.declared.cmp.Ordering.TheVariants.{Equal}
use denote.Enum.Bare.{sameb}
use Rattle.rhai_text.specs.contracts.token.Token as token
use Rattle.rhai_text.specs.declared.token.Token.{Token}
use Rattle.rhai_text.specs.declared.token.Token.TheVariants as op
use Rattle.rhai_ops.specs.Numbers.{number, both_bits, compared}

-- whether it is this operator
abbrev pub is_token : Token → Token → Bool
is_token t u = sameb token.the_type t u

-- the eleven that give a number for any two ints: arithmetic, power, shifts and bits
abbrev pub is_number : Token → Bool
is_number t = is_some (number t (pos 0) (pos 0))

-- `&`, `|` and `^`, which are also defined on booleans
abbrev pub is_bits : Token → Bool
is_bits t = is_some (both_bits t false false)

-- the six comparisons
abbrev pub is_cmp : Token → Bool
is_cmp t = is_some (compared t Equal)

-- the operator that an assignment applies before it writes; any other operator itself
abbrev pub without_assign : Token → Token
without_assign op.PlusAssign = op.Plus
without_assign op.MinusAssign = op.Minus
without_assign op.MultiplyAssign = op.Multiply
without_assign op.DivideAssign = op.Divide
without_assign op.ModuloAssign = op.Modulo
without_assign op.PowerOfAssign = op.PowerOf
without_assign op.RightShiftAssign = op.RightShift
without_assign op.LeftShiftAssign = op.LeftShift
without_assign op.AndAssign = op.Ampersand
without_assign op.OrAssign = op.Pipe
without_assign op.XOrAssign = op.XOr
without_assign t = t

-- the eleven that write, and of these `&=`, `|=` and `^=`
abbrev pub is_assignment : Token → Bool
is_assignment t = not (is_token (without_assign t) t)

abbrev pub is_bits_assignment : Token → Bool
is_bits_assignment t = is_assignment t && is_bits (without_assign t)
