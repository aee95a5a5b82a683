-- The results of operators on two numbers, on two booleans, and on the order of two contents.
use Rattle.std.specs.Prelude.{Option, Some, None, ℕ, ℤ, pos, negsuc, suc, ◌+ℤ◌, ◌-ℤ◌, ◌*ℤ◌, ◌^◌, Bool, Result, Ok, Err, nat_lt, not, ◌&&◌, ◌||◌, bit_and, bit_or, bit_xor, int_div, int_rem, if◌then◌else◌}
use Rattle.std.specs.Int.{w64, int_pow, int_wrap, int_shr, cast_signed, cast_unsigned}
use Rattle.std.specs.Ordering.{int_eq, is_eq, is_ne, is_lt, is_gt, is_le, is_ge}
use Rattle.std.specs.declared.cmp.Ordering.{Ordering}
use Rattle.rhai_text.specs.declared.error.ArithmeticFault.{ArithmeticFault}
use Rattle.rhai_text.specs.declared.error.ArithmeticFault.TheVariants.{Overflow, DivisionByZero, NegativePower, PowerTooLarge}
use Rattle.rhai_text.specs.declared.token.Token.{Token}
use Rattle.rhai_text.specs.declared.token.Token.TheVariants as op

-- a number, or why there is none
abbrev pub Number : Type 0
Number = Result ℤ ArithmeticFault

-- whether this number is a 64-bit integer
abbrev pub in_range : ℤ → Bool
in_range (pos n) = nat_lt n (2 ^ 63)
in_range (negsuc n) = nat_lt n (2 ^ 63)

abbrev pub ranged : ℤ → Number
ranged z = if in_range z then Ok z else Err Overflow

-- the result for a divisor that isn't 0
abbrev pub by_divisor : ℤ → Number → Number
by_divisor y answer = if int_eq y (pos 0) then Err DivisionByZero else answer

abbrev pub powered : ℤ → ℤ → Number
powered x (pos n) = if nat_lt 4294967295 n then Err PowerTooLarge else ranged (int_pow x n)
powered x (negsuc n) = Err NegativePower

-- the low 64 bits of x times 2 ^ n, as a signed number; and the floor of x divided by 2 ^ n
unfoldable pub times_power : ℤ → ℕ → ℤ
times_power x n = int_wrap w64 (x *ℤ pos (2 ^ n))

unfoldable pub floor_power : ℤ → ℕ → ℤ
floor_power x n = int_shr x n

abbrev pub shifted_left : ℤ → ℤ → ℤ
shifted_left x (pos n) = times_power x n
shifted_left x (negsuc n) = floor_power x (suc n)

abbrev pub shifted_right : ℤ → ℤ → ℤ
shifted_right x (pos n) = floor_power x n
shifted_right x (negsuc n) = times_power x (suc n)

-- an operation on the 64 bits of both
abbrev pub by_bits : (ℕ → ℕ → ℕ) → ℤ → ℤ → ℤ
by_bits f x y = cast_signed w64 (f (cast_unsigned w64 x) (cast_unsigned w64 y))

-- Of two ints: exact numbers, and one test of the range at the end. An operator without a numeric
-- result on ints has none here.
abbrev pub number : Token → ℤ → ℤ → Option Number
number op.Plus x y = Some (ranged (x +ℤ y))
number op.Minus x y = Some (ranged (x -ℤ y))
number op.Multiply x y = Some (ranged (x *ℤ y))
number op.Divide x y = Some (by_divisor y (ranged (int_div x y)))
number op.Modulo x y = Some (by_divisor y (if in_range (int_div x y) then Ok (int_rem x y) else Err Overflow))
number op.PowerOf x y = Some (powered x y)
number op.RightShift x y = Some (Ok (shifted_right x y))
number op.LeftShift x y = Some (Ok (shifted_left x y))
number op.Ampersand x y = Some (Ok (by_bits bit_and x y))
number op.Pipe x y = Some (Ok (by_bits bit_or x y))
number op.XOr x y = Some (Ok (by_bits bit_xor x y))
number _ x y = None

-- of two booleans
abbrev pub both_bits : Token → Bool → Bool → Option Bool
both_bits op.Ampersand a b = Some (a && b)
both_bits op.Pipe a b = Some (a || b)
both_bits op.XOr a b = Some (if a then not b else b)
both_bits _ a b = None

-- of the order of two contents
abbrev pub compared : Token → Ordering → Option Bool
compared op.EqualsTo o = Some (is_eq o)
compared op.NotEqualsTo o = Some (is_ne o)
compared op.GreaterThan o = Some (is_gt o)
compared op.GreaterThanEqualsTo o = Some (is_ge o)
compared op.LessThan o = Some (is_lt o)
compared op.LessThanEqualsTo o = Some (is_le o)
compared _ o = None
