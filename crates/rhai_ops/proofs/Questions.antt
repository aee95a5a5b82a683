-- What the conditions of the tables say about an operator on any operands.
use Rattle.std.proofs.Common.{◌≡◌, ℤ, Bool, true, is_some, refl}
use Rattle.std.specs.declared.cmp.Ordering.{Ordering}
use Rattle.rhai_text.specs.declared.token.Token.{Token}
use Rattle.rhai_text.specs.declared.token.Token.TheVariants as op
use Rattle.rhai_ops.specs.Numbers.{number, both_bits, compared}
use Rattle.rhai_ops.specs.Tokens.{is_number, is_bits, is_cmp, is_assignment, without_assign}

-- an operator has a result on all operands or on none
pub some_number : (t : Token) (x y : ℤ) → is_number t ≡ true → is_some (number t x y) ≡ true
some_number op.Plus x y e = refl
some_number op.Minus x y e = refl
some_number op.Multiply x y e = refl
some_number op.Divide x y e = refl
some_number op.Modulo x y e = refl
some_number op.PowerOf x y e = refl
some_number op.RightShift x y e = refl
some_number op.LeftShift x y e = refl
some_number op.Ampersand x y e = refl
some_number op.Pipe x y e = refl
some_number op.XOr x y e = refl
some_number _ x y e = cc

pub some_bits : (t : Token) (a b : Bool) → is_bits t ≡ true → is_some (both_bits t a b) ≡ true
some_bits op.Ampersand a b e = refl
some_bits op.Pipe a b e = refl
some_bits op.XOr a b e = refl
some_bits _ a b e = cc

pub some_order : (t : Token) (o : Ordering) → is_cmp t ≡ true → is_some (compared t o) ≡ true
some_order op.EqualsTo o e = refl
some_order op.NotEqualsTo o e = refl
some_order op.GreaterThan o e = refl
some_order op.GreaterThanEqualsTo o e = refl
some_order op.LessThan o e = refl
some_order op.LessThanEqualsTo o e = refl
some_order _ o e = cc

-- the operator of an assignment gives a number
pub base_is_number : (t : Token) → is_assignment t ≡ true → is_number (without_assign t) ≡ true
base_is_number op.PlusAssign e = refl
base_is_number op.MinusAssign e = refl
base_is_number op.MultiplyAssign e = refl
base_is_number op.DivideAssign e = refl
base_is_number op.ModuloAssign e = refl
base_is_number op.PowerOfAssign e = refl
base_is_number op.RightShiftAssign e = refl
base_is_number op.LeftShiftAssign e = refl
base_is_number op.AndAssign e = refl
base_is_number op.OrAssign e = refl
base_is_number op.XOrAssign e = refl
base_is_number _ e = cc
