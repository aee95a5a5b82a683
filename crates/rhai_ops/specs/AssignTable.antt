-- The table of assignments: the row of an operator for a place and a second operand, by their
-- operand_kind constructors only.
use Rattle.std.specs.Prelude.{[], ◌∷◌, Option}
use Rattle.rhai_text.specs.declared.token.Token.{Token}
use Rattle.rhai_text.specs.declared.token.Token.TheVariants as op
use Rattle.rhai_value.specs.Tree.{Tree}
use Rattle.rhai_ops.specs.declared.builtin.FnBuiltin.{FnBuiltin}
use Rattle.rhai_ops.specs.declared.builtin.FnBuiltin.TheVariants as row
use Rattle.rhai_ops.specs.declared.operand_kind.OperandKind.{OperandKind}
use Rattle.rhai_ops.specs.declared.operand_kind.OperandKind.TheVariants as is
use Rattle.rhai_ops.specs.Table.{operand_kind, Line, pick}
use Rattle.rhai_ops.specs.Tokens.{is_assignment, is_bits_assignment, is_token}

-- the conditions are about the assignment t
abbrev pub assign_line : Token → OperandKind → OperandKind → Line
assign_line t is.Int is.Int = (is_assignment t, row.IntAssign t) ∷ []
assign_line t is.Bool is.Bool = (is_bits_assignment t, row.BoolAssign t) ∷ []
assign_line t is.Char is.Char = (is_token t op.PlusAssign, row.CharJoinAssign) ∷ []
assign_line t is.Str is.Str = (is_token t op.PlusAssign, row.TextJoinAssign) ∷ (is_token t op.MinusAssign, row.TextMinusAssign) ∷ []
assign_line t is.Array is.Array = (is_token t op.PlusAssign, row.ArrayAppend) ∷ []
assign_line t is.Blob is.Blob = (is_token t op.PlusAssign, row.BlobAppend) ∷ []
assign_line t is.Str is.Char = (is_token t op.PlusAssign, row.TextCharAssign) ∷ (is_token t op.MinusAssign, row.TextMinusCharAssign) ∷ []
assign_line t is.Char is.Str = (is_token t op.PlusAssign, row.CharTextAssign) ∷ []
assign_line t is.Array _ = (is_token t op.PlusAssign, row.ArrayPush) ∷ []
assign_line t is.Blob is.Int = (is_token t op.PlusAssign, row.BlobPush) ∷ []
assign_line t is.Blob is.Char = (is_token t op.PlusAssign, row.BlobCharAssign) ∷ []
assign_line t is.Blob is.Str = (is_token t op.PlusAssign, row.BlobTextAssign) ∷ []
assign_line t _ _ = []

-- the row of the assignment on x and y
abbrev pub assign_row : Token → Tree → Tree → Option FnBuiltin
assign_row t x y = pick (assign_line t (operand_kind x) (operand_kind y))
