-- The table of binary operators: the row of an operator for two operands.
use Rattle.std.specs.Prelude.{Bool, true, false, ◌||◌, ◌&&◌, List, [], ◌∷◌, Option, Some, None, if◌then◌else◌}
use Rattle.std.specs.List.{list_any}
use Rattle.rhai_text.specs.declared.token.Token.{Token}
use Rattle.rhai_text.specs.declared.token.Token.TheVariants as op
use Rattle.rhai_value.specs.declared.cells.store.Cell.{Cell}
use Rattle.rhai_value.specs.declared.value.type_id.TypeId.{TypeId}
use Rattle.rhai_value.specs.declared.value.type_id.TypeId.TheVariants as id
use Rattle.rhai_value.specs.Tree.{Tree, node, leaf, branch, fields, holder, array, function, Leaf, unit, bool, int, char, text, blob, host}
use Rattle.rhai_value.specs.End.{end, end_type}
use Rattle.rhai_value.specs.Types.{is_type}
use Rattle.rhai_ops.specs.declared.builtin.FnBuiltin.{FnBuiltin}
use Rattle.rhai_ops.specs.declared.builtin.FnBuiltin.TheVariants as row
use Rattle.rhai_ops.specs.declared.operand_kind.OperandKind.{OperandKind}
use Rattle.rhai_ops.specs.declared.operand_kind.OperandKind.TheVariants as is
use Rattle.rhai_ops.specs.Tokens.{is_number, is_bits, is_cmp, is_token}

-- the constructor of a value, as far as the table distinguishes constructors
abbrev pub leaf_operand : Leaf → OperandKind
leaf_operand unit = is.Unit
leaf_operand (bool b) = is.Bool
leaf_operand (int n) = is.Int
leaf_operand (text s) = is.Str
leaf_operand (char c) = is.Char
leaf_operand (blob bs) = is.Blob
leaf_operand (host h) = is.Other

abbrev pub operand_kind : Tree → OperandKind
operand_kind (node (leaf l) g m) = leaf_operand l
operand_kind (node (branch array ts) g m) = is.Array
operand_kind (node (branch (function f) ts) g m) = is.Other
operand_kind (node (fields fs) g m) = is.Other
operand_kind (node (holder c) g m) = is.Other

-- a line of the table: rows, each with the condition that the operator is one of its operand_kind
abbrev pub Line : Type 0
Line = List (Bool × FnBuiltin)

-- the first row of the line whose condition holds
abbrev pub pick : Line → Option FnBuiltin
pick [] = None
pick ((asked, r) ∷ rest) = if asked then Some r else pick rest

-- the nine integer types of the host, and i64
abbrev pub is_numeric : TypeId → Bool
is_numeric k =
    list_any (is_type k) (id.Int ∷ id.U8 ∷ id.U16 ∷ id.U32 ∷ id.U64 ∷ id.U128 ∷ id.I8 ∷ id.I16 ∷ id.I32 ∷ id.I128 ∷ [])

abbrev pub is_range_type : TypeId → Bool
is_range_type k = list_any (is_type k) (id.ExclusiveRange ∷ id.InclusiveRange ∷ [])

-- by the held types; `Shared` is the type of a chain that is stuck or closed
abbrev pub type_line : Token → TypeId → TypeId → Line
type_line t a b =
    if is_type a id.Shared || is_type b id.Shared then []
    else (if is_range_type a && is_range_type b then
    (if is_type a b then (is_token t op.EqualsTo, row.RangeEqual (is_type a id.InclusiveRange) false) ∷ (is_token t op.NotEqualsTo, row.RangeEqual (is_type a id.InclusiveRange) true) ∷ []
    else (is_token t op.EqualsTo, row.ConstFalse) ∷ (is_token t op.NotEqualsTo, row.ConstTrue) ∷ [])
    else (if is_type a b || (is_numeric a && is_numeric b) then []
    else (is_token t op.NotEqualsTo, row.ConstTrue) ∷ (is_cmp t, row.ConstFalse) ∷ []))

-- The line of two constructors, with conditions on the operator t. A line that ends in `types`
-- continues with that of the held types.
abbrev pub rows_of_kinds : Token → OperandKind → OperandKind → Line → Line
rows_of_kinds t is.Int is.Int types = (is_number t, row.Int t) ∷ (is_cmp t, row.IntCompare t) ∷ (is_token t op.ExclusiveRange, row.IntRange false) ∷ (is_token t op.InclusiveRange, row.IntRange true) ∷ []
rows_of_kinds t is.Bool is.Bool types = (is_cmp t, row.BoolCompare t) ∷ (is_bits t, row.Bool t) ∷ []
rows_of_kinds t is.Str is.Str types = (is_token t op.Plus, row.TextJoin) ∷ (is_token t op.Minus, row.TextMinus) ∷ (is_cmp t, row.TextCompare t) ∷ []
rows_of_kinds t is.Char is.Char types = (is_token t op.Plus, row.CharJoin) ∷ (is_cmp t, row.CharCompare t) ∷ []
rows_of_kinds t is.Blob is.Blob types = (is_token t op.Plus, row.BlobJoin) ∷ (is_token t op.EqualsTo, row.BlobEqual false) ∷ (is_token t op.NotEqualsTo, row.BlobEqual true) ∷ []
rows_of_kinds t is.Unit is.Unit types = (is_token t op.EqualsTo, row.ConstTrue) ∷ (is_cmp t, row.ConstFalse) ∷ []
rows_of_kinds t is.Int is.Unit types = (is_token t op.ExclusiveRange, row.RangeFrom false) ∷ (is_token t op.InclusiveRange, row.RangeFrom true) ∷ types
rows_of_kinds t is.Unit is.Int types = (is_token t op.ExclusiveRange, row.RangeTo false) ∷ (is_token t op.InclusiveRange, row.RangeTo true) ∷ types
rows_of_kinds t is.Char is.Str types = (is_token t op.Plus, row.CharText) ∷ (is_cmp t, row.CharTextCompare t) ∷ []
rows_of_kinds t is.Str is.Char types = (is_token t op.Plus, row.TextChar) ∷ (is_token t op.Minus, row.TextMinusChar) ∷ (is_cmp t, row.TextCharCompare t) ∷ []
rows_of_kinds t is.Unit is.Str types = (is_token t op.Plus, row.SecondCopy) ∷ (is_token t op.NotEqualsTo, row.ConstTrue) ∷ (is_cmp t, row.ConstFalse) ∷ []
rows_of_kinds t is.Str is.Unit types = (is_token t op.Plus, row.FirstCopy) ∷ (is_token t op.NotEqualsTo, row.ConstTrue) ∷ (is_cmp t, row.ConstFalse) ∷ []
rows_of_kinds t is.Blob is.Char types = (is_token t op.Plus, row.BlobChar) ∷ []
rows_of_kinds t _ _ types = types

-- the row of the operator on x and y in the store s
abbrev pub row_of : Token → List Cell → Tree → Tree → Option FnBuiltin
row_of t s x y = pick (rows_of_kinds t (operand_kind x) (operand_kind y) (type_line t (end_type (end s [] x)) (end_type (end s [] y))))
