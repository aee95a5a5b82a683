-- The rows of operators only return a result, those of assignments write.
use Rattle.std.proofs.Common.{◌≡◌, ◌||◌, ◌&&◌, List, [], Some, IsTrue, refl}
use Rattle.rhai_text.specs.declared.token.Token.{Token}
use Rattle.rhai_value.specs.declared.cells.store.Cell.{Cell}
use Rattle.rhai_value.specs.declared.value.type_id.TypeId.{TypeId}
use Rattle.rhai_value.specs.declared.value.type_id.TypeId.TheVariants as id
use Rattle.rhai_value.specs.Tree.{Tree}
use Rattle.rhai_value.specs.End.{end, end_type}
use Rattle.rhai_value.specs.Types.{is_type}
use Rattle.rhai_ops.specs.declared.builtin.FnBuiltin.{FnBuiltin}
use Rattle.rhai_ops.specs.declared.operand_kind.OperandKind.{OperandKind}
use Rattle.rhai_ops.specs.declared.operand_kind.OperandKind.TheVariants as is
use Rattle.rhai_ops.specs.AssignTable.{assign_line, assign_row}
use Rattle.rhai_ops.specs.Table.{operand_kind, row_of, rows_of_kinds, type_line, Line, is_numeric, is_range_type}
use Rattle.rhai_ops.specs.Effects.{effect, operator, writes}
use Rattle.rhai_ops.proofs.Lines.{LineAll, pick_all, if_all}

abbrev Answers : FnBuiltin → Type 0
Answers r = effect r ≡ operator

abbrev Writes : FnBuiltin → Type 0
Writes r = IsTrue (writes (effect r))

-- pair by pair; a new row needs no new line here
own_answers : (t : Token) (types : Line) → LineAll Answers types → (a b : OperandKind) → LineAll Answers (rows_of_kinds t a b types)
own_answers t types l is.Unit is.Unit = search refl
own_answers t types l is.Bool is.Bool = search refl
own_answers t types l is.Int is.Int = search refl
own_answers t types l is.Str is.Str = search refl
own_answers t types l is.Char is.Char = search refl
own_answers t types l is.Blob is.Blob = search refl
own_answers t types l is.Array is.Array = search refl
own_answers t types l a b = search refl

types_answer : (t : Token) (a b : TypeId) → LineAll Answers (type_line t a b)
types_answer t a b =
    if_all Answers (is_type a id.Shared || is_type b id.Shared) _ _ (λ e. tt) (λ e.
    if_all Answers (is_range_type a && is_range_type b) _ _ (λ r. if_all Answers (is_type a b) _ _ (λ i. (λ d. refl, (λ d. refl, tt))) (λ i. (λ d. refl, (λ d. refl, tt))))
    (λ r. if_all Answers (is_type a b || (is_numeric a && is_numeric b)) _ _ (λ i. tt) (λ i. (λ d. refl, (λ d. refl, tt)))))

pub operators : (t : Token) (s : List Cell) (x y : Tree) (r : FnBuiltin) → row_of t s x y ≡ Some r → effect r ≡ operator
operators t s x y r e = pick_all Answers _ r (own_answers t _ (types_answer t (end_type (end s [] x)) (end_type (end s [] y))) (operand_kind x) (operand_kind y)) e

own_writes : (t : Token) (a b : OperandKind) → LineAll Writes (assign_line t a b)
own_writes t is.Unit is.Unit = search refl
own_writes t is.Bool is.Bool = search refl
own_writes t is.Int is.Int = search refl
own_writes t is.Str is.Str = search refl
own_writes t is.Char is.Char = search refl
own_writes t is.Blob is.Blob = search refl
own_writes t is.Array is.Array = search refl
own_writes t a b = search refl

pub assignments : (t : Token) (x y : Tree) (r : FnBuiltin) → assign_row t x y ≡ Some r → IsTrue (writes (effect r))
assignments t x y r e = pick_all Writes (assign_line t (operand_kind x) (operand_kind y)) r (own_writes t (operand_kind x) (operand_kind y)) e
