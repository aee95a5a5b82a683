-- The rows that compare give their result by the order of the two held values.
use Rattle.std.proofs.Common.{◌≡◌, Bool, ◌||◌, ◌&&◌, [], ◌∷◌, List, Option, Some, None, refl, ap, ◌∙◌}
use Rattle.std.proofs.lemmas.Option.{same_Some}
use Rattle.std.specs.Ordering.{bool_cmp, int_cmp, nat_cmp}
use Rattle.std.specs.declared.cmp.Ordering.{Ordering}
use Rattle.rhai_text.specs.declared.limits.Limits.{Limits}
use Rattle.rhai_text.specs.declared.token.Token.{Token}
use Rattle.rhai_value.specs.declared.cells.store.Cell.{Cell}
use Rattle.rhai_value.specs.declared.value.type_id.TypeId.{TypeId}
use Rattle.rhai_value.specs.declared.value.type_id.TypeId.TheVariants as id
use Rattle.rhai_value.specs.Tree.{Tree, fresh, bool}
use Rattle.rhai_value.specs.Parts.{bool_of, int_of, char_of, text_of}
use Rattle.rhai_value.specs.End.{end, end_type}
use Rattle.rhai_value.specs.Types.{is_type}
use Rattle.rhai_ops.specs.declared.builtin.FnBuiltin.{FnBuiltin}
use Rattle.rhai_ops.specs.declared.builtin.FnBuiltin.TheVariants as row
use Rattle.rhai_ops.specs.declared.operand_kind.OperandKind.{OperandKind}
use Rattle.rhai_ops.specs.declared.operand_kind.OperandKind.TheVariants as is
use Rattle.rhai_ops.specs.Numbers.{compared}
use Rattle.rhai_ops.specs.Order.{row_order}
use Rattle.rhai_ops.specs.Outcome.{answers, of_both, both, bool_answer}
use Rattle.rhai_ops.specs.Results.{part, text_order, outcome}
use Rattle.rhai_ops.specs.Table.{operand_kind, row_of, rows_of_kinds, type_line, Line, is_numeric, is_range_type}
use Rattle.rhai_ops.proofs.Lines.{LineAll, pick_all, if_all}

-- a row that compares does so by this operator
abbrev IsOf : Token → FnBuiltin → Type 0
IsOf t (row.IntCompare u) = u ≡ t
IsOf t (row.BoolCompare u) = u ≡ t
IsOf t (row.TextCompare u) = u ≡ t
IsOf t (row.CharCompare u) = u ≡ t
IsOf t (row.CharTextCompare u) = u ≡ t
IsOf t (row.TextCharCompare u) = u ≡ t
IsOf t _ = Unit {0}

own_is : (t : Token) (types : Line) → LineAll (IsOf t) types → (a b : OperandKind) → LineAll (IsOf t) (rows_of_kinds t a b types)
own_is t types l is.Unit is.Unit = search refl
own_is t types l is.Bool is.Bool = search refl
own_is t types l is.Int is.Int = search refl
own_is t types l is.Str is.Str = search refl
own_is t types l is.Char is.Char = search refl
own_is t types l is.Blob is.Blob = search refl
own_is t types l is.Array is.Array = search refl
own_is t types l a b = search refl

types_are : (t : Token) (a b : TypeId) → LineAll (IsOf t) (type_line t a b)
types_are t a b =
    if_all (IsOf t) (is_type a id.Shared || is_type b id.Shared) _ _ (λ e. tt) (λ e.
    if_all (IsOf t) (is_range_type a && is_range_type b) _ _ (λ r. if_all (IsOf t) (is_type a b) _ _ (λ i. (λ d. tt, (λ d. tt, tt))) (λ i. (λ d. tt, (λ d. tt, tt))))
    (λ r. if_all (IsOf t) (is_type a b || (is_numeric a && is_numeric b)) _ _ (λ i. tt) (λ i. (λ d. tt, (λ d. tt, tt)))))

by_order : {A B : Type 0} (t : Token) (cmp : A → B → Ordering) (p : Option A) (q : Option B) (o : Ordering) (c : Bool) → of_both cmp p q ≡ Some o → compared t o ≡ Some c
    → both (λ a b. bool_answer (compared t (cmp a b))) p q ≡ answers (fresh (bool c))
by_order t cmp (Some a) (Some b) o c e k = ap (λ z. bool_answer (compared t z)) (same_Some (cmp a b) o e) ∙ ap bool_answer k
by_order t cmp (Some a) None o c e k = cc
by_order t cmp None q o c e k = cc

row_by_order : (t : Token) (l : Limits) (s : List Cell) (x y : Tree) (b : FnBuiltin) (o : Ordering) (c : Bool) → IsOf t b → row_order b s x y ≡ Some o → compared t o ≡ Some c
    → outcome b l s x y ≡ answers (fresh (bool c))
row_by_order t l s x y (row.IntCompare u) o c i e k = by_order u int_cmp (part int_of s x) (part int_of s y) o c e (ap (λ v. compared v o) i ∙ k)
row_by_order t l s x y (row.BoolCompare u) o c i e k = by_order u bool_cmp (part bool_of s x) (part bool_of s y) o c e (ap (λ v. compared v o) i ∙ k)
row_by_order t l s x y (row.TextCompare u) o c i e k = by_order u text_order (part text_of s x) (part text_of s y) o c e (ap (λ v. compared v o) i ∙ k)
row_by_order t l s x y (row.CharCompare u) o c i e k = by_order u nat_cmp (part char_of s x) (part char_of s y) o c e (ap (λ v. compared v o) i ∙ k)
row_by_order t l s x y (row.CharTextCompare u) o c i e k = by_order u (λ d w. text_order (d ∷ []) w) (part char_of s x) (part text_of s y) o c e (ap (λ v. compared v o) i ∙ k)
row_by_order t l s x y (row.TextCharCompare u) o c i e k = by_order u (λ v d. text_order v (d ∷ [])) (part text_of s x) (part char_of s y) o c e (ap (λ v. compared v o) i ∙ k)
row_by_order t l s x y b o c i e k = cc

pub compared_by_order : (t : Token) (l : Limits) (s : List Cell) (x y : Tree) (b : FnBuiltin) (o : Ordering) (c : Bool) → row_of t s x y ≡ Some b
    → row_order b s x y ≡ Some o → compared t o ≡ Some c → outcome b l s x y ≡ answers (fresh (bool c))
compared_by_order t l s x y b o c found e k =
    row_by_order t l s x y b o c (pick_all (IsOf t) _ b (own_is t _ (types_are t (end_type (end s [] x)) (end_type (end s [] y))) (operand_kind x) (operand_kind y)) found) e k
