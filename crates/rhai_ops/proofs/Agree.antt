-- An operator and its assignment give the same content.
use Rattle.std.proofs.Common.{◌≡◌, ℕ, ℤ, Bool, true, false, ◌||◌, ◌&&◌, List, [], ◌∷◌, ◌++◌, Option, Some, None, IsTrue, unwrap_or, if◌then◌else◌, refl, sym, ap, ◌∙◌, subst}
use denote.Enum.Bare.{same_true}
use Rattle.std.proofs.lemmas.List.{append-nil}
use Rattle.std.proofs.lemmas.Option.{same_Some}
use Rattle.rhai_text.specs.declared.error.SizeKind.{SizeKind}
use Rattle.rhai_text.specs.declared.error.SizeKind.TheVariants as size
use Rattle.rhai_text.specs.declared.limits.Limits.{Limits}
use Rattle.rhai_text.specs.contracts.token.Token as token
use Rattle.rhai_text.specs.declared.token.Token.{Token}
use Rattle.rhai_text.specs.declared.token.Token.TheVariants as op
use Rattle.rhai_value.specs.declared.value.access_mode.AccessMode.{AccessMode}
use Rattle.rhai_value.specs.declared.value.access_mode.AccessMode.TheVariants.{ReadWrite}
use Rattle.rhai_value.specs.declared.cells.store.Cell.{Cell}
use Rattle.rhai_value.specs.declared.value.type_id.TypeId.{TypeId}
use Rattle.rhai_value.specs.declared.value.type_id.TypeId.TheVariants as id
use Rattle.rhai_value.specs.Tree.{Tree, Trees, node, leaf, branch, fields, holder, array, function, Leaf, unit, bool, int, char, text, blob, host, fresh, copy, content_of}
use Rattle.rhai_value.specs.Parts.{char_of, text_of, blob_of}
use Rattle.rhai_value.specs.Types.{is_type}
use Rattle.rhai_value.specs.End.{end, end_type, value_ahead, value_after, flat}
use Rattle.rhai_ops.specs.declared.builtin.FnBuiltin.{FnBuiltin}
use Rattle.rhai_ops.specs.declared.builtin.FnBuiltin.TheVariants as row
use Rattle.rhai_ops.specs.declared.operand_kind.OperandKind.{OperandKind}
use Rattle.rhai_ops.specs.declared.operand_kind.OperandKind.TheVariants as is
use Rattle.rhai_ops.specs.AssignTable.{assign_row, assign_line}
use Rattle.rhai_ops.specs.Outcome.{Outcome, answers, too_large, limited_text, limited_blob}
use Rattle.rhai_ops.specs.Results.{outcome, joined_texts, joined_blobs}
use Rattle.rhai_ops.specs.Table.{operand_kind, leaf_operand, row_of, rows_of_kinds, type_line, pick, Line, is_numeric, is_range_type}
use Rattle.rhai_ops.specs.Tokens.{is_assignment, is_token, without_assign}
use Rattle.rhai_ops.proofs.Questions.{base_is_number}
use Rattle.rhai_ops.specs.Effects.{Effect, operator, assignment, effect, writes, rewritten, first_left, takes_nothing}
use Rattle.rhai_ops.proofs.Roles.{assignments}
use Rattle.rhai_ops.proofs.Suited.{leaf_end, own_part}

-- both rows give values with the same content
abbrev Agree : Limits → List Cell → Tree → Tree → FnBuiltin → FnBuiltin → Type 0
Agree l s x y b a = (v w : Tree) → outcome b l s x y ≡ answers v → outcome a l s x y ≡ answers w → content_of w ≡ content_of v

same_rows : (l : Limits) (s : List Cell) (x y : Tree) (c b d a : FnBuiltin) → Agree l s x y c d → Some c ≡ Some b → Some d ≡ Some a → Agree l s x y b a
same_rows l s x y c b d a h e f = subst (λ r. Agree l s x y b r) (same_Some d a f) (subst (λ r. Agree l s x y r d) (same_Some c b e) h)

same_value : (v w : Tree) → answers v ≡ answers w → content_of w ≡ content_of v
same_value v w e = cc

-- if both have the same outcome
one_outcome : (o : Outcome) (v w : Tree) → o ≡ answers v → o ≡ answers w → content_of w ≡ content_of v
one_outcome o v w e f = same_value v w (sym e ∙ f)

if_value : (b : Bool) (t v : Tree) (k : SizeKind) → (if b then answers t else too_large k) ≡ answers v → t ≡ v
if_value true t v k e = cc
if_value false t v k e = cc

text_value : (l : Limits) (t : List ℕ) (v : Tree) → limited_text l t ≡ answers v → content_of v ≡ leaf (text t)
text_value l t v e = ap content_of (sym (if_value _ (fresh (text t)) v size.Text e))

blob_value : (l : Limits) (t : List ℕ) (v : Tree) → limited_blob l t ≡ answers v → content_of v ≡ leaf (blob t)
blob_value l t v e = ap content_of (sym (if_value _ (fresh (blob t)) v size.Items e))

texts_value : (l : Limits) (a b : List ℕ) (v : Tree) → joined_texts l a b ≡ answers v → content_of v ≡ leaf (text (a ++ b))
texts_value l a [] v e = ap content_of (sym (if_value true (fresh (text a)) v size.Text e)) ∙ ap (λ t. leaf (text t)) (sym (append-nil a))
texts_value l [] (d ∷ b) v e = ap content_of (sym (if_value true (fresh (text (d ∷ b))) v size.Text e))
texts_value l (c ∷ a) (d ∷ b) v e = text_value l ((c ∷ a) ++ (d ∷ b)) v e

own_flat : (s : List Cell) (l : Leaf) (g : ℤ) (m : AccessMode) → flat s (node (leaf l) g m) ≡ node (leaf l) g ReadWrite
own_flat s l g m = ap (λ e. copy (unwrap_or (value_ahead e) (node (leaf l) g m))) (leaf_end s [] l g m)

blobs_value : (l : Limits) (a b : List ℕ) (g h : ℤ) (v : Tree) → joined_blobs l (node (leaf (blob a)) g ReadWrite) (node (leaf (blob b)) h ReadWrite) a b ≡ answers v → content_of v ≡ leaf (blob (a ++ b))
blobs_value l a [] g h v e = ap content_of (sym (if_value true (node (leaf (blob a)) g ReadWrite) v size.Items e)) ∙ ap (λ t. leaf (blob t)) (sym (append-nil a))
blobs_value l [] (d ∷ b) g h v e = ap content_of (sym (if_value true (node (leaf (blob (d ∷ b))) h ReadWrite) v size.Items e))
blobs_value l (c ∷ a) (d ∷ b) g h v e = blob_value l ((c ∷ a) ++ (d ∷ b)) v e

-- if their types have no row, two operands have none for `+`
no_rows : (b : Bool) (k l : Line) → pick k ≡ None → pick l ≡ None → pick (if b then k else l) ≡ None
no_rows true k l e f = e
no_rows false k l e f = f

no_plus : (a b : TypeId) → pick (type_line op.Plus a b) ≡ None
no_plus a b =
    no_rows (is_type a id.Shared || is_type b id.Shared) _ _ refl
    (no_rows (is_range_type a && is_range_type b) _ _ (no_rows (is_type a b) _ _ refl refl)
    (no_rows (is_type a b || (is_numeric a && is_numeric b)) _ _ refl refl))

none_is_some : {A : Type 0} (o : Option A) (a : A) → o ≡ None → o ≡ Some a → ⊥
none_is_some o a e f = let g : None ≡ Some a = sym e ∙ f in cc

one : (q : Bool) (r a : FnBuiltin) → pick ((q, r) ∷ []) ≡ Some a → (q ≡ true) × (Some r ≡ Some a)
one true r a e = (refl, e)
one false r a e = cc

first_row : (q : Bool) (r b : FnBuiltin) (rest : Option FnBuiltin) → q ≡ true → (if q then Some r else rest) ≡ Some b → Some r ≡ Some b
first_row true r b rest h e = e
first_row false r b rest h e = cc

module _ (l : Limits) (s : List Cell) (g h : ℤ) (m n : AccessMode) (b a : FnBuiltin) where
  abbrev Leaves : Token → Leaf → Leaf → Type 0
  Leaves t i j = row_of (without_assign t) s (node (leaf i) g m) (node (leaf j) h n) ≡ Some b → assign_row t (node (leaf i) g m) (node (leaf j) h n) ≡ Some a
      → takes_nothing (node (leaf i) g m) (node (leaf j) h n) ≡ false → Agree l s (node (leaf i) g m) (node (leaf j) h n) b a

  rows : (c d : FnBuiltin) (i j : Leaf) → Agree l s (node (leaf i) g m) (node (leaf j) h n) c d → Some c ≡ Some b → Some d ≡ Some a → Agree l s (node (leaf i) g m) (node (leaf j) h n) b a
  rows c d i j k e f = same_rows l s (node (leaf i) g m) (node (leaf j) h n) c b d a k e f

  ints : (t : Token) (i j : ℤ) → Leaves t (int i) (int j)
  ints t i j e f k =
      let p = one (is_assignment t) (row.IntAssign t) a f in
      rows (row.Int (without_assign t)) (row.IntAssign t) (int i) (int j)
      (λ v w. one_outcome _ v w) (first_row _ _ b _ (base_is_number t p.0) e) p.1

  bools : (t : Token) (i j : Bool) → Leaves t (bool i) (bool j)
  bools op.AndAssign i j e f k = rows (row.Bool op.Ampersand) (row.BoolAssign op.AndAssign) (bool i) (bool j) (λ v w. one_outcome _ v w) e f
  bools op.OrAssign i j e f k = rows (row.Bool op.Pipe) (row.BoolAssign op.OrAssign) (bool i) (bool j) (λ v w. one_outcome _ v w) e f
  bools op.XOrAssign i j e f k = rows (row.Bool op.XOr) (row.BoolAssign op.XOrAssign) (bool i) (bool j) (λ v w. one_outcome _ v w) e f
  bools _ i j e f k = cc

  chars : (t : Token) (c d : ℕ) → Leaves t (char c) (char d)
  chars op.PlusAssign c d e f k =
      rows row.CharJoin row.CharJoinAssign (char c) (char d) (rw (own_part char_of s (char c) g m, own_part char_of s (char d) h n) (λ v w p q. same_value _ w q ∙ sym (text_value l (c ∷ d ∷ []) v p))) e f
  chars _ c d e f k = cc

  texts : (t : Token) (i j : List ℕ) → Leaves t (text i) (text j)
  texts op.PlusAssign i j e f k =
      rows row.TextJoin row.TextJoinAssign (text i) (text j) (rw (own_part text_of s (text i) g m, own_part text_of s (text j) h n) (λ v w p q. texts_value l i j w q ∙ sym (text_value l (i ++ j) v p))) e f
  texts op.MinusAssign i j e f k = rows row.TextMinus row.TextMinusAssign (text i) (text j) (λ v w. one_outcome _ v w) e f
  texts _ i j e f k = cc

  blobs : (t : Token) (i j : List ℕ) → Leaves t (blob i) (blob j)
  blobs op.PlusAssign i j e f k =
      rows row.BlobJoin row.BlobAppend (blob i) (blob j)
      (rw (own_part blob_of s (blob i) g m, own_part blob_of s (blob j) h n, own_flat s (blob i) g m, own_flat s (blob j) h n) (λ v w p q. blob_value l (i ++ j) w q ∙ sym (blobs_value l i j g h v p))) e f
  blobs _ i j e f k = cc

  text_chars : (t : Token) (i : List ℕ) (d : ℕ) → Leaves t (text i) (char d)
  text_chars op.PlusAssign i d e f k = rows row.TextChar row.TextCharAssign (text i) (char d) (λ v w. one_outcome _ v w) e f
  text_chars op.MinusAssign i d e f k = rows row.TextMinusChar row.TextMinusCharAssign (text i) (char d) (λ v w. one_outcome _ v w) e f
  text_chars _ i d e f k = cc

  char_texts : (t : Token) (c : ℕ) (j : List ℕ) → Leaves t (char c) (text j)
  char_texts op.PlusAssign c [] e f k = cc
  char_texts op.PlusAssign c (d ∷ j) e f k =
      rows row.CharText row.CharTextAssign (char c) (text (d ∷ j)) (rw (own_part char_of s (char c) g m, own_part text_of s (text (d ∷ j)) h n) (λ v w. one_outcome (limited_text l (c ∷ d ∷ j)) v w)) e f
  char_texts _ c j e f k = cc

  blob_chars : (t : Token) (i : List ℕ) (d : ℕ) → Leaves t (blob i) (char d)
  blob_chars op.PlusAssign i d e f k = rows row.BlobChar row.BlobCharAssign (blob i) (char d) (λ v w. one_outcome _ v w) e f
  blob_chars _ i d e f k = cc

  -- a blob and an int, and a blob and a text, have no `+`
  blob_ints : (t : Token) (i : List ℕ) (j : ℤ) → Leaves t (blob i) (int j)
  blob_ints op.PlusAssign i j e f k = absurd (none_is_some _ b (no_plus (end_type (end s [] (node (leaf (blob i)) g m))) (end_type (end s [] (node (leaf (int j)) h n)))) e)
  blob_ints _ i j e f k = cc

  blob_texts : (t : Token) (i j : List ℕ) → Leaves t (blob i) (text j)
  blob_texts op.PlusAssign i j e f k = absurd (none_is_some _ b (no_plus (end_type (end s [] (node (leaf (blob i)) g m))) (end_type (end s [] (node (leaf (text j)) h n)))) e)
  blob_texts _ i j e f k = cc

  leaves : (t : Token) (i j : Leaf) → Leaves t i j
  leaves t (int i) (int j) = ints t i j
  leaves t (bool i) (bool j) = bools t i j
  leaves t (char c) (char d) = chars t c d
  leaves t (text i) (text j) = texts t i j
  leaves t (blob i) (blob j) = blobs t i j
  leaves t (text i) (char d) = text_chars t i d
  leaves t (char c) (text j) = char_texts t c j
  leaves t (blob i) (char d) = blob_chars t i d
  leaves t (blob i) (int j) = blob_ints t i j
  leaves t (blob i) (text j) = blob_texts t i j
  leaves t _ _ = λ e f k. cc

-- an array has rows only for `+=`, and none for `+`; other values have no assignments
array_plus : (t : Token) (o : OperandKind) (a : FnBuiltin) → pick (assign_line t is.Array o) ≡ Some a → is_token t op.PlusAssign ≡ true
array_plus t is.Array a e = (one (is_token t op.PlusAssign) row.ArrayAppend a e).0
array_plus t _ a e = (one (is_token t op.PlusAssign) row.ArrayPush a e).0

plus_is : (t : Token) → is_token t op.PlusAssign ≡ true → t ≡ op.PlusAssign
plus_is t e = same_true token.the_type tt t op.PlusAssign e

array_none : (o : OperandKind) (a b : TypeId) → pick (rows_of_kinds op.Plus is.Array o (type_line op.Plus a b)) ≡ None
array_none _ a b = no_plus a b

arrays : (t : Token) (s : List Cell) (ts : Trees) (g : ℤ) (m : AccessMode) (y : Tree) (b a : FnBuiltin) → row_of (without_assign t) s (node (branch array ts) g m) y ≡ Some b → assign_row t (node (branch array ts) g m) y ≡ Some a → ⊥
arrays t s ts g m y b a e f =
    let plus : t ≡ op.PlusAssign = plus_is t (array_plus t (operand_kind y) a f) in
    none_is_some (row_of op.Plus s (node (branch array ts) g m) y) b (array_none (operand_kind y) (end_type (end s [] (node (branch array ts) g m))) (end_type (end s [] y))) (subst (λ k. row_of (without_assign k) s (node (branch array ts) g m) y ≡ Some b) plus e)

other_none : (t : Token) (o : OperandKind) → pick (assign_line t is.Other o) ≡ None
other_none t _ = refl

beside : (t : Token) (i : Leaf) → (pick (assign_line t (leaf_operand i) is.Array) ≡ None) × (pick (assign_line t (leaf_operand i) is.Other) ≡ None)
beside t unit = (refl, refl)
beside t (bool b) = (refl, refl)
beside t (int n) = (refl, refl)
beside t (char c) = (refl, refl)
beside t (text v) = (refl, refl)
beside t (blob v) = (refl, refl)
beside t (host h) = (refl, refl)

-- the content of an unshared value after another value is written to it
written : (w : Effect) (v : Tree) (s : List Cell) (i : Leaf) (g : ℤ) (m : AccessMode) → IsTrue (writes w) → content_of (first_left w (answers v) s (node (leaf i) g m)) ≡ content_of v
written operator v s i g m e = cc
written (assignment q) v s i g m e = ap (λ d. content_of (value_after (rewritten v) d (node (leaf i) g m))) (leaf_end s [] i g m)

pub agree : (t : Token) (l : Limits) (s : List Cell) (x y : Tree) (b a : FnBuiltin) (v w : Tree) → row_of (without_assign t) s x y ≡ Some b → assign_row t x y ≡ Some a
    → outcome b l s x y ≡ answers v → outcome a l s x y ≡ answers w → takes_nothing x y ≡ false → content_of (first_left (effect a) (outcome a l s x y) s x) ≡ content_of v
agree t l s (node (leaf i) g m) (node (leaf j) h n) b a v w e f p q k =
    ap (λ o. content_of (first_left (effect a) o s (node (leaf i) g m))) q
    ∙ written (effect a) w s i g m (assignments t (node (leaf i) g m) (node (leaf j) h n) a f)
    ∙ leaves l s g h m n b a t i j e f k v w p q
agree t l s (node (leaf i) g m) (node (branch array us) h n) b a v w e f p q k = absurd (none_is_some _ a (beside t i).0 f)
agree t l s (node (leaf i) g m) (node (branch (function j) us) h n) b a v w e f p q k = absurd (none_is_some _ a (beside t i).1 f)
agree t l s (node (leaf i) g m) (node (fields fs) h n) b a v w e f p q k = absurd (none_is_some _ a (beside t i).1 f)
agree t l s (node (leaf i) g m) (node (holder c) h n) b a v w e f p q k = absurd (none_is_some _ a (beside t i).1 f)
agree t l s (node (branch array ts) g m) y b a v w e f p q k = absurd (arrays t s ts g m y b a e f)
agree t l s (node (branch (function j) ts) g m) y b a v w e f p q k = absurd (none_is_some _ a (other_none t (operand_kind y)) f)
agree t l s (node (fields fs) g m) y b a v w e f p q k = absurd (none_is_some _ a (other_none t (operand_kind y)) f)
agree t l s (node (holder c) g m) y b a v w e f p q k = absurd (none_is_some _ a (other_none t (operand_kind y)) f)

-- a character to which an empty text is appended
pub stays : (l : Limits) (s : List Cell) (x y : Tree) → takes_nothing x y ≡ true → first_left (effect row.CharTextAssign) (outcome row.CharTextAssign l s x y) s x ≡ x
stays l s (node (leaf (char c)) g m) (node (leaf (text [])) h n) e =
    rw (own_part char_of s (char c) g m, own_part text_of s (text []) h n)
    (ap (λ d. value_after (rewritten (fresh (char c))) d (node (leaf (char c)) g m)) (leaf_end s [] (char c) g m))
stays l s _ _ e = cc
