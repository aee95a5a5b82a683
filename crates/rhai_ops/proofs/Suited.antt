-- A row found in the table for two operands suits them.
use Rattle.std.proofs.Common.{◌≡◌, ℕ, ℤ, Bool, true, false, ◌||◌, ◌&&◌, List, [], ◌∷◌, slice_get, Option, Some, None, IsSome, option_map, refl, sym, ap, ◌∙◌, subst}
use Rattle.std.proofs.lemmas.Option.{same_Some}
use Rattle.rhai_text.specs.declared.token.Token.{Token}
use Rattle.rhai_value.specs.declared.value.access_mode.AccessMode.{AccessMode}
use Rattle.rhai_value.specs.declared.cells.chain.Site.{Site}
use Rattle.rhai_value.specs.declared.cells.store.Cell.{Cell}
use Rattle.rhai_value.specs.declared.value.type_id.TypeId.{TypeId}
use Rattle.rhai_value.specs.declared.value.type_id.TypeId.TheVariants as id
use Rattle.rhai_value.specs.Tree.{Tree, Trees, Kind, node, leaf, branch, fields, holder, array, function, Leaf, unit, bool, int, char, text, blob, host, content_of}
use Rattle.rhai_value.specs.Parts.{unit_of, bool_of, int_of, char_of, text_of, blob_of, array_of, typed_host_of}
use Rattle.rhai_value.specs.Store.{at}
use Rattle.rhai_value.specs.Walk.{visit_of, visit_map, walk}
use Rattle.rhai_value.specs.Types.{is_type, is_host_type, tree_type}
use Rattle.rhai_value.specs.Kinds.{host_reads, one_type}
use Rattle.rhai_value.specs.End.{End, held, stuck, closed, site_after, end, end_at, end_of, end_type, held_part, first}
use Rattle.rhai_value.proofs.ForCallers.{walk_opens}
use Rattle.rhai_ops.specs.declared.builtin.FnBuiltin.{FnBuiltin}
use Rattle.rhai_ops.specs.declared.builtin.FnBuiltin.TheVariants as row
use Rattle.rhai_ops.specs.declared.operand_kind.OperandKind.{OperandKind}
use Rattle.rhai_ops.specs.declared.operand_kind.OperandKind.TheVariants as is
use Rattle.rhai_ops.specs.Table.{operand_kind, leaf_operand, row_of, rows_of_kinds, type_line, pick, Line, is_numeric, is_range_type}
use Rattle.rhai_ops.specs.AssignTable.{assign_line, assign_row}
use Rattle.rhai_ops.specs.Results.{part, Holds, Suits, range_type}
use Rattle.rhai_ops.proofs.Questions.{base_is_number}
use Rattle.rhai_ops.proofs.Lines.{LineAll, pick_all, if_all}

-- a value that isn't a holder is held
pub leaf_end : (s : List Cell) (p : List ℕ) (l : Leaf) (g : ℤ) (m : AccessMode) → end s p (node (leaf l) g m) ≡ held (site_after (slice_get p 0)) (node (leaf l) g m)
unfolding end
leaf_end s p l g m = walk_opens end_of s p (node (leaf l) g m)

pub branch_end : (s : List Cell) (p : List ℕ) (k : Kind) (ts : Trees) (g : ℤ) (m : AccessMode) → end s p (node (branch k ts) g m) ≡ held (site_after (slice_get p 0)) (node (branch k ts) g m)
unfolding end
branch_end s p k ts g m = walk_opens end_of s p (node (branch k ts) g m)

-- the chain from a holder is that from its cell's content
holder_end : (s : List Cell) (c : ℕ) (g : ℤ) (m : AccessMode) (v : Tree) → at s c ≡ Some v → end s [] (node (holder c) g m) ≡ end s (c ∷ []) v
unfolding end
holder_end s c g m v e = walk_opens end_of s [] (node (holder c) g m) ∙ ap (λ o. end_at (node (holder c) g m) (visit_map (walk end_of s (c ∷ [])) (visit_of o false))) e

pub own_part : {A : Type 0} (of : Tree → Option A) (s : List Cell) (l : Leaf) (g : ℤ) (m : AccessMode) → part of s (node (leaf l) g m) ≡ of (node (leaf l) g m)
own_part of s l g m = ap (held_part of) (leaf_end s [] l g m)

-- the value held by an operand, by its operand_kind constructor, in terms of the end of its chain
abbrev HoldsOwn : OperandKind → End → Type 0
HoldsOwn is.Unit e = IsSome (held_part unit_of e)
HoldsOwn is.Bool e = IsSome (held_part bool_of e)
HoldsOwn is.Int e = IsSome (held_part int_of e)
HoldsOwn is.Str e = IsSome (held_part text_of e)
HoldsOwn is.Char e = IsSome (held_part char_of e)
HoldsOwn is.Blob e = IsSome (held_part blob_of e)
HoldsOwn is.Array e = IsSome (held_part array_of e)
HoldsOwn is.Other e = Unit {0}

leaf_holds : (site : Site) (l : Leaf) (g : ℤ) (m : AccessMode) → HoldsOwn (leaf_operand l) (held site (node (leaf l) g m))
leaf_holds site unit g m = refl
leaf_holds site (bool b) g m = refl
leaf_holds site (int n) g m = refl
leaf_holds site (text v) g m = refl
leaf_holds site (char c) g m = refl
leaf_holds site (blob bs) g m = refl
leaf_holds site (host h) g m = tt

holds_own : (s : List Cell) (p : List ℕ) (t : Tree) → HoldsOwn (operand_kind t) (end s p t)
holds_own s p (node (leaf l) g m) = subst (HoldsOwn (leaf_operand l)) (sym (leaf_end s p l g m)) (leaf_holds (site_after (slice_get p 0)) l g m)
holds_own s p (node (branch array ts) g m) = subst (HoldsOwn is.Array) (sym (branch_end s p array ts g m)) refl
holds_own s p (node (branch (function f) ts) g m) = tt
holds_own s p (node (fields fs) g m) = tt
holds_own s p (node (holder c) g m) = tt

-- a held range
some_of_map : {A B : Type 0} (f : A → B) (o : Option A) (b : B) → option_map f o ≡ Some b → IsSome o
some_of_map f (Some a) b e = refl
some_of_map f None b e = cc

held_host : (k : TypeId) (t : Tree) → is_host_type k ≡ true → is_type k (tree_type t) ≡ true → IsSome (typed_host_of k t)
held_host k t h e = some_of_map _ (typed_host_of k t) (content_of t) (host_reads k h t ∙ rw e refl)

shared_is_no_host : is_host_type id.Shared ≡ true → ⊥
shared_is_no_host e = cc

holds_host : (k : TypeId) (e : End) → is_host_type k ≡ true → is_type k (end_type e) ≡ true → IsSome (held_part (typed_host_of k) e)
holds_host k (held site t) h e = held_host k t h e
holds_host k (stuck t) h e = absurd (shared_is_no_host (sym (ap is_host_type (one_type k id.Shared e)) ∙ h))
holds_host k closed h e = absurd (shared_is_no_host (sym (ap is_host_type (one_type k id.Shared e)) ∙ h))

module _ (t : Token) (s : List Cell) (x y : Tree) where
  abbrev Fit : FnBuiltin → Type 0
  Fit r = Suits r s x y

  -- pair by pair; a new row needs no new line here
  own_suits : (types : Line) → LineAll Fit types → (a b : OperandKind) → HoldsOwn a (end s [] x) → HoldsOwn b (end s [] y) → LineAll Fit (rows_of_kinds t a b types)
  own_suits types l is.Unit is.Unit h k = search refl
  own_suits types l is.Bool is.Bool h k = search refl
  own_suits types l is.Int is.Int h k = search refl
  own_suits types l is.Str is.Str h k = search refl
  own_suits types l is.Char is.Char h k = search refl
  own_suits types l is.Blob is.Blob h k = search refl
  own_suits types l is.Array is.Array h k = search refl
  own_suits types l a b h k = search refl

  both_true : (b c : Bool) → (b && c) ≡ true → (b ≡ true) × (c ≡ true)
  both_true true true e = (refl, refl)
  both_true true false e = cc
  both_true false c e = cc

  range_is_host : (a : TypeId) → is_range_type a ≡ true → (is_host_type a ≡ true) × (range_type (is_type a id.InclusiveRange) ≡ a)
  range_is_host id.ExclusiveRange e = (refl, refl)
  range_is_host id.InclusiveRange e = (refl, refl)
  range_is_host _ e = cc

  abbrev first_type : TypeId
  first_type = end_type (end s [] x)

  abbrev second_type : TypeId
  second_type = end_type (end s [] y)

  ranges_suit : (n : Bool) → is_range_type first_type ≡ true → is_type first_type second_type ≡ true → Suits (row.RangeEqual (is_type first_type id.InclusiveRange) n) s x y
  ranges_suit n r e =
      let h = range_is_host first_type r in
      let same : first_type ≡ second_type = one_type first_type second_type e in
      let self : is_type first_type first_type ≡ true = ap (is_type first_type) same ∙ e in
      subst (λ k. Holds (typed_host_of k) s x × Holds (typed_host_of k) s y) (sym h.1) (holds_host first_type (end s [] x) h.0 self, holds_host first_type (end s [] y) h.0 e)

  types_suit : LineAll Fit (type_line t first_type second_type)
  types_suit =
      if_all Fit (is_type first_type id.Shared || is_type second_type id.Shared) _ _ (λ e. tt) (λ e.
      if_all Fit (is_range_type first_type && is_range_type second_type) _ _ (λ b. if_all Fit (is_type first_type second_type) _ _ (λ i. (λ d. ranges_suit false (both_true _ _ b).0 i, (λ d. ranges_suit true (both_true _ _ b).0 i, tt))) (λ i. (λ d. tt, (λ d. tt, tt))))
      (λ b. if_all Fit (is_type first_type second_type || (is_numeric first_type && is_numeric second_type)) _ _ (λ i. tt) (λ i. (λ d. tt, (λ d. tt, tt)))))

  assign_suits : (a b : OperandKind) → HoldsOwn a (end s [] x) → HoldsOwn b (end s [] y) → LineAll Fit (assign_line t a b)
  assign_suits is.Unit is.Unit h k = search refl
  assign_suits is.Bool is.Bool h k = (λ e. ((both_true _ _ e).0, ((both_true _ _ e).1, (h, k))), tt)
  assign_suits is.Int is.Int h k = (λ e. (e, (base_is_number t e, (h, k))), tt)
  assign_suits is.Str is.Str h k = search refl
  assign_suits is.Char is.Char h k = search refl
  assign_suits is.Blob is.Blob h k = search refl
  assign_suits is.Array is.Array h k = search refl
  assign_suits a b h k = search refl

  -- the first operand holds its first content, by its operand_kind constructor
  assign_row_suits : (a : OperandKind) (r : FnBuiltin) → HoldsOwn a (end s [] x) → pick (assign_line t a (operand_kind y)) ≡ Some r → Suits r s x y
  assign_row_suits a r h e = pick_all Fit (assign_line t a (operand_kind y)) r (assign_suits a (operand_kind y) h (holds_own s [] y)) e

  pub row_suits : (r : FnBuiltin) → row_of t s x y ≡ Some r → Suits r s x y
  row_suits r e = pick_all Fit _ r (own_suits _ types_suit (operand_kind x) (operand_kind y) (holds_own s [] x) (holds_own s [] y)) e

-- the row found for the first content of x may be called on x
own_first : (s : List Cell) (x v : Tree) → Some x ≡ Some v → HoldsOwn (operand_kind v) (end s [] x)
own_first s x v e = subst (λ u. HoldsOwn (operand_kind u) (end s [] x)) (same_Some x v e) (holds_own s [] x)

holds_first : (s : List Cell) (x v : Tree) → first s x ≡ Some v → HoldsOwn (operand_kind v) (end s [] x)
holds_first s (node (holder c) g m) v e = subst (HoldsOwn (operand_kind v)) (sym (holder_end s c g m v e)) (holds_own s (c ∷ []) v)
holds_first s (node (leaf l) g m) v e = own_first s (node (leaf l) g m) v e
holds_first s (node (branch k ts) g m) v e = own_first s (node (branch k ts) g m) v e
holds_first s (node (fields fs) g m) v e = own_first s (node (fields fs) g m) v e

pub place_suits : (t : Token) (s : List Cell) (x v y : Tree) (r : FnBuiltin) → first s x ≡ Some v → assign_row t v y ≡ Some r → Suits r s x y
place_suits t s x v y r f e = assign_row_suits t s x y (operand_kind v) r (holds_first s x v f) e

pub assigned_suits : (t : Token) (s : List Cell) (x y : Tree) (r : FnBuiltin) → assign_row t x y ≡ Some r → Suits r s x y
assigned_suits t s x y r e = assign_row_suits t s x y (operand_kind x) r (holds_own s [] x) e
