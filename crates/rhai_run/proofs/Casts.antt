-- The types to which a value can be cast.
use Rattle.std.proofs.Common.{◌≡◌, Bool, true, false, cond, Option, Some, None, option_map, is_some, List, [], refl, sym, ap, ◌∙◌, unwrap_or}
use Rattle.rhai_value.specs.declared.cells.store.Cell.{Cell}
use Rattle.rhai_value.specs.declared.value.type_id.TypeId.{TypeId}
use Rattle.rhai_value.specs.declared.value.type_id.TypeId.TheVariants as id
use Rattle.rhai_value.specs.End.{End, end, end_of, end_type, value_ahead, flat, flattened}
use Rattle.rhai_value.specs.Tree.{Tree, node, leaf, branch, fields, holder, cell_of, content_of, copy, made}
use Rattle.rhai_value.specs.Types.{is_type, tree_type, typed_content}
use Rattle.rhai_value.proofs.ForCallers.{walk_opens}
use Rattle.rhai_variant.specs.Reads.{held_type, read, viewed}
use Rattle.rhai_cast.specs.Casts.{is_castable}
use Rattle.rhai_cast.proofs.ForCallers.{copied_castable, moved_castable}
use Rattle.rhai_run.specs.Entries.{viewed_as}
use Rattle.rhai_run.specs.Entries.{read_as}

pub castable_other : (k : TypeId) (e : End) → is_type k id.Dynamic ≡ false → is_castable k e ≡ is_type (held_type k) (end_type e)
castable_other id.Dynamic e h = cc
castable_other _ e h = refl

-- a read as a type other than `Shared` succeeds if the value can be cast to it
pub read_by_type : (k : TypeId) (s : List Cell) (t : Tree) → is_type k id.Shared ≡ false → is_some (read_as k (flat s t)) ≡ is_castable k (end s [] t)
read_by_type k s t h = ap (λ b. is_some (cond b None (read k (flat s t)))) h ∙ copied_castable k s t

not_some : {A : Type 0} (o : Option A) → is_some o ≡ false → o ≡ None
not_some None e = refl
not_some (Some x) e = cc

-- and fails otherwise
pub uncastable : (k : TypeId) (s : List Cell) (t : Tree) → is_castable k (end s [] t) ≡ false → read_as k (flat s t) ≡ None
uncastable k s t h = by (is_type k id.Shared)
  where
    by : (b : Bool) → cond b None (read k (flat s t)) ≡ None
    by true = refl
    by false = not_some (read k (flat s t)) (copied_castable k s t ∙ h)

pub moved_by_type : (k : TypeId) (s : List Cell) (t : Tree) → is_some (read_as k (flat s t)) ≡ is_some (read_as k (flattened s t))
moved_by_type k s t = by (is_type k id.Shared)
  where
    by : (b : Bool) → is_some (cond b None (read k (flat s t))) ≡ is_some (cond b None (read k (flattened s t)))
    by true = refl
    by false = copied_castable k s t ∙ sym (moved_castable k s t)

-- a value can be cast if a read of its flat value succeeds
pub movable : (k : TypeId) (s : List Cell) (t : Tree) → is_type k id.Shared ≡ false → is_castable k (end s [] t) ≡ is_some (read_as k (flattened s t))
movable k s t h = sym (read_by_type k s t h) ∙ moved_by_type k s t

-- except for `Dynamic`, the value read is the content made anew
content_read : (k : TypeId) (t : Tree) → is_type k id.Dynamic ≡ false → read k t ≡ option_map made (typed_content (held_type k) t)
content_read id.Dynamic t h = cc
content_read _ t h = refl

pub read_content : (k : TypeId) (t : Tree) → is_type k id.Dynamic ≡ false → is_some (read_as k t) ≡ true → Some (made (content_of t)) ≡ read_as k t
read_content k t h n = by (is_type k id.Shared) (is_type (held_type k) (tree_type t)) (ap (λ o. is_some (cond (is_type k id.Shared) None o)) (sym (content_read k t h)) ∙ n) ∙ ap (cond (is_type k id.Shared) None) (sym (content_read k t h))
  where
    by : (b d : Bool) → is_some (cond b None (option_map made (cond d (Some (content_of t)) None))) ≡ true
        → Some (made (content_of t)) ≡ cond b None (option_map made (cond d (Some (content_of t)) None))
    by true d e = cc
    by false true e = refl
    by false false e = cc

-- a value that isn't a holder is its own flat copy
unshared_flat : (s : List Cell) (t : Tree) → cell_of t ≡ None → flat s t ≡ copy t
unfolding end
unshared_flat s (node (leaf l) g m) h = ap (λ e. copy (unwrap_or (value_ahead e) (node (leaf l) g m))) (walk_opens end_of s [] (node (leaf l) g m))
unshared_flat s (node (branch k ts) g m) h = ap (λ e. copy (unwrap_or (value_ahead e) (node (branch k ts) g m))) (walk_opens end_of s [] (node (branch k ts) g m))
unshared_flat s (node (fields fs) g m) h = ap (λ e. copy (unwrap_or (value_ahead e) (node (fields fs) g m))) (walk_opens end_of s [] (node (fields fs) g m))
unshared_flat s (node (holder c) g m) h = cc

copied_type : (t : Tree) → tree_type (copy t) ≡ tree_type t
copied_type (node (leaf l) g m) = refl
copied_type (node (branch k ts) g m) = refl
copied_type (node (fields fs) g m) = refl
copied_type (node (holder c) g m) = refl

copied_content : (b : Bool) (t : Tree) → option_map made (cond b (Some (content_of (copy t))) None) ≡ option_map copy (option_map made (cond b (Some (content_of t)) None))
copied_content true (node c g m) = refl
copied_content false t = refl

-- the read of a copy is the copy of the read
copy_read : (k : TypeId) (t : Tree) → read k (copy t) ≡ option_map copy (read k t)
copy_read id.Dynamic t = refl
copy_read k t =
    ap (λ x. option_map made (cond (is_type (held_type k) x) (Some (content_of (copy t))) None)) (copied_type t) ∙ copied_content (is_type (held_type k) (tree_type t)) t

viewed_read : (k : TypeId) (t : Tree) → is_type k id.String ≡ false → viewed k t ≡ read k t
viewed_read id.String t h = cc
viewed_read _ t h = refl

viewed_flat : (k : TypeId) (s : List Cell) (t : Tree) → is_some (cell_of t) ≡ false → is_type k id.String ≡ false → option_map copy (viewed k t) ≡ read k (flat s t)
viewed_flat k s t h n = ap (option_map copy) (viewed_read k t n) ∙ sym (copy_read k t) ∙ ap (read k) (sym (unshared_flat s t (not_some (cell_of t) h)))

-- the borrow of a value that isn't a holder is what its flat copy is cast to
pub viewed_cast : (k : TypeId) (s : List Cell) (t : Tree) → is_some (cell_of t) ≡ false → is_type k id.String ≡ false → option_map copy (viewed_as k t) ≡ read_as k (flat s t)
viewed_cast k s t h n = by (is_type k id.Shared)
  where
    by : (b : Bool) → option_map copy (cond b None (viewed k t)) ≡ cond b None (read k (flat s t))
    by true = refl
    by false = viewed_flat k s t h n

-- no value is a `String`
pub unviewed_string : (k : TypeId) (t : Tree) → is_type k id.String ≡ true → option_map copy (viewed_as k t) ≡ None
unviewed_string id.String t h = refl
unviewed_string _ t h = cc
