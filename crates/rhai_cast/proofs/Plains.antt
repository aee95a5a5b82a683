-- Items of a plain type are read as copies of their contents.
use Rattle.std.proofs.Common.{◌≡◌, Bool, true, false, List, Some, None, option_map, cond, refl, sym, ap, subst, ◌∙◌}
use Rattle.rhai_value.specs.declared.cells.store.Cell.{Cell}
use Rattle.rhai_value.specs.declared.value.type_id.TypeId.{TypeId}
use Rattle.rhai_value.specs.declared.value.type_id.TypeId.TheVariants as id
use Rattle.rhai_value.specs.End.{flattened}
use Rattle.rhai_value.specs.Tree.{Tree, node, leaf, branch, fields, holder, Leaf, Kind, array, function, made, content_of, copy}
use Rattle.rhai_value.specs.Types.{is_type, typed_content, leaf_type, kind_type}
use Rattle.rhai_variant.specs.Reads.{read, viewed}
use Rattle.rhai_cast.specs.Arrays.{is_plain}

viewed_typed : (k : TypeId) (t : Tree) → is_plain k ≡ true → viewed k t ≡ option_map made (typed_content k t)
viewed_typed id.String t p = absurd (cc)
viewed_typed id.Dynamic t p = absurd (cc)
viewed_typed k t p = refl

read_viewed : (k : TypeId) (t : Tree) → is_plain k ≡ true → read k t ≡ viewed k t
read_viewed id.String t p = absurd (cc)
read_viewed id.Dynamic t p = absurd (cc)
read_viewed k t p = refl

no_branch : (k : TypeId) (b : Kind) → is_plain k ≡ true → is_type k (kind_type b) ≡ false
no_branch id.Array b p = absurd (cc)
no_branch id.FnPtr b p = absurd (cc)
no_branch k array p = refl
no_branch k (function f) p = refl

no_fields : (k : TypeId) → is_plain k ≡ true → is_type k id.Map ≡ false
no_fields id.Map p = absurd (cc)
no_fields k p = refl

no_holder : (k : TypeId) → is_plain k ≡ true → is_type k id.Shared ≡ false
no_holder id.Shared p = absurd (cc)
no_holder k p = refl

copied_leaf : (b : Bool) (l : Leaf) (x : Tree) → Some x ≡ option_map made (cond b (Some (leaf l)) None) → copy x ≡ x
copied_leaf true l x e = let same : made (leaf l) ≡ x = cc in subst (λ y. copy y ≡ y) same refl
copied_leaf false l x e = absurd (cc)

nothing : {A : Type 0} (k : TypeId) (t x : Tree) (b : Bool) → b ≡ false → Some x ≡ option_map made (cond b (Some (content_of t)) None) → A
nothing k t x b other e = absurd (cc)

-- the content of a value of the type is read as a copy
pub plain_read : (k : TypeId) (s : List Cell) (t x : Tree) → is_plain k ≡ true → Some x ≡ viewed k t → Some (copy x) ≡ read k (flattened s t)
plain_read k s (node (leaf l) g m) x p e =
    ap Some (copied_leaf (is_type k (leaf_type l)) l x (e ∙ viewed_typed k (node (leaf l) g m) p)) ∙ e ∙ sym (read_viewed k (node (leaf l) g m) p)
plain_read k s (node (branch b ts) g m) x p e = nothing k (node (branch b ts) g m) x (is_type k (kind_type b)) (no_branch k b p) (e ∙ viewed_typed k (node (branch b ts) g m) p)
plain_read k s (node (fields fs) g m) x p e = nothing k (node (fields fs) g m) x (is_type k id.Map) (no_fields k p) (e ∙ viewed_typed k (node (fields fs) g m) p)
plain_read k s (node (holder c) g m) x p e = nothing k (node (holder c) g m) x (is_type k id.Shared) (no_holder k p) (e ∙ viewed_typed k (node (holder c) g m) p)
