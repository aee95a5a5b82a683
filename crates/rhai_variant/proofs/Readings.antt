-- Reading a value, by its type.
use Rattle.std.proofs.Common.{◌≡◌, Bool, true, false, Option, Some, None, option_map, is_some, cond, refl, ◌∙◌}
use Rattle.rhai_value.specs.declared.value.type_id.TypeId.{TypeId}
use Rattle.rhai_value.specs.declared.value.type_id.TypeId.TheVariants as id
use Rattle.rhai_value.specs.Tree.{Tree, node, leaf, branch, fields, holder, Content, content_of, cell_of, made}
use Rattle.rhai_value.specs.Types.{is_type, tree_type}
use Rattle.rhai_variant.specs.Reads.{held_type, read, viewed}

some_if : (b : Bool) (c : Content) → is_some (option_map made (cond b (Some c) None)) ≡ b
some_if true c = refl
some_if false c = refl

-- a read succeeds exactly on the values of the type
pub read_by_type : (k : TypeId) (t : Tree) → is_type k id.Dynamic ≡ false → is_some (read k t) ≡ is_type (held_type k) (tree_type t)
read_by_type id.Dynamic t p = absurd (cc)
read_by_type id.String t p = some_if (is_type id.ImmutableString (tree_type t)) (content_of t)
read_by_type k t p = some_if (is_type k (tree_type t)) (content_of t)

pub viewed_is_read : (k : TypeId) (t : Tree) → is_type k id.String ≡ false → viewed k t ≡ read k t
viewed_is_read id.String t p = absurd (cc)
viewed_is_read k t p = refl

-- no type but `Shared` is read from a holder
pub held_unshared : (k : TypeId) → is_type k id.Shared ≡ false → is_type (held_type k) id.Shared ≡ false
held_unshared id.String p = refl
held_unshared k p = p

none_from : {A : Type 0} (o : Option A) → is_some o ≡ false → o ≡ None
none_from None h = refl
none_from (Some x) h = cc

pub no_holder_read : (k : TypeId) (t : Tree) → is_type k id.Dynamic ≡ false → is_type k id.Shared ≡ false → is_some (cell_of t) ≡ true → read k t ≡ None
no_holder_read k (node (holder c) g m) p q h = none_from (read k (node (holder c) g m)) (read_by_type k (node (holder c) g m) p ∙ held_unshared k q)
no_holder_read k (node (leaf l) g m) p q h = cc
no_holder_read k (node (branch b ts) g m) p q h = cc
no_holder_read k (node (fields fs) g m) p q h = cc

pub no_holder_viewed : (k : TypeId) (t : Tree) → is_type k id.Dynamic ≡ false → is_type k id.Shared ≡ false → is_some (cell_of t) ≡ true → viewed k t ≡ None
no_holder_viewed id.String t p q h = refl
no_holder_viewed id.Dynamic t p q h = absurd (cc)
no_holder_viewed k t p q h = no_holder_read k t p q h
