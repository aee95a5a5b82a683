-- Types that no value has, and values that can't be read.
use Rattle.std.proofs.Common.{◌≡◌, Bool, true, false, cond, List, [], Option, Some, None, option_and_then, is_some, refl, ap, ◌∙◌}
use Rattle.rhai_value.specs.declared.value.host.Host.TheVariants as host_kind
use Rattle.rhai_value.specs.declared.cells.store.Cell.{Cell}
use Rattle.rhai_value.specs.declared.value.type_id.TypeId.{TypeId}
use Rattle.rhai_value.specs.declared.value.type_id.TypeId.TheVariants as id
use Rattle.rhai_value.specs.End.{End, end, held_in, type_of, end_type}
use Rattle.rhai_value.specs.Tree.{Tree, node, leaf, branch, unit, host, array, cell_of}
use Rattle.rhai_value.specs.Types.{tree_type, is_type}
use Rattle.rhai_variant.specs.Reads.{held_type, viewed}
use Rattle.rhai_variant.proofs.ForCallers.{held_unshared}
use Rattle.rhai_cast.specs.Casts.{is_of, is_castable, locked}

-- no value is of this type
abbrev IsTypeOfNone : TypeId → Type 0
IsTypeOfNone k = (t : Tree) → is_type k (tree_type t) ≡ false

dynamic_of_none : IsTypeOfNone id.Dynamic
dynamic_of_none (node (leaf unit) g m) = refl
dynamic_of_none (node (leaf (host (host_kind.U8 n))) g m) = refl
dynamic_of_none (node (branch array ts) g m) = refl
dynamic_of_none _ = refl

string_of_none : IsTypeOfNone id.String
string_of_none (node (leaf unit) g m) = refl
string_of_none (node (leaf (host (host_kind.U8 n))) g m) = refl
string_of_none (node (branch array ts) g m) = refl
string_of_none _ = refl

of_none : (k : TypeId) → is_type k id.Shared ≡ false → IsTypeOfNone k → (o : Option Tree) → is_type k (type_of o) ≡ false
of_none k p h None = p
of_none k p h (Some t) = h t

pub no_dynamic : (t : Tree) (e : End) → is_of id.Dynamic t e ≡ false
no_dynamic t e = either (is_some (cell_of t))
  where
    either : (b : Bool) → is_type (cond b id.Dynamic id.Dynamic) (end_type e) ≡ false
    either true = of_none id.Dynamic refl dynamic_of_none (held_in e)
    either false = of_none id.Dynamic refl dynamic_of_none (held_in e)

pub no_string : (t : Tree) (e : End) → is_some (cell_of t) ≡ true → is_of id.String t e ≡ false
no_string t e shared = ap (λ b. is_type (cond b id.String id.ImmutableString) (end_type e)) shared ∙ of_none id.String refl string_of_none (held_in e)

pub not_of : (k : TypeId) (s : List Cell) (t : Tree) → is_type k id.Shared ≡ false → held_in (end s [] t) ≡ None → is_of k t (end s [] t) ≡ false
not_of k s t p none = ap (λ o. is_type (cond (is_some (cell_of t)) k (held_type k)) (type_of o)) none ∙ either (is_some (cell_of t))
  where
    either : (b : Bool) → is_type (cond b k (held_type k)) id.Shared ≡ false
    either true = p
    either false = held_unshared k p

pub not_castable : (k : TypeId) (s : List Cell) (t : Tree) → is_type k id.Shared ≡ false → is_type k id.Dynamic ≡ false → held_in (end s [] t) ≡ None → is_castable k (end s [] t) ≡ false
not_castable id.Dynamic s t p q none = absurd (cc)
not_castable k s t p q none = ap (λ o. is_type (held_type k) (type_of o)) none ∙ held_unshared k p

pub not_locked : (k : TypeId) (s : List Cell) (t : Tree) → is_type k id.Dynamic ≡ false → held_in (end s [] t) ≡ None → locked k s t ≡ None
not_locked id.Dynamic s t p none = absurd (cc)
not_locked k s t p none = ap (option_and_then (viewed k)) none
