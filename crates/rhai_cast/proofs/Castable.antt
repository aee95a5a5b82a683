-- A value can be cast exactly if its flat value can be read as the type.
use Rattle.std.proofs.Common.{◌≡◌, List, [], is_some, refl, ap, ◌∙◌}
use Rattle.rhai_value.specs.declared.cells.store.Cell.{Cell}
use Rattle.rhai_value.specs.declared.value.type_id.TypeId.{TypeId}
use Rattle.rhai_value.specs.declared.value.type_id.TypeId.TheVariants as id
use Rattle.rhai_value.specs.End.{End, end, flat, flattened, end_type}
use Rattle.rhai_value.specs.Tree.{Tree}
use Rattle.rhai_value.specs.Types.{is_type, tree_type}
use Rattle.rhai_variant.specs.Reads.{held_type, read}
use Rattle.rhai_variant.proofs.ForCallers.{read_by_type}
use Rattle.rhai_cast.specs.Casts.{is_castable}
use Rattle.rhai_cast.proofs.FlatValues.{flat_type, flattened_type}

-- a value of the held type can be read exactly if one that holds the type can be cast
castable_is : (k : TypeId) (t : Tree) (e : End) → tree_type t ≡ end_type e → is_some (read k t) ≡ is_castable k e
castable_is id.Dynamic t e same = refl
castable_is k t e same = read_by_type k t refl ∙ ap (is_type (held_type k)) same

pub moved_castable : (k : TypeId) (s : List Cell) (t : Tree) → is_some (read k (flattened s t)) ≡ is_castable k (end s [] t)
moved_castable k s t = castable_is k (flattened s t) (end s [] t) (flattened_type s t)

pub copied_castable : (k : TypeId) (s : List Cell) (t : Tree) → is_some (read k (flat s t)) ≡ is_castable k (end s [] t)
copied_castable k s t = castable_is k (flat s t) (end s [] t) (flat_type s t)
