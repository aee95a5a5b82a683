-- Casts, type tests and borrows don't depend on cell numbers.
use Rattle.std.proofs.Common.{◌≡◌, cond, List, [], refl, ap, ap₂}
use Rattle.rhai_value.specs.declared.cells.store.Cell.{Cell}
use Rattle.rhai_value.specs.declared.value.type_id.TypeId.{TypeId}
use Rattle.rhai_value.specs.declared.value.type_id.TypeId.TheVariants as id
use Rattle.rhai_value.specs.End.{end, flat, flattened}
use Rattle.rhai_value.specs.Relation.{Renaming, Related, Alike, IsOneToOne, RelatedCells}
use Rattle.rhai_value.specs.Tree.{Tree}
use Rattle.rhai_value.specs.Types.{is_type}
use Rattle.rhai_value.proofs.ForCallers.{same_end, same_end_type, same_first, same_flat, same_flattened, same_held_part, same_shared}
use Rattle.rhai_variant.specs.Reads.{held_type, read, viewed}
use Rattle.rhai_variant.proofs.ForCallers.{same_read, same_viewed}
use Rattle.rhai_cast.specs.Casts.{is_of, is_castable, locked}

pub same_moved : (r : Renaming) (k : TypeId) (s z : List Cell) (t u : Tree) → IsOneToOne r → RelatedCells r s z → Related r t u → Alike (Related r) (read k (flattened s t)) (read k (flattened z u))
same_moved r k s z t u one cells h = same_read r k (flattened s t) (flattened z u) (same_flattened r s z t u one cells h)

pub same_copied : (r : Renaming) (k : TypeId) (s z : List Cell) (t u : Tree) → IsOneToOne r → RelatedCells r s z → Related r t u → Alike (Related r) (read k (flat s t)) (read k (flat z u))
same_copied r k s z t u one cells h = same_read r k (flat s t) (flat z u) (same_flat r s z t u one cells h)

pub same_is : (r : Renaming) (k : TypeId) (s z : List Cell) (t u : Tree) → IsOneToOne r → RelatedCells r s z → Related r t u → is_of k t (end s [] t) ≡ is_of k u (end z [] u)
same_is r k s z t u one cells h =
    ap₂ (λ b o. is_type (cond b k (held_type k)) o) (same_shared r t u h) (same_end_type r (end s [] t) (end z [] u) (same_end r s z t u one cells h))

pub same_castable : (r : Renaming) (k : TypeId) (s z : List Cell) (t u : Tree) → IsOneToOne r → RelatedCells r s z → Related r t u → is_castable k (end s [] t) ≡ is_castable k (end z [] u)
same_castable r id.Dynamic s z t u one cells h = refl
same_castable r k s z t u one cells h = ap (is_type (held_type k)) (same_end_type r (end s [] t) (end z [] u) (same_end r s z t u one cells h))

pub same_locked : (r : Renaming) (k : TypeId) (s z : List Cell) (t u : Tree) → IsOneToOne r → RelatedCells r s z → Related r t u → Alike (Related r) (locked k s t) (locked k z u)
same_locked r id.Dynamic s z t u one cells h = same_first r s z cells t u h
same_locked r k s z t u one cells h = same_held_part r (Related r) (viewed k) (same_viewed r k) (end s [] t) (end z [] u) (same_end r s z t u one cells h)
