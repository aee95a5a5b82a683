-- Plain values in stores that are equal up to a renaming of cells.
use Rattle.std.proofs.Common.{◌≡◌, ℕ, List, [], Option, option_map, refl, ap, ap₂}
use Rattle.rhai_value.specs.declared.cells.store.Cell.{Cell}
use Rattle.rhai_value.specs.Tree.{Tree}
use Rattle.rhai_value.specs.Walk.{Visit}
use Rattle.rhai_value.specs.Relation.{Renaming, Related, IsOneToOne, RelatedCells, RelatedPaths}
use Rattle.rhai_value.proofs.ForCallers.{by_related, AlikeVisit, Keeps, by_visits, same_walk_from}
use Rattle.rhai_show.specs.Plain.{Plain, plain_branch, plain_map, plain_more, plain_field_more, plain_held, plain_of, all_plain, fields_plain, plain}

same_held : (o q : Visit (Option Plain)) → AlikeVisit ◌≡◌ o q → plain_held o ≡ plain_held q
same_held o q h = by_visits ◌≡◌ (λ o q. plain_held o ≡ plain_held q) (λ a b e. e) refl refl o q h

plain_kept : (r : Renaming) → Keeps r plain_of plain_of ◌≡◌
plain_kept r path road h k t u same to =
    by_related r (λ t u. plain_of path h t ≡ plain_of road k u) (λ ts us. all_plain path h ts ≡ all_plain road k us) (λ fs hs. fields_plain path h fs ≡ fields_plain road k hs)
    (λ l g m. refl) (λ i ts us g m e q. ap (option_map (plain_branch i)) q) (λ fs hs g m e q. ap (option_map plain_map) q) (λ c d g m p. same_held (h c) (k d) (to c d p))
    refl (λ t u ts us p q. ap₂ plain_more p q) refl (λ n t u fs hs p q. ap₂ (plain_field_more n) p q) t u

-- the plain value of a value doesn't depend on cell numbers, whichever paired cells are open
pub same_plain_from : (r : Renaming) (s z : List Cell) (path road : List ℕ) (t u : Tree) → IsOneToOne r → RelatedCells r s z → RelatedPaths r path road → Related r t u → plain s path t ≡ plain z road u
unfolding plain
same_plain_from r s z path road t u one cells same h = same_walk_from r plain_of plain_of ◌≡◌ s z (plain_kept r) one cells path road same t u h

pub same_plain : (r : Renaming) (s z : List Cell) (t u : Tree) → IsOneToOne r → RelatedCells r s z → Related r t u → plain s [] t ≡ plain z [] u
same_plain r s z t u one cells h = same_plain_from r s z [] [] t u one cells tt h
