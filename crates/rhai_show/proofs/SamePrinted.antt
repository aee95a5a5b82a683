-- Texts of values in stores that are equal up to a renaming of cells.
use Rattle.std.proofs.Common.{◌≡◌, ℕ, List, [], ◌∷◌, refl, ap, ap₂}
use mathlib.Core.Path.{fun_ext}
use Rattle.rhai_value.specs.declared.cells.store.Cell.{Cell}
use Rattle.rhai_value.specs.Tree.{Tree}
use Rattle.rhai_value.specs.Walk.{Visit, entered}
use Rattle.rhai_value.specs.Relation.{Renaming, Related, IsOneToOne, RelatedCells, RelatedPaths}
use Rattle.rhai_value.proofs.ForCallers.{by_related, AlikeVisit, Keeps, by_visits, same_walk_from}
use Rattle.rhai_show.specs.declared.form.Form.{Form}
use Rattle.rhai_show.specs.Text.{field_printed, branch_printed, map_printed, holder_printed, printed_of, all_printed, fields_printed, printed}

same_holder : (o q : Visit (Form → List ℕ)) → AlikeVisit ◌≡◌ o q → (form : Form) → holder_printed form o ≡ holder_printed form q
same_holder o q h form = by_visits ◌≡◌ (λ o q. holder_printed form o ≡ holder_printed form q) (λ a b e. ap (λ t. holder_printed form (entered t)) e) refl refl o q h

printed_kept : (r : Renaming) → Keeps r printed_of printed_of ◌≡◌
printed_kept r path road h k t u same to =
    by_related r (λ t u. printed_of path h t ≡ printed_of road k u) (λ ts us. all_printed path h ts ≡ all_printed road k us) (λ fs hs. fields_printed path h fs ≡ fields_printed road k hs)
    (λ l g m. refl) (λ i ts us g m e q. ap (λ vs form. branch_printed form i vs) q) (λ fs hs g m e q. ap (λ vs form. map_printed form vs) q) (λ c d g m p. fun_ext (same_holder (h c) (k d) (to c d p)))
    refl (λ t u ts us p q. ap₂ (λ v vs. v ∷ vs) p q) refl (λ n t u fs hs p q. ap₂ (λ v vs. (λ form. field_printed form n (v form)) ∷ vs) p q) t u

-- the text of a value doesn't depend on cell numbers, whichever paired cells are open
pub same_printed_from : (r : Renaming) (s z : List Cell) (path road : List ℕ) (t u : Tree) → IsOneToOne r → RelatedCells r s z → RelatedPaths r path road → Related r t u → printed s path t ≡ printed z road u
unfolding printed
same_printed_from r s z path road t u one cells same h = same_walk_from r printed_of printed_of ◌≡◌ s z (printed_kept r) one cells path road same t u h

pub same_printed : (r : Renaming) (s z : List Cell) (t u : Tree) → IsOneToOne r → RelatedCells r s z → Related r t u → printed s [] t ≡ printed z [] u
same_printed r s z t u one cells h = same_printed_from r s z [] [] t u one cells tt h
