-- A copy prints as the value does.
use Rattle.std.proofs.Common.{◌≡◌, ℕ, List, ◌∷◌, refl, sym, ap, ap₂, ◌∙◌}
use Rattle.rhai_value.specs.declared.cells.store.Cell.{Cell}
use Rattle.rhai_value.specs.Tree.{Tree, copy, copy_trees, copy_fields}
use Rattle.rhai_value.specs.Walk.{Visit}
use Rattle.rhai_value.proofs.ForCallers.{by_value}
use Rattle.rhai_show.specs.declared.form.Form.{Form}
use Rattle.rhai_show.specs.Text.{branch_printed, map_printed, field_printed, printed_of, all_printed, fields_printed, printed}
use Rattle.rhai_show.proofs.Printed.{within, printed_opens}

tree_copied : (path : List ℕ) (go : ℕ → Visit (Form → List ℕ)) (t : Tree) → printed_of path go (copy t) ≡ printed_of path go t
tree_copied path go =
    by_value (λ t. printed_of path go (copy t) ≡ printed_of path go t) (λ ts. all_printed path go (copy_trees ts) ≡ all_printed path go ts) (λ fs. fields_printed path go (copy_fields fs) ≡ fields_printed path go fs)
    (λ l g m. refl) (λ k ts g m h. ap (λ vs form. branch_printed form k vs) h) (λ fs g m h. ap (λ vs form. map_printed form vs) h) (λ c g m. refl)
    refl (λ t ts p q. ap₂ ◌∷◌ p q) refl (λ k t fs p q. ap₂ (λ v vs. (λ form. field_printed form k (v form)) ∷ vs) p q)

pub copy_printed : (s : List Cell) (path : List ℕ) (t : Tree) → printed s path (copy t) ≡ printed s path t
copy_printed s path t = printed_opens s path (copy t) ∙ tree_copied path (within s path) t ∙ sym (printed_opens s path t)
