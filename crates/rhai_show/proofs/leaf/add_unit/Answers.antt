use Rattle.std.proofs.Common.{codes, refl, ap, sym, ◌∙◌}
use Rattle.rhai_value.specs.Tree.{unit}
use Rattle.rhai_show.specs.Leaves.{leaf_printed}
use Rattle.rhai_show.proofs.Pushed.{fixed, added_as}
use Rattle.rhai_show.proofs.leaf.add_unit.Goals as goal

pub returns-in-Debug : goal.returns-in-Debug
returns-in-Debug c = added_as c.add_text.result _ _ _ _ (fixed (codes "()") refl ∙ ap (λ f. leaf_printed f unit) (sym c.in-Debug.is)) c.add_text.ensures
