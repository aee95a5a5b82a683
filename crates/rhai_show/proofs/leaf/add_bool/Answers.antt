use Rattle.std.proofs.Common.{codes, refl, ap, sym, ◌∙◌}
use Rattle.rhai_show.specs.Leaves.{bool_text}
use Rattle.rhai_show.proofs.Pushed.{fixed, added_as}
use Rattle.rhai_show.proofs.leaf.add_bool.Goals as goal

pub returns-then-value : goal.returns-then-value
returns-then-value c = added_as c.add_text.result _ _ _ _ (fixed (codes "true") refl ∙ ap bool_text (sym c.if-value.true)) c.add_text.ensures

pub returns-else-value : goal.returns-else-value
returns-else-value c = added_as c.add_text-else-value.result _ _ _ _ (fixed (codes "false") refl ∙ ap bool_text (sym c.if-value.false)) c.add_text-else-value.ensures
