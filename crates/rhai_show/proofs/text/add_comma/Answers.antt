use Rattle.std.proofs.Common.{codes, refl, sym, ap, ◌∙◌}
use Rattle.rhai_show.specs.Listed.{comma_unless}
use Rattle.rhai_show.proofs.Pushed.{fixed, added_as}
use Rattle.rhai_show.proofs.text.add_comma.Goals as goal

pub returns-else-is_first : goal.returns-else-is_first
returns-else-is_first c = added_as c.add_text.result _ _ _ _ (fixed (codes ", ") refl ∙ ap comma_unless (sym c.if-is_first.false)) c.add_text.ensures
