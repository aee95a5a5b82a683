use Rattle.std.proofs.Common.{codes, refl, ap, sym, ◌∙◌}
use Rattle.rhai_scope.proofs.FromBelow.{fixed, added_as}
use Rattle.rhai_scope.specs.ScopeText.{constant_mark}
use Rattle.rhai_scope.proofs.shown.add_mark.Goals as goal

pub returns-then-is_constant : goal.returns-then-is_constant
returns-then-is_constant c = added_as c.add_text.result _ _ _ _ (fixed (codes "const ") refl ∙ ap constant_mark (sym c.if-is_constant.true)) c.add_text.ensures
