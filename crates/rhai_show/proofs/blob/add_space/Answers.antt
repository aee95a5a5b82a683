use Rattle.std.proofs.Common.{◌∙◌, codes, refl, arith}
use Rattle.std.proofs.lemmas.Bool.Decides.{nat_tests}
use Rattle.rhai_show.specs.Leaves.{space_before}
use Rattle.rhai_show.proofs.Pushed.{fixed, added_as}
use Rattle.rhai_show.proofs.blob.add_space.Goals as goal

pub returns-then-index-eq0 : goal.returns-then-index-eq0
returns-then-index-eq0 c = added_as c.add_text.result _ _ _ (space_before c.args.index) (fixed (codes " ") refl ∙ grind (arith, nat_tests)) c.add_text.ensures
