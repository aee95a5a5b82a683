use Rattle.std.proofs.Common.{codes, refl, sym, ap, ◌∙◌}
use Rattle.rhai_packs.specs.Json.{comma_unless}
use Rattle.rhai_show.proofs.ForCallers.{added_as, fixed}
use Rattle.rhai_packs.proofs.maps.json.add_comma.Goals as goal

pub returns-clause-text : goal.returns-clause-text
returns-clause-text c = added_as c.add_text.result _ _ _ _ (fixed (codes ",") refl ∙ ap comma_unless (sym c.if-is_first.false)) c.add_text.ensures.text
