use Rattle.std.proofs.Common.{codes, refl}
use Rattle.rhai_show.proofs.ForCallers.{added_as, fixed}
use Rattle.rhai_packs.proofs.maps.json.close.Goals as goal

pub returns-clause-text : goal.returns-clause-text
returns-clause-text c = added_as c.add_text.result _ _ _ _ (fixed (codes "}") refl) c.add_text.ensures.text
