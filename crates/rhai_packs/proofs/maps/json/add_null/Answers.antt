use Rattle.std.proofs.Common.{codes, refl}
use Rattle.rhai_show.proofs.ForCallers.{added_fixed}
use Rattle.rhai_packs.proofs.maps.json.add_null.Goals as goal

pub returns-clause-text : goal.returns-clause-text
returns-clause-text c = (refl, added_fixed _ _ (codes "null") refl c.in_ok-add_text.ensures.text)
