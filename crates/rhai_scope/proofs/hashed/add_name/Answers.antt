use Rattle.std.proofs.Common.{sym, ap, ◌∙◌}
use Rattle.std.proofs.lemmas.Str.{encodes-chars}
use Rattle.rhai_show.specs.HashBytes.{sized}
use Rattle.rhai_scope.proofs.FromBelow.{added_as}
use Rattle.rhai_scope.proofs.hashed.add_name.Goals as goal

pub returns : goal.returns
returns c = added_as c.add_sized.result _ _ _ _ (ap sized (c.as_bytes.ensures.value ∙ sym (encodes-chars c.args.name.now c.utf8.name))) c.add_sized.ensures
