use Rattle.std.proofs.Common.{length, sym, ap, ◌∙◌, subst}
use Rattle.std.proofs.lemmas.Str.{encodes-chars}
use Rattle.rhai_show.specs.HashBytes.{sized}
use Rattle.rhai_show.specs.InRange.{IsCount}
use Rattle.rhai_show.proofs.Pushed.{added_as}
use Rattle.rhai_show.proofs.Ranges.{on_then, a_name}
use Rattle.rhai_show.proofs.hash_bytes.add_name.Goals as goal

pub returns-clause-bytes : goal.returns-clause-bytes
returns-clause-bytes c = added_as c.add_sized.result _ _ _ _ (ap sized (c.as_bytes.ensures.value ∙ sym (encodes-chars c.args.name.now c.utf8.name))) c.add_sized.ensures.bytes

pub returns-clause-range : goal.returns-clause-range
returns-clause-range c = on_then c.add_sized.result (λ h. a_name c.args.name.now c.utf8.name (subst (λ bs. IsCount (length bs)) c.as_bytes.ensures.value h)) c.add_sized.ensures.range
