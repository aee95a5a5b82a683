use Rattle.std.proofs.Common.{length, subst}
use Rattle.rhai_show.specs.InRange.{IsCount, IsName}
use Rattle.rhai_show.proofs.Ranges.{on_then, a_name}
use Rattle.rhai_show.proofs.hash_bytes.add_text.Goals as goal

pub returns-clause-range : goal.returns-clause-range
returns-clause-range c =
    on_then c.add_kind_sized.result
    (λ h. subst IsName c.as_str.ensures.characters (a_name c.as_str.result.now c.as_str.utf8 (subst (λ bs. IsCount (length bs)) c.as_bytes.ensures.value h))) c.add_kind_sized.ensures.range
