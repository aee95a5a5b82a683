use Rattle.std.proofs.Common.{sym, ap, ◌∙◌, is_some}
use Rattle.rhai_variant.proofs.Readings.{read_by_type}
use Rattle.rhai_variant.proofs.laws.what_is_made.Goals as goal

pub returns : goal.returns
returns g c = λ x p. sym (read_by_type g.T.Variant.KIND (g.T.Variant.tree x) p) ∙ ap is_some (g.met.T.Variant.made_is_read x)
