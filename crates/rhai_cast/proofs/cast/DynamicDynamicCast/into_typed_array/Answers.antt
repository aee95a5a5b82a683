use Rattle.std.proofs.Common.{Some, sym, ap, ◌∙◌}
use Rattle.rhai_cast.proofs.Items.{typed_bytes}
use Rattle.rhai_cast.proofs.cast.DynamicDynamicCast.into_typed_array.Goals as goal

pub returns-in-Some-clause-ok : goal.returns-in-Some-clause-ok
returns-in-Some-clause-ok g c = typed_bytes g.T.Variant.KIND c.args.store.now c.args.self _ c.in-Some.ensures ∙ ap Some (sym c.in_ok-read_bytes.ensures.bytes)
