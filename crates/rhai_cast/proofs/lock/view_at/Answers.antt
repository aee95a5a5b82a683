use Rattle.std.proofs.Common.{option_and_then, ap, ◌∙◌, inr}
use Rattle.rhai_value.proofs.ForCallers.{put_back}
use Rattle.rhai_variant.specs.Reads.{viewed}
use Rattle.rhai_cast.proofs.lock.view_at.Goals as goal

pub returns-in-None : goal.returns-in-None
returns-in-None g c =
    let is = c.in_ok-content_at_mut.ensures.value in
    (ap inr (put_back c.args.place c.args.store.now c.in_ok-content_at_mut.field-0.now is), record { writes_back = tt; value = c.in-None.ensures.value ∙ ap (option_and_then (viewed g.T.Variant.KIND)) is })
