use Rattle.std.proofs.Common.{option_and_then, ap, ◌∙◌, inr}
use Rattle.rhai_value.proofs.LentPart.{put_back}
use Rattle.rhai_value.proofs.parts.lent.content_part_of.Goals as goal

pub returns-in-None : goal.returns-in-None
returns-in-None g c =
    let is = c.in_ok-cell_content_mut.ensures.value in
    (ap inr (put_back c.args.found.place c.args.store.now c.in_ok-cell_content_mut.field-0.now is), record { writes_back = tt; value = c.in-None.ensures.value ∙ ap (option_and_then g.T.Part.part_of) is })
