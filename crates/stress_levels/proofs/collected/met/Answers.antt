use Rattle.std.proofs.Common.{ap, ◌∙◌}
use Rattle.rhai_value.proofs.ForCallers.{flags_counted}
use Rattle.rhai_value.specs.Cells.{cells_in}
use Rattle.rhai_value.specs.Meetings.{all_met}
use Rattle.stress_levels.proofs.collected.met.Goals as goal

pub returns : goal.returns
returns c =
    let ns = cells_in c.args.value.now in
    flags_counted c.args.store.now ns c.mark_reachable.new.self (c.mark_reachable.ensures.met ∙ ap (λ m. all_met m ns) c.in_ok-reach.ensures.met)
