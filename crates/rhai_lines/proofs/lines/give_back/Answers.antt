use Rattle.rhai_lines.proofs.Collected.{given_back}
use Rattle.rhai_lines.proofs.lines.give_back.Goals as goal

pub returns : goal.returns
returns c =
    given_back c.collect_if_due-collected.result _ _ c.collecting_is_not_seen.ensures c.collect_if_due-collected.ensures.ok c.collect_if_due-collected.ensures.err
