use Rattle.std.proofs.Common.{string_bytes}
use Rattle.rhai_lines.specs.Output.{new_world}
use Rattle.rhai_lines.proofs.Replays.{replay, front_stops, front_grows, front_whole, none_left}
use Rattle.rhai_lines.proofs.journals.journal.Goals as goal

pub returns-in_err-add_line-clause-none : goal.returns-in_err-add_line-clause-none
returns-in_err-add_line-clause-none c = λ e. absurd (none_left c.args.commands.now c.loop-left.left.now c.loop-left.invariant.1 c.in-len1-up.len_at_least e)

pub returns-then-not-branch-clause-lines : goal.returns-then-not-branch-clause-lines
returns-then-not-branch-clause-lines c =
    front_stops c.args.commands.now c.loop-left.left.now c.command-item.result _ c.loop-left.invariant.0 c.in-len1-up.len_at_least c.command-item.is (rw c.if-not-branch.true at c.in_ok-add_line.ensures)

pub returns-in_err-push_str-clause-none : goal.returns-in_err-push_str-clause-none
returns-in_err-push_str-clause-none c = λ e. absurd (none_left c.args.commands.now c.loop-left.left.now c.loop-left.invariant.1 c.in-len1-up.len_at_least e)

pub loop-left-preserved : goal.loop-left-preserved
loop-left-preserved c = (
  front_grows c.args.commands.now c.loop-left.left.now c.command-item.result _ _ _ c.loop-left.invariant.0 c.in-len1-up.len_at_least c.command-item.is (rw c.if-not-branch.false at c.in_ok-add_line.ensures) c.in_ok-push_str.ensures.bytes,
  λ e. absurd (none_left c.args.commands.now c.loop-left.left.now c.loop-left.invariant.1 c.in-len1-up.len_at_least e),
)

pub returns-clause-lines : goal.returns-clause-lines
returns-clause-lines c = front_whole c.args.commands.now c.loop-left.left.now _ c.loop-left.invariant.0 c.in_default.len_below

pub returns-clause-replayed : goal.returns-clause-replayed
returns-clause-replayed c = replay c.args.commands.now (string_bytes c.loop-left.text) new_world (front_whole c.args.commands.now c.loop-left.left.now _ c.loop-left.invariant.0 c.in_default.len_below)
