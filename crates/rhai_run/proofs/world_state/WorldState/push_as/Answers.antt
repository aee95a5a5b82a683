use Rattle.std.proofs.Common.{◌≡◌, ap, subst}
use Rattle.rhai_value.specs.Tree.{fresh, unit}
use Rattle.rhai_run.specs.State.{State, with_scope}
use Rattle.rhai_run.specs.StateCode.{state_of}
use Rattle.rhai_run.proofs.Moves.{entry_came_back, push_wants}
use Rattle.rhai_run.proofs.world_state.WorldState.push_as.Goals as goal

pub returns-in-Err : goal.returns-in-Err
returns-in-Err c =
    let w : State = state_of c.self.inside.store c.self.inside.scope c.self.inside.marks.items c.self.inside.hand.items c.self.inside.limits in (
      push_wants (λ t. c.args.access) c.args.self.now c.args.name.now c.args.i c.in_ok-value.field-0.now c.in_ok-value.ensures.ok,
      subst (λ v. with_scope w c.push_entry.new.self c.replace_at.new.values.items ≡ v) c.self.view_is
          (entry_came_back w c.args.i c.replace_at-value.result (fresh unit) c.in-Err.value c.push_entry.new.self c.replace_at.new.values.items
          c.replace_at-value.ensures.value (ap (λ p. p.1) c.in-Err.ensures.err.0) c.in-Err.ensures.err.1 (rw (← c.replace_at-value.ensures.after) c.replace_at.ensures.after)),
    )
