use Rattle.rhai_value.proofs.Placed.{is_lent}
use Rattle.rhai_value.proofs.cells.store.Store.lend_held.Goals as goal

pub returns-clause-lent : goal.returns-clause-lent
returns-clause-lent c =
    rw (c.take-content.ensures.left, c.take-content.ensures.value)
    (is_lent c.args.self.now c.mark_held.new.self c.args.holder.now c.in_ok-token.token c.through_mut.result.now c.in_ok-token.ensures.which c.in_ok-token.ensures.after c.through_mut.ensures.value)
