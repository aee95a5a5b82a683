use Rattle.std.proofs.Common.{ap, ◌∙◌}
use Rattle.rhai_value.specs.Tree.{fresh, unit}
use Rattle.rhai_scope.specs.Entry.{with_value}
use Rattle.rhai_scope.specs.Lookup.{changed_at}
use Rattle.rhai_scope.proofs.MovedOut.{put_back}
use Rattle.rhai_scope.proofs.scope.Scope.take_at.Goals as goal

pub returns-in-Err-clause-err : goal.returns-in-Err-clause-err
returns-in-Err-clause-err g c =
    let i = c.in-Some.i in
    let value = c.lift-value.result in
    c.put.ensures
    ∙ ap (λ t. changed_at (with_value t) c.lift-value.new.self i) c.in-Err.ensures.err
    ∙ ap (λ es. changed_at (with_value value) es i) c.lift-value.ensures.left
    ∙ put_back value (fresh unit) c.args.self.now i c.lift-value.ensures.value
