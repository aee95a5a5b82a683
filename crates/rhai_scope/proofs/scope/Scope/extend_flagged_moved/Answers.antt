use Rattle.std.proofs.Common.{◌∙◌}
use Rattle.std.proofs.lemmas.Result.{on_ok_weaker}
use Rattle.rhai_scope.proofs.Extended.{headed_flags}
use Rattle.rhai_scope.proofs.scope.Scope.extend_flagged_moved.Goals as goal

pub returns-clause-ok : goal.returns-clause-ok
returns-clause-ok c = on_ok_weaker c.extend_headed.result (λ is. is ∙ headed_flags c.args.self.now c.args.names.items c.args.values.items) c.extend_headed.ensures.ok
