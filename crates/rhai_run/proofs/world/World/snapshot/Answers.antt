use Rattle.std.proofs.Common.{◌≡◌, subst}
use Rattle.rhai_run.specs.KeptWorld.{Normalizes}
use Rattle.rhai_run.proofs.world.World.snapshot.Goals as goal

pub returns-in-Ok-clause-one : goal.returns-in-Ok-clause-one
returns-in-Ok-clause-one c r v y alike normal =
    let w = c.args.self.now in
    let s = c.normalize.new.self in
    let same : c.in_ok-state.state ≡ w = cc (c.in_ok-state.ensures.value, c.self.view_is) in
    let own : Normalizes w s = subst (λ x. Normalizes x s) same c.in-Ok.ensures.normalized in
    c.corresponding_worlds_have_one_normal_form.ensures r w v s y alike own normal
