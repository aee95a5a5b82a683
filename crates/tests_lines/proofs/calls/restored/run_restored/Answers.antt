use Rattle.std.proofs.Common.{◌≡◌, ap, sym, ◌∙◌}
use Rattle.rhai_run.specs.Machine.{replies}
use Rattle.tests_lines.proofs.calls.restored.run_restored.Goals as goal

-- the restored world is the normal form, whose answers are those of the world
pub returns-in-Ok : goal.returns-in-Ok
returns-in-Ok c =
    let cs = c.args.commands.now in
    let alike = c.normalizing_is_not_seen.ensures c.args.world.now c.in_ok-snapshot.snapshot c.in_ok-snapshot.ensures.ok cs in
    c.in-Ok.ensures.answers ∙ ap (λ w. replies w cs) c.in_ok-restored.ensures.ok ∙ sym alike.answers
