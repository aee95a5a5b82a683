use Rattle.std.proofs.Common.{◌≡◌, List, Result, Ok, Err, ap, subst, sym, OnOk, OnErr, IfOk}
use Rattle.std.specs.declared.alloc.AllocError.{AllocError}
use Rattle.rhai_run.specs.declared.command.Command.{Command}
use Rattle.rhai_run.specs.Correspondence.{RunAlike}
use Rattle.rhai_run.specs.KeptWorld.{Normalizes, kept_pairs}
use Rattle.rhai_run.specs.Machine.{replies}
use Rattle.rhai_run.specs.State.{State}
use Rattle.tests_lines.proofs.calls.normalized.normalize_and_run.Goals as goal

-- whether the allocation for the normal form succeeds or not, the answers are the same
same : (w v : State) (cs : List Command) (r : Result (Unit {0}) AllocError) → OnOk r (Normalizes w v) → OnErr r (v ≡ w) → ((h : Normalizes w v) → RunAlike (kept_pairs h.cells) w v cs) → replies v cs ≡ replies w cs
same w v cs (Ok u) h e alike = sym (alike h).answers
same w v cs (Err f) h e alike = ap (λ x. replies x cs) e

pub returns : goal.returns
returns c =
    let w = c.args.world.now in
    let v = c.normalize.new.self in
    let cs = c.args.commands.now in
    let replied = same w v cs c.normalize.result c.normalize.ensures.normalized c.normalize.ensures.err (λ h. c.normalizing_is_not_seen.ensures w v h cs) in
    subst (λ qs. IfOk c.run.result (λ answers. answers.items ≡ qs)) replied c.run.ensures.answers
