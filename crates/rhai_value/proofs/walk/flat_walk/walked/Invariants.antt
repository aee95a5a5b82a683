use Rattle.std.proofs.Common.{◌≡◌, ◌+◌, ◌*◌}
use Rattle.rhai_value.specs.Frames.{unwound, sizes, AreAll}
use Rattle.rhai_value.proofs.walk.flat_walk.walked.Given as goal

abbrev pub invariant-loop-top : goal.invariant-loop-top
invariant-loop-top g l = record {
  comes : unwound g.J.Job.after l.frames.items (g.J.Job.run (g.J.Job.seen l.job) l.top) ≡ g.J.Job.run (g.J.Job.seen l.fn.job) l.fn.first;
  waiting : AreAll g.J.Job.is_waiting l.frames.items;
  ready : g.J.Job.is_ready l.top;
}

abbrev pub decreases-loop-top : goal.decreases-loop-top
decreases-loop-top g l = sizes g.J.Job.size l.frames.items + 2 * g.J.Job.size l.top + 2 * g.J.Job.left (g.J.Job.seen l.job)
