use Rattle.std.proofs.Common.{◌≡◌, ◌+◌, ◌*◌, ◌≤◌}
use Rattle.rhai_value.specs.Frames.{unwound, sizes, AreAll}
use Rattle.rhai_value.proofs.walk.flat_walk.+searched.Given as goal

abbrev pub decreases-searched : goal.decreases-searched
decreases-searched g l = g.J.Search.size l.first + g.J.Search.left (g.J.Search.seen l.job.now)

abbrev pub invariant-loop-child : goal.invariant-loop-child
invariant-loop-child g l = record {
  comes : unwound g.J.Search.after l.frames.items (g.J.Search.run (g.J.Search.seen l.job) l.top) ≡ g.J.Search.run (g.J.Search.seen l.fn.job) l.fn.first;
  waiting : AreAll g.J.Search.is_waiting l.frames.items;
  ready : g.J.Search.is_ready l.top;
  below : sizes g.J.Search.size l.frames.items + 2 * g.J.Search.size l.top + 2 * g.J.Search.left (g.J.Search.seen l.job) ≤ 2 * g.J.Search.size l.fn.first + 2 * g.J.Search.left (g.J.Search.seen l.fn.job);
}

abbrev pub decreases-loop-child : goal.decreases-loop-child
decreases-loop-child g l = sizes g.J.Search.size l.frames.items + 2 * g.J.Search.size l.top + 2 * g.J.Search.left (g.J.Search.seen l.job)
