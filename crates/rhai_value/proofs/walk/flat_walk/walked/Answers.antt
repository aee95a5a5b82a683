use Rattle.std.proofs.Common.{◌≡◌, ◌+◌, ◌*◌, ◌<◌, ◌≤◌, [], ◌∷◌, ◌++◌, arith, ap, ap₂, sym, ◌∙◌}
use Rattle.rhai_value.specs.Frames.{unwound, unwound_last, sizes, sizes_last, all_last, last_of_all}
use Rattle.rhai_value.proofs.walk.flat_walk.walked.Goals as goal

pub loop-top-smaller-in-Continue-branch-3 : goal.loop-top-smaller-in-Continue-branch-3
loop-top-smaller-in-Continue-branch-3 g c =
    let size = g.J.Job.size in
    let fs = c.loop-top.frames.items in
    let went = rw c.in-Some.is at c.in_ok-child.ensures in
    let pushed : c.push.new.self.items ≡ fs ++ c.step.new.frame ∷ [] = cc (c.in_ok-push-in-Some.ensures.items, c.replace.ensures.value) in
    let all : sizes size c.push.new.self.items ≡ sizes size fs + (2 * size c.step.new.frame + 1) = ap (sizes size) pushed ∙ sizes_last size fs c.step.new.frame in
    omega (arith, all, ap size c.replace.ensures.after, went.1)

pub loop-top-preserved-in-Continue-branch-3 : goal.loop-top-preserved-in-Continue-branch-3
loop-top-preserved-in-Continue-branch-3 g c =
    let after = g.J.Job.after in
    let fs = c.loop-top.frames.items in
    let went = rw c.in-Some.is at c.in_ok-child.ensures in
    let pushed : c.push.new.self.items ≡ fs ++ c.step.new.frame ∷ [] = cc (c.in_ok-push-in-Some.ensures.items, c.replace.ensures.value) in
    let came = g.J.Job.run (g.J.Job.seen c.step.new.self) c.replace.new.dest in
    let down : g.J.Job.run (g.J.Job.seen c.loop-top.job) c.loop-top.top ≡ after came.0 c.step.new.frame came.1 = rw c.replace.ensures.after went.0 in
    record {
      comes = ap (λ xs. unwound after xs came) pushed ∙ unwound_last after fs c.step.new.frame came ∙ ap (unwound after fs) (sym down) ∙ c.loop-top.invariant.comes;
      waiting = rw pushed (all_last g.J.Job.is_waiting fs c.step.new.frame c.loop-top.invariant.waiting went.2);
      ready = rw c.replace.ensures.after went.3;
    }

pub loop-top-smaller : goal.loop-top-smaller
loop-top-smaller g c =
    let size = g.J.Job.size in
    let all : sizes size c.loop-top.frames.items ≡ sizes size c.pop.new.self.items + (2 * size c.in-Some-pop.up + 1) = ap (sizes size) c.in-Some-pop.ensures.items ∙ sizes_last size c.pop.new.self.items c.in-Some-pop.up in
    omega (arith, all, c.in_ok-add-in-Some-pop.ensures.1, c.in_ok-done-in-None.ensures.1, (rw c.in-None.is at c.in_ok-child.ensures).2)

pub loop-top-preserved : goal.loop-top-preserved
loop-top-preserved g c =
    let after = g.J.Job.after in
    let left = c.pop.new.self.items in
    let up = c.in-Some-pop.up in
    let ended = (rw c.in-None.is at c.in_ok-child.ensures).0 ∙ c.in_ok-done-in-None.ensures.0 in
    record {
      comes = ap (unwound after left) c.in_ok-add-in-Some-pop.ensures.0 ∙ sym (unwound_last after left up (g.J.Job.seen c.finish.new.self, c.in_ok-done-in-None.done)) ∙ ap₂ (unwound after) (sym c.in-Some-pop.ensures.items) (sym ended) ∙ c.loop-top.invariant.comes;
      waiting = (last_of_all g.J.Job.is_waiting left up (rw c.in-Some-pop.ensures.items at c.loop-top.invariant.waiting)).0;
      ready = c.in_ok-add-in-Some-pop.ensures.2;
    }

pub add-requires : goal.add-requires
add-requires g c = (last_of_all g.J.Job.is_waiting c.pop.new.self.items c.in-Some-pop.up (rw c.in-Some-pop.ensures.items at c.loop-top.invariant.waiting)).1
