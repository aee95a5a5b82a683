use Rattle.std.proofs.Common.{◌≡◌, ◌+◌, ◌*◌, ◌<◌, ◌≤◌, [], ◌∷◌, ◌++◌, arith, ap, ap₂, sym, ◌∙◌}
use Rattle.rhai_value.specs.Frames.{unwound, unwound_last, sizes, sizes_last, all_last, last_of_all}
use Rattle.rhai_value.proofs.walk.flat_walk.+searched.Goals as goal

pub loop-child-smaller-then-is_ok : goal.loop-child-smaller-then-is_ok
loop-child-smaller-then-is_ok g t c =
    let size = g.J.Search.size in
    let fs = c.loop-child.frames.items in
    let pushed : c.push_reserved.new.self.items ≡ fs ++ c.step.new.frame ∷ [] = cc (c.push_reserved.ensures.items, c.reserve.ensures.items, c.replace.ensures.value) in
    let all : sizes size c.push_reserved.new.self.items ≡ sizes size fs + (2 * size c.step.new.frame + 1) = ap (sizes size) pushed ∙ sizes_last size fs c.step.new.frame in
    omega (arith, all, ap size c.replace.ensures.after, c.in-Some.ensures.1)

pub loop-child-preserved-then-is_ok : goal.loop-child-preserved-then-is_ok
loop-child-preserved-then-is_ok g t c =
    let size = g.J.Search.size in
    let after = g.J.Search.after in
    let fs = c.loop-child.frames.items in
    let pushed : c.push_reserved.new.self.items ≡ fs ++ c.step.new.frame ∷ [] = cc (c.push_reserved.ensures.items, c.reserve.ensures.items, c.replace.ensures.value) in
    let all : sizes size c.push_reserved.new.self.items ≡ sizes size fs + (2 * size c.step.new.frame + 1) = ap (sizes size) pushed ∙ sizes_last size fs c.step.new.frame in
    let came = g.J.Search.run (g.J.Search.seen c.step.new.self) c.replace.new.dest in
    let down : g.J.Search.run (g.J.Search.seen c.loop-child.job) c.loop-child.top ≡ after came.0 c.step.new.frame came.1 = rw c.replace.ensures.after c.in-Some.ensures.0 in
    record {
      comes = ap (λ xs. unwound after xs came) pushed ∙ unwound_last after fs c.step.new.frame came ∙ ap (unwound after fs) (sym down) ∙ c.loop-child.invariant.comes;
      waiting = rw pushed (all_last g.J.Search.is_waiting fs c.step.new.frame c.loop-child.invariant.waiting c.in-Some.ensures.2);
      ready = rw c.replace.ensures.after c.in-Some.ensures.3;
      below = omega (arith, all, ap size c.replace.ensures.after, c.in-Some.ensures.1, c.loop-child.invariant.below);
    }

pub loop-child-smaller : goal.loop-child-smaller
loop-child-smaller g t c =
    let size = g.J.Search.size in
    let all : sizes size c.loop-child.frames.items ≡ sizes size c.pop.new.self.items + (2 * size c.in-Some-pop.up + 1) = ap (sizes size) c.in-Some-pop.ensures.items ∙ sizes_last size c.pop.new.self.items c.in-Some-pop.up in
    omega (arith, all, c.add-in-Some-pop.ensures.1, c.finish-done.ensures.1, c.in-None.ensures.2)

pub loop-child-preserved : goal.loop-child-preserved
loop-child-preserved g t c =
    let size = g.J.Search.size in
    let after = g.J.Search.after in
    let left = c.pop.new.self.items in
    let up = c.in-Some-pop.up in
    let all : sizes size c.loop-child.frames.items ≡ sizes size left + (2 * size up + 1) = ap (sizes size) c.in-Some-pop.ensures.items ∙ sizes_last size left up in
    let ended = c.in-None.ensures.0 ∙ c.finish-done.ensures.0 in
    record {
      comes = ap (unwound after left) c.add-in-Some-pop.ensures.0 ∙ sym (unwound_last after left up (g.J.Search.seen c.finish-done.new.self, c.finish-done.result)) ∙ ap₂ (unwound after) (sym c.in-Some-pop.ensures.items) (sym ended) ∙ c.loop-child.invariant.comes;
      waiting = (last_of_all g.J.Search.is_waiting left up (rw c.in-Some-pop.ensures.items at c.loop-child.invariant.waiting)).0;
      ready = c.add-in-Some-pop.ensures.2;
      below = omega (arith, all, c.add-in-Some-pop.ensures.1, c.finish-done.ensures.1, c.in-None.ensures.2, c.loop-child.invariant.below);
    }

pub add-requires-in-Some-pop : goal.add-requires-in-Some-pop
add-requires-in-Some-pop g t c = (last_of_all g.J.Search.is_waiting c.pop.new.self.items c.in-Some-pop.up (rw c.in-Some-pop.ensures.items at c.loop-child.invariant.waiting)).1
