use Rattle.std.proofs.Common.{◌≡◌, ◌<◌, ◌++◌, [], ◌∷◌, reverse, string_bytes, refl, ap, sym, ◌∙◌, subst}
use Rattle.std.specs.Str.{chars}
use Rattle.rhai_show.specs.Text.{printed}
use Rattle.rhai_show.specs.Rests.{level_of}
use Rattle.rhai_show.proofs.Frames.{Printing, goes_on, goes_down, goes_up, levels}
use Rattle.rhai_show.proofs.Rests.{weight_left, reversed, lighter}
use Rattle.rhai_show.proofs.text_far.add_far.Goals as goal

pub loop-frames-preserved-in-None-2 : goal.loop-frames-preserved-in-None-2
loop-frames-preserved-in-None-2 c =
    let s = c.args.store.now in
    let l = c.loop-frames in
    let step = rw c.in-Some-2.is at c.in_ok-inner.ensures.text in
    let text = rw c.in-None-2.is at c.in_ok-opened-in-Some-2.ensures.text in
    let path = rw c.in-None-2.is at c.in_ok-opened-in-Some-2.ensures.path in
    goes_on s _ c.args.path.now _ _ _ _ l.path c.opened-in-Some-2.new.path l.top c.next_in.new.frame (reverse l.frames.items) l.invariant c.in_ok-inner.ensures.held (step (printed s l.path)) text path

pub loop-frames-smaller-in-Continue-branch-7 : goal.loop-frames-smaller-in-Continue-branch-7
loop-frames-smaller-in-Continue-branch-7 c =
    let s = c.args.store.now in
    let l = c.loop-frames in
    let next = c.opened-in-Some-2.new.path in
    let taken = rw c.in-Some-2.is at c.in_ok-inner.ensures.left in
    let path = rw c.in-Some-3.is at c.in_ok-opened-in-Some-2.ensures.path in
    let left = rw c.in-Some-3.is at c.in_ok-opened-in-Some-2.ensures.left in
    let pushed : c.push.new.self.items ≡ l.frames.items ++ c.next_in.new.frame ∷ [] = cc (c.in_ok-push-in-Some-3.ensures.items, c.replace.ensures.value) in
    let same = ap (λ fs. weight_left s next (levels (c.replace.new.dest ∷ fs))) (reversed l.frames.items c.push.new.self.items c.next_in.new.frame pushed)
    ∙ ap (λ f. weight_left s next (levels (f ∷ c.next_in.new.frame ∷ reverse l.frames.items))) c.replace.ensures.after in
    let less = lighter s l.path next (level_of l.top.rest) (level_of c.next_in.new.frame.rest) (levels (reverse l.frames.items)) c.in-Some-2.inner.now c.in_ok-inner.ensures.held (taken _) (level_of c.in-Some-3.child.rest) path left.1 in
    subst (λ n. n < weight_left s l.path (levels (l.top ∷ reverse l.frames.items))) (sym same) less

pub loop-frames-preserved-in-Continue-branch-7 : goal.loop-frames-preserved-in-Continue-branch-7
loop-frames-preserved-in-Continue-branch-7 c =
    let s = c.args.store.now in
    let whole = chars (string_bytes c.args.out.now) ++ printed s c.args.path.now c.args.value.now c.args.form in
    let l = c.loop-frames in
    let next = c.opened-in-Some-2.new.path in
    let step = rw c.in-Some-2.is at c.in_ok-inner.ensures.text in
    let text = rw c.in-Some-3.is at c.in_ok-opened-in-Some-2.ensures.text in
    let path = rw c.in-Some-3.is at c.in_ok-opened-in-Some-2.ensures.path in
    let left = rw c.in-Some-3.is at c.in_ok-opened-in-Some-2.ensures.left in
    let pushed : c.push.new.self.items ≡ l.frames.items ++ c.next_in.new.frame ∷ [] = cc (c.in_ok-push-in-Some-3.ensures.items, c.replace.ensures.value) in
    let before = goes_on s _ c.args.path.now _ _ _ _ l.path l.path l.top c.next_in.new.frame (reverse l.frames.items) l.invariant c.in_ok-inner.ensures.held (step (printed s l.path)) refl refl in
    subst (λ f. Printing s whole c.args.path.now (chars (string_bytes c.opened-in-Some-2.new.out)) next (f ∷ reverse c.push.new.self.items)) (sym c.replace.ensures.after)
    (goes_down s _ c.args.path.now _ _ l.path next c.in-Some-3.child c.next_in.new.frame l.frames.items c.push.new.self.items before text path left.0 pushed)

pub loop-frames-preserved : goal.loop-frames-preserved
loop-frames-preserved c =
    let s = c.args.store.now in
    let whole = chars (string_bytes c.args.out.now) ++ printed s c.args.path.now c.args.value.now c.args.form in
    let l = c.loop-frames in
    let step = rw c.in-None.is at c.in_ok-inner.ensures.text in
    subst (λ fs. Printing s whole c.args.path.now (chars (string_bytes c.close.new.out)) c.close.new.path fs) (reversed c.pop.new.self.items l.frames.items c.in-Some-pop.up c.in-Some-pop.ensures.items)
    (goes_up s _ c.args.path.now _ _ _ l.path c.close.new.path l.top c.next_in.new.frame (reverse l.frames.items) l.invariant c.in_ok-inner.ensures.held step.0 (step.1 (printed s l.path)) c.in_ok-close-in-None.ensures.text c.in_ok-close-in-None.ensures.path)
