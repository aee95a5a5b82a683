use Rattle.std.proofs.Common.{◌≡◌, ◌++◌, [], ◌∷◌, map, reverse, ap₂, sym, ◌∙◌, subst}
use Rattle.rhai_show.specs.HashBytes.{hash_bytes}
use Rattle.rhai_show.specs.InRange.{IsPlainInRange}
use Rattle.rhai_show.specs.Rests.{child_of, rest_of, is_held, level_of}
use Rattle.rhai_show.proofs.HashRests.{Hashing, hash_on, hash_down}
use Rattle.rhai_show.proofs.Rests.{reversed}
use Rattle.rhai_show.proofs.hash_far.add_far.Goals as goal

pub loop-child-preserved-in-None-2 : goal.loop-child-preserved-in-None-2
loop-child-preserved-in-None-2 c =
    let s = c.args.store.now in
    let whole = c.args.out.now.items ++ hash_bytes s c.args.path.now c.args.value.now in
    let in_range = IsPlainInRange s c.args.path.now c.args.value.now in
    let l = c.loop-child in
    let n = c.in-Some-next.ensures in
    let rest = c.next.new.self in
    let others = map level_of (reverse l.frames.items) in
    let top = subst (λ x. Hashing s whole c.args.path.now in_range l.out.items l.path (x ∷ others)) (ap₂ (λ b cs. (b, cs)) (sym n.held) n.next) l.invariant in
    let k = c.in_ok-inner-in-Some-next.ensures in
    let bytes = rw c.in-None-2.is at c.in_ok-opened-in-Some-next.ensures.bytes in
    let path = rw c.in-None-2.is at c.in_ok-opened-in-Some-next.ensures.path in
    let range = rw c.in-None-2.is at c.in_ok-opened-in-Some-next.ensures.range in
    hash_on s whole c.args.path.now in_range l.out.items l.path (is_held rest) (child_of c.in-Some-next.child) (rest_of rest) others top c.opened-in-Some-next.new.out.items c.opened-in-Some-next.new.path
    (bytes ∙ k.bytes (hash_bytes s l.path)) (k.range, subst (IsPlainInRange s l.path) k.value range) path

pub loop-child-preserved-in-Continue-branch-6 : goal.loop-child-preserved-in-Continue-branch-6
loop-child-preserved-in-Continue-branch-6 c =
    let s = c.args.store.now in
    let whole = c.args.out.now.items ++ hash_bytes s c.args.path.now c.args.value.now in
    let in_range = IsPlainInRange s c.args.path.now c.args.value.now in
    let l = c.loop-child in
    let n = c.in-Some-next.ensures in
    let rest = c.next.new.self in
    let others = map level_of (reverse l.frames.items) in
    let top = subst (λ x. Hashing s whole c.args.path.now in_range l.out.items l.path (x ∷ others)) (ap₂ (λ b cs. (b, cs)) (sym n.held) n.next) l.invariant in
    let k = c.in_ok-inner-in-Some-next.ensures in
    let bytes = rw c.in-Some-2.is at c.in_ok-opened-in-Some-next.ensures.bytes in
    let path = rw c.in-Some-2.is at c.in_ok-opened-in-Some-next.ensures.path in
    let left = rw c.in-Some-2.is at c.in_ok-opened-in-Some-next.ensures.left in
    let plain = rw c.in-Some-2.is at c.in_ok-opened-in-Some-next.ensures.plain in
    let range = rw c.in-Some-2.is at c.in_ok-opened-in-Some-next.ensures.range in
    let pushed : c.push.new.self.items ≡ l.frames.items ++ rest ∷ [] = cc (c.in_ok-push-in-Some-2.ensures.items, c.replace.ensures.value) in
    subst (λ x. Hashing s whole c.args.path.now in_range c.opened-in-Some-next.new.out.items c.opened-in-Some-next.new.path x)
    (sym (ap₂ (λ r fs. level_of r ∷ map level_of fs) c.replace.ensures.after (reversed l.frames.items c.push.new.self.items rest pushed)))
    (hash_down s whole c.args.path.now in_range l.out.items l.path (is_held rest) (child_of c.in-Some-next.child) (rest_of rest) others top c.opened-in-Some-next.new.out.items c.opened-in-Some-next.new.path (is_held c.in-Some-2.deeper) (rest_of c.in-Some-2.deeper)
    (bytes ∙ k.bytes (hash_bytes s l.path)) path left.0 plain (λ r. (k.range, subst (IsPlainInRange s l.path) k.value (range r))))
