use Rattle.std.proofs.Common.{◌≡◌, ◌++◌, ◌∷◌, [], codes, reverse, rules, string_bytes, ap, sym, ◌∙◌, subst}
use Rattle.std.specs.Str.{chars}
use Rattle.rhai_show.specs.Rests.{closed_by}
use Rattle.rhai_packs.proofs.Json.{Whole, Writing, map_opened, member_written, object_ended, put_aside}
use Rattle.rhai_packs.proofs.maps.json.add_object.Goals as goal

pub loop-above-preserved-in-Continue-branch-5 : goal.loop-above-preserved-in-Continue-branch-5
loop-above-preserved-in-Continue-branch-5 c =
    let s = c.args.store.now in
    let whole = Whole s c.args.map.now (chars (string_bytes c.args.out.now)) in
    let l = c.loop-above in
    let step = rw c.in-Some.is at c.in_ok-value.ensures.text in
    let w = rw c.in-Some-2.is at c.in_ok-map-in-Some.ensures.text in
    let pushed : c.push.new.self.items ≡ l.above.items ++ c.next_member.new.object ∷ [] = cc (c.in_ok-push-in-Some-2.ensures.items, c.replace.ensures.value) in
    subst (λ os. Writing s whole (chars (string_bytes c.add_value.new.out)) c.add_value.new.path (c.replace.new.dest ∷ os)) (sym (put_aside l.above.items c.push.new.self.items c.next_member.new.object pushed))
    (subst (λ o. Writing s whole (chars (string_bytes c.add_value.new.out)) c.add_value.new.path (o ∷ c.next_member.new.object ∷ reverse l.above.items)) (sym c.replace.ensures.after)
    (map_opened s whole (chars (string_bytes l.out)) l.path l.top c.next_member.new.object (reverse l.above.items) step.0 c.in-Some.value.now step.1 step.2 step.3 l.invariant c.in-Some-2.map c.add_value.new.path (chars (string_bytes c.add_value.new.out)) (chars (string_bytes c.next_member.new.out)) step.4 w))

pub loop-above-preserved-in-None-2 : goal.loop-above-preserved-in-None-2
loop-above-preserved-in-None-2 c =
    let s = c.args.store.now in
    let whole = Whole s c.args.map.now (chars (string_bytes c.args.out.now)) in
    let l = c.loop-above in
    let mid = chars (string_bytes c.next_member.new.out) in
    let step = rw c.in-Some.is at c.in_ok-value.ensures.text in
    let w = rw c.in-None-2.is at c.in_ok-map-in-Some.ensures.text in
    subst (λ p. Writing s whole (chars (string_bytes c.add_value.new.out)) p (c.next_member.new.object ∷ reverse l.above.items)) (sym w.0)
    (member_written s whole (chars (string_bytes l.out)) l.path l.top c.next_member.new.object (reverse l.above.items) step.0 c.in-Some.value.now step.1 step.2 step.3 l.invariant w.1.0 (chars (string_bytes c.add_value.new.out)) w.1.1 (w.1.2 ∙ ap (λ r. r ++ w.1.0) step.4))

pub loop-above-preserved : goal.loop-above-preserved
loop-above-preserved c =
    let s = c.args.store.now in
    let whole = Whole s c.args.map.now (chars (string_bytes c.args.out.now)) in
    let l = c.loop-above in
    let step = rw c.in-None.is at c.in_ok-value.ensures.text in
    let ended : Writing s whole (chars (string_bytes c.close.new.out)) (closed_by l.top.is_held l.path) (reverse l.above.items) =
    object_ended s whole (chars (string_bytes l.out)) l.path (chars (string_bytes c.close.new.out)) l.top (reverse l.above.items) step.0 l.invariant (c.in_ok-close-in-None.ensures.text ∙ ap (λ t. chars t ++ codes "}") step.2) in
    subst (λ os. Writing s whole (chars (string_bytes c.close.new.out)) c.close.new.path os) (put_aside c.pop.new.self.items l.above.items c.in-Some-pop.around c.in-Some-pop.ensures.items)
    (subst (λ p. Writing s whole (chars (string_bytes c.close.new.out)) p (reverse l.above.items)) (sym (c.in_ok-close-in-None.ensures.path ∙ ap (λ o. closed_by o.is_held l.path) step.1)) ended)

pub returns-in-None-pop : goal.returns-in-None-pop
returns-in-None-pop c =
    let s = c.args.store.now in
    let whole = Whole s c.args.map.now (chars (string_bytes c.args.out.now)) in
    let l = c.loop-above in
    let step = rw c.in-None.is at c.in_ok-value.ensures.text in
    let ended : Writing s whole (chars (string_bytes c.close.new.out)) (closed_by l.top.is_held l.path) (reverse l.above.items) =
    object_ended s whole (chars (string_bytes l.out)) l.path (chars (string_bytes c.close.new.out)) l.top (reverse l.above.items) step.0 l.invariant (c.in_ok-close-in-None.ensures.text ∙ ap (λ t. chars t ++ codes "}") step.2) in
    let none : l.above.items ≡ [] = search rules in
    subst (λ os. Writing s whole (chars (string_bytes c.close.new.out)) (closed_by l.top.is_held l.path) (reverse os)) none ended
