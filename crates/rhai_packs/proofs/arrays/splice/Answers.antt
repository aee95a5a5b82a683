use Rattle.std.proofs.Common.{◌≡◌, ◌+◌, ◌-◌, length, rules, sym, ap, ◌∙◌}
use Rattle.std.proofs.lemmas.Iterator.{items_from_drains}
use Rattle.std.proofs.lemmas.Iterator.Adapters.{YieldsList-from_vec}
use Rattle.std.proofs.lemmas.List.{map-id}
use Rattle.std.specs.List.{splice}
use Rattle.rhai_packs.specs.Places.{cut_place, part_count}
use Rattle.rhai_packs.proofs.arrays.splice.Goals as goal

pub returns-clause-items : goal.returns-clause-items
returns-clause-items c =
    let e = c.in_ok-splice.ensures.items in
    let xs = c.args.items.now.items in
    let a = c.cut_place-start.result in
    let k = c.at_most-gone.result in
    let long : c.args.more.len ≡ length c.args.more.items = search rules in
    let all = items_from_drains e.1 (e.3.1.0, e.3.1.1, λ w. (e.3.0, e.3.1.2)) (YieldsList-from_vec c.args.more.items e.2.0 (e.2.1 ∙ long)) in
    let new : e.1 ≡ c.args.more.items = sym (map-id e.1) ∙ all in
    let place : a ≡ cut_place (length xs) c.args.index = search rules in
    let number : k ≡ part_count (length xs - a) c.args.count = search rules in
    e.4
    ∙ ap (λ ys. splice xs a (a + k) ys) new
    ∙ ap (λ n. splice xs a (a + n) c.args.more.items) number
    ∙ ap (λ b. splice xs b (b + part_count (length xs - b) c.args.count) c.args.more.items) place
