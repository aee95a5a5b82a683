use Rattle.std.proofs.Common.{◌≡◌, ◌+◌, ◌-◌, rules, drop, ap, ◌∙◌}
use Rattle.std.proofs.lemmas.List.{drop-take}
use Rattle.rhai_packs.specs.Places.{cut_place, part_count}
use Rattle.rhai_packs.proofs.Parts.{front_kept, from_front, part_kept, rest_kept}
use Rattle.rhai_packs.proofs.texts.sub_string.Goals as goal

pub returns-then-start-eq0 : goal.returns-then-start-eq0
returns-then-start-eq0 c =
    let xs = c.args.text.now in
    let l = c.len-length.result in
    let a = c.cut_place-start.result in
    let k = c.at_most-kept.result in
    let place : a ≡ cut_place l c.args.index = search rules in
    let number : k ≡ part_count (l - a) c.args.count = search rules in
    front_kept xs c.in_ok-front.front (a + k) l c.len-length.ensures c.in_ok-front.ensures
    ∙ from_front xs a k c.if-start-eq0.true
    ∙ part_kept xs c.args.index c.args.count l a k c.len-length.ensures place number

pub returns : goal.returns
returns c =
    let xs = c.args.text.now in
    let l = c.len-length.result in
    let a = c.cut_place-start.result in
    let k = c.at_most-kept.result in
    let place : a ≡ cut_place l c.args.index = search rules in
    let number : k ≡ part_count (l - a) c.args.count = search rules in
    rest_kept c.in_ok-front.front c.in_ok-part.part a c.in_ok-part.ensures
    ∙ ap (drop a) (front_kept xs c.in_ok-front.front (a + k) l c.len-length.ensures c.in_ok-front.ensures)
    ∙ drop-take a k xs
    ∙ part_kept xs c.args.index c.args.count l a k c.len-length.ensures place number
