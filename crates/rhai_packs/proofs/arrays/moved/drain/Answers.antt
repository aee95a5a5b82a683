use Rattle.std.proofs.Common.{◌≡◌, ◌+◌, ◌-◌, ◌++◌, [], ◌∙◌, length, take, drop, rules, arith, ap, refl}
use Rattle.rhai_packs.specs.Places.{cut_place, part_count}
use Rattle.rhai_packs.proofs.Parts.{part_kept}
use Rattle.rhai_packs.proofs.arrays.moved.drain.Goals as goal

pub returns-clause-part : goal.returns-clause-part
returns-clause-part c =
    let xs = c.args.items.now.items in
    let l = length xs in
    let a = c.cut_place-start.result in
    let k = c.at_most.result in
    let place : a ≡ cut_place l c.args.index = search rules in
    let number : k ≡ part_count (l - a) c.args.count = search rules in
    let none : c.in_ok-part.part.items ≡ [] = search rules in
    let count : a + k - a ≡ k = omega arith in
    c.cut_out.ensures.moved ∙ ap (λ zs. zs ++ take (a + k - a) (drop a xs)) none ∙ ap (λ n. take n (drop a xs)) count
    ∙ part_kept xs c.args.index c.args.count l a k refl place number

pub returns-clause-left : goal.returns-clause-left
returns-clause-left c =
    let xs = c.args.items.now.items in
    let l = length xs in
    let a = c.cut_place-start.result in
    let place : a ≡ cut_place l c.args.index = search rules in
    let number : c.at_most.result ≡ part_count (l - a) c.args.count = search rules in
    c.cut_out.ensures.left ∙ ap (λ n. take a xs ++ drop (a + n) xs) number ∙ ap (λ b. take b xs ++ drop (b + part_count (l - b) c.args.count) xs) place
