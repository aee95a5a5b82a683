use Rattle.std.proofs.Common.{◌≡◌, ◌-◌, ◌≤◌, ◌++◌, min, take, drop, length, replicate, rules, arith, refl, ap, ◌∙◌, length-drop}
use Rattle.rhai_packs.specs.Places.{cut_place, part_count}
use Rattle.rhai_packs.specs.Written.{eight}
use Rattle.rhai_packs.proofs.Overwriting.{eight_is}
use Rattle.rhai_packs.proofs.Parts.{part_kept}
use Rattle.rhai_packs.proofs.blobs.written.eight_of.Goals as goal

pub returns : goal.returns
returns c =
    let xs = c.args.bytes.now.items in
    let l = length xs in
    let a = c.cut_place-start.result in
    let k = c.at_most.result in
    let place : a ≡ cut_place l c.args.index = search rules in
    let number : k ≡ part_count (l - a) c.args.count = search rules in
    let least : c.min-len.result ≡ min k 8 = search rules in
    let source : c.copy_from_slice.new.self ≡ take c.min-len.result (drop a xs) = search rules in
    let bound : k ≤ l - a = search rules in
    let fits : k ≤ length (drop a xs) = omega (arith, bound, length-drop a xs) in
    ap (λ zs. zs ++ drop c.min-len.result (replicate 8 0)) source
    ∙ ap (λ n. take n (drop a xs) ++ drop n (replicate 8 0)) least
    ∙ eight_is (drop a xs) k fits
    ∙ ap eight (part_kept xs c.args.index c.args.count l a k refl place number)
