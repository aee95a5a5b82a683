use Rattle.std.proofs.Common.{◌≡◌, map, ap, ◌∙◌, rules, arith, w64, to_z, of_z}
use Rattle.std.proofs.Math.Facts.{to_z-of_z}
use Rattle.std.proofs.lemmas.Grind.{common_steps}
use Rattle.std.proofs.lemmas.List.FromFn.{map-range_with_len_more}
use Rattle.std.specs.List.{range_with_len}
use Rattle.rhai_bits.specs.Bits.{bit}
use Rattle.rhai_value.specs.Tree.{bool, fresh}
use Rattle.rhai_packs.proofs.bits.bits.Goals as goal

pub loop-place-preserved : goal.loop-place-preserved
loop-place-preserved c =
    let n = c.loop-place.place in
    let more = map-range_with_len_more (λ i. fresh (bool (bit c.args.number i))) 0 n n (omega arith) in
    record {
      within = search rules;
      room = search rules;
      counted = search rules;
      copied = grind (arith, common_steps, more);
    }

pub returns : goal.returns
returns c =
    let all : c.loop-place.place ≡ 64 = search rules in
    c.loop-place.invariant.copied ∙ ap (λ n. map (λ i. fresh (bool (bit (to_z w64 (of_z w64 c.args.number)) i))) (range_with_len 0 n)) all
    ∙ ap (λ z. map (λ i. fresh (bool (bit z i))) (range_with_len 0 64)) (to_z-of_z c.ranges.number)
