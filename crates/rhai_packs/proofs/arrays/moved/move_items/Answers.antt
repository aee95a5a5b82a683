use Rattle.std.proofs.Common.{◌≡◌, ◌++◌, ◌∷◌, [], ◌-◌, ◌<◌, length, take, drop, slice_index_or, rules, arith, sym, ap, ◌∙◌, append_assoc}
use Rattle.std.proofs.lemmas.List.{take-set-le}
use Rattle.rhai_packs.proofs.Moving.{part_more, same_next, same_rest}
use Rattle.rhai_packs.proofs.arrays.moved.move_items.Goals as goal

pub loop-place-preserved : goal.loop-place-preserved
loop-place-preserved c =
    let i = c.loop-place.place in
    let old = c.args.items.now.items in
    let s = c.args.start in
    let done = c.loop-place.invariant in
    let item = c.take.result in
    let within : i < length old = omega (arith, c.loop-place-test.true, c.requires.within) in
    let same : c.index_mut.result.now ≡ item = sym c.take.ensures.value in
    let next : item ≡ slice_index_or old i item =
    c.take.ensures.value ∙ c.index_mut.ensures.value ∙ ap (slice_index_or c.loop-place.items.items i) same ∙ same_next c.loop-place.items.items old i item done.back in
    record {
      from = search rules;
      as_long = search rules;
      room = search rules;
      front = take-set-le s c.loop-place.items.items i _ done.from ∙ done.front;
      back = same_rest c.loop-place.items.items old i _ done.back;
      moved = c.push_reserved.ensures.items ∙ ap (λ ys. ys ++ item ∷ []) done.moved
          ∙ append_assoc c.args.to.now.items (take (i - s) (drop s old)) (item ∷ [])
          ∙ ap (λ ys. c.args.to.now.items ++ ys) (sym (part_more old s i item done.from within next));
    }
