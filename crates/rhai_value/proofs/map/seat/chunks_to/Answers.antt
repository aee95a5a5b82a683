use Rattle.std.proofs.Common.{◌≡◌, ℕ, ◌+◌, ◌-◌, ◌<◌, ◌/◌, ◌++◌, List, length, map, take, get_or, [], sym, ap, subst, ◌∙◌, arith}
use Rattle.std.proofs.lemmas.Cmp.{nat_list_cmp_total}
use Rattle.std.proofs.lemmas.List.{get_or-map, length-map}
use Rattle.rhai_value.specs.Lists.{Row, chunk_rows, joined, AreBelow}
use Rattle.rhai_value.specs.Rows.{bytes_cmp}
use Rattle.rhai_value.specs.Tree.{fresh, unit}
use Rattle.rhai_value.specs.declared.map.Chunk.{Chunk}
use Rattle.rhai_value.proofs.ChunkFronts.{above_chunk, below_chunk, below_chunk_hit}
use Rattle.rhai_value.proofs.Seats.{fronted_at}
use Rattle.rhai_value.proofs.map.seat.chunks_to.Goals as goal

nothing : Row
nothing = ([], fresh unit)

chunk_at : (cs : List Chunk) (m : ℕ) (x : Chunk) → m < length cs → x ≡ get_or cs m x → get_or (map chunk_rows cs) m (chunk_rows x) ≡ chunk_rows x
chunk_at cs m x lt is = get_or-map chunk_rows cs m x (chunk_rows x) lt ∙ ap chunk_rows (sym is)

pub order_to_chunk-requires : goal.order_to_chunk-requires
order_to_chunk-requires c =
    let m = c.loop-low.low + (c.loop-low.high - c.loop-low.low) / 2 in
    let within : m < length c.args.rest.now = omega (arith, c.loop-low.invariant.within, c.loop-low-test.true) in
    rw c.index-rest-middle.is (fronted_at c.args.rest.now m c.index-rest-middle.result c.requires.fronted within)

pub loop-low-preserved-in-Less : goal.loop-low-preserved-in-Less
loop-low-preserved-in-Less c =
    let m = c.loop-low.low + (c.loop-low.high - c.loop-low.low) / 2 in
    let cs = c.args.rest.now in
    let x = c.index-rest-middle.result in
    let within : m < length cs = omega (arith, c.loop-low.invariant.within, c.loop-low-test.true) in
    let inside : m < length (map chunk_rows cs) = omega (arith, within, length-map cs chunk_rows) in
    record {
      ordered = omega (arith, c.loop-low-test.true);
      within = omega (arith, within);
      above = above_chunk nat_list_cmp_total c.args.sought.now (map chunk_rows cs) m (chunk_rows x) nothing inside (chunk_at cs m x within c.index-rest-middle.is) c.order_to_chunk.ensures.some c.requires.rising (sym (c.order_to_chunk.ensures.order nothing) ∙ c.in-Less.is);
      below = c.loop-low.invariant.below;
    }

pub loop-low-preserved-in-Equal : goal.loop-low-preserved-in-Equal
loop-low-preserved-in-Equal c =
    let m = c.loop-low.low + (c.loop-low.high - c.loop-low.low) / 2 in
    let cs = c.args.rest.now in
    let x = c.index-rest-middle.result in
    let within : m < length cs = omega (arith, c.loop-low.invariant.within, c.loop-low-test.true) in
    let inside : m < length (map chunk_rows cs) = omega (arith, within, length-map cs chunk_rows) in
    record {
      ordered = omega (arith, c.loop-low-test.true);
      within = c.loop-low.invariant.within;
      above = c.loop-low.invariant.above;
      below = λ n same xs rising. subst (λ i. AreBelow bytes_cmp c.args.sought.now (xs ++ joined (take i (map chunk_rows cs)))) {x = m} (omega (arith, same))
          (below_chunk_hit nat_list_cmp_total c.args.sought.now xs (map chunk_rows cs) m (chunk_rows x) nothing inside (chunk_at cs m x within c.index-rest-middle.is) c.order_to_chunk.ensures.some rising (sym (c.order_to_chunk.ensures.order nothing) ∙ c.in-Equal.is));
    }

pub loop-low-preserved : goal.loop-low-preserved
loop-low-preserved c =
    let m = c.loop-low.low + (c.loop-low.high - c.loop-low.low) / 2 in
    let cs = c.args.rest.now in
    let x = c.index-rest-middle.result in
    let within : m < length cs = omega (arith, c.loop-low.invariant.within, c.loop-low-test.true) in
    let inside : m < length (map chunk_rows cs) = omega (arith, within, length-map cs chunk_rows) in
    record {
      ordered = omega (arith, c.loop-low-test.true);
      within = c.loop-low.invariant.within;
      above = c.loop-low.invariant.above;
      below = λ n same xs rising. subst (λ i. AreBelow bytes_cmp c.args.sought.now (xs ++ joined (take i (map chunk_rows cs)))) {x = m} (omega (arith, same))
          (below_chunk nat_list_cmp_total c.args.sought.now xs (map chunk_rows cs) m (chunk_rows x) nothing inside (chunk_at cs m x within c.index-rest-middle.is) c.order_to_chunk.ensures.some rising (sym (c.order_to_chunk.ensures.order nothing) ∙ c.in-Greater.is));
    }
