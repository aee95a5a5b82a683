use Rattle.std.proofs.Common.{◌≡◌, ◌+◌, ◌++◌, length, refl, ap, ap₂, arith, ◌∙◌}
use Rattle.rhai_value.specs.Rows.{fields_of}
use Rattle.rhai_value.specs.RowWalks.{painted_row, painted_rows}
use Rattle.rhai_value.specs.Seats.{row_at}
use Rattle.rhai_value.specs.Tree.{nodes, nodes_fields, paint}
use Rattle.rhai_value.specs.declared.map.seat.Seat.{Seat}
use Rattle.rhai_value.proofs.Coatings.{coat_step, coat_taken, nodes_past, past_open, rows_fewer, still_taken, IsPast}
use Rattle.rhai_value.proofs.walk.paint_far.fields_coat_step.Goals as goal

pub loop-seat-smaller : goal.loop-seat-smaller
loop-seat-smaller c =
    let p = c.loop-seat.parts in
    let q = c.replace_at.new.self in
    let s = c.in-Some.seat in
    let t : Seat = record { list = s.list; at = s.at + 1 } in
    let here = c.in-Some.ensures.from in
    let one = c.replace_at-value.ensures in
    let two = c.replace_at.ensures in
    let n : IsPast s t = record { list = refl; at = omega arith } in
    omega (arith, rows_fewer c.args.mode p q s t n here.0 two.seated (two.before ∙ one.before) (two.past ∙ one.past), ap length here.2)

pub loop-seat-preserved : goal.loop-seat-preserved
loop-seat-preserved c =
    let i = c.loop-seat.invariant in
    let m = c.args.mode in
    let p = c.loop-seat.parts in
    let q = c.replace_at.new.self in
    let s = c.in-Some.seat in
    let t : Seat = record { list = s.list; at = s.at + 1 } in
    let here = c.in-Some.ensures.from in
    let one = c.replace_at-value.ensures in
    let two = c.replace_at.ensures in
    let n : IsPast s t = record { list = refl; at = omega arith } in
    let before = two.before ∙ one.before in
    let past = two.past ∙ one.past in
    let row : row_at q s ≡ painted_row m (row_at p s) = two.row ∙ ap₂ (λ k v. (k, v)) (ap (λ r. r.0) one.row) (c.in-Ok.ensures ∙ ap (paint m) one.value) in
    let same = ap₂ (λ xs ys. xs ++ painted_rows m ys) here.1 here.2 in
    let fewer = nodes_past m p q s t n here.0 two.seated before past in
    let left = ap (λ rs. nodes_fields (fields_of rs)) here.2 in
    record {
      whole = two.whole;
      opened = past_open q s t n two.seated;
      painted = coat_step m p q s t n here.0 two.seated before past row ∙ same ∙ i.painted;
      fewer = omega (arith, fewer, left, i.fewer);
    }

pub returns-in-Err-clause-steps : goal.returns-in-Err-clause-steps
returns-in-Err-clause-steps c =
    let i = c.loop-seat.invariant in
    let m = c.args.mode in
    let p = c.loop-seat.parts in
    let q = c.replace_at-value.new.self in
    let s = c.in-Some.seat in
    let t : Seat = record { list = s.list; at = s.at + 1 } in
    let here = c.in-Some.ensures.from in
    let one = c.replace_at-value.ensures in
    let coat = c.in-Err.ensures in
    let n : IsPast s t = record { list = refl; at = omega arith } in
    let same = ap₂ (λ xs ys. xs ++ painted_rows m ys) here.1 here.2 in
    let fewer = nodes_past m p q s t n here.0 one.seated one.before one.past in
    let left = ap (λ rs. nodes_fields (fields_of rs)) here.2 in
    let value = ap nodes one.value in (
      still_taken m p q s t n here.0 one.seated one.before one.past,
      coat_taken m p q s t n here.0 one.seated one.before one.past _ (ap (λ r. r.0) one.row) (coat.0 ∙ ap (paint m) one.value) ∙ same ∙ i.painted,
      omega (arith, fewer, left, value, coat.1, i.fewer),
      coat.2,
    )
