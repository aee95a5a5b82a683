use Rattle.std.proofs.Common.{◌<◌, length, map, ap, sym, subst, ◌∙◌}
use Rattle.std.proofs.lemmas.Cmp.{nat_list_cmp_total}
use Rattle.rhai_value.specs.Lists.{chunk_rows, joined, lists_of, rows}
use Rattle.rhai_value.specs.Rows.{AreRising}
use Rattle.rhai_value.proofs.ChunkFronts.{rising_right}
use Rattle.rhai_value.proofs.SeatSearch.{inside, seat_found, seat_missing}
use Rattle.rhai_value.proofs.Seats.{list_rising}
use Rattle.rhai_value.proofs.map.MapParts.seat.Goals as goal

pub chunks_to-list-requires-clause-rising : goal.chunks_to-list-requires-clause-rising
chunks_to-list-requires-clause-rising c =
    let p = c.args.self.now in
    rw c.as_slice.ensures.value (rising_right nat_list_cmp_total (rows p.first.items) (joined (map chunk_rows p.rest.items)) c.requires.rising)

pub place_in-requires : goal.place_in-requires
place_in-requires c =
    let p = c.args.self.now in
    let n = c.chunks_to-list.result in
    let done = c.chunks_to-list.ensures in
    let within : n < length (lists_of p) = inside c.args.sought.now p c.requires.rising c.as_slice.result.now c.as_slice.ensures.value n done.bound done.above done.below in
    subst AreRising (sym (ap rows c.as_slice-2.ensures.value ∙ c.list.ensures)) (list_rising p (record { list = n; at = 0 }) within c.requires.rising)

pub returns-in-Ok-clause-found : goal.returns-in-Ok-clause-found
returns-in-Ok-clause-found c =
    let p = c.args.self.now in
    let done = c.chunks_to-list.ensures in
    let is = ap rows c.as_slice-2.ensures.value ∙ c.list.ensures in
    seat_found c.args.sought.now p c.requires.rising c.as_slice.result.now c.as_slice.ensures.value c.chunks_to-list.result done.bound done.above done.below c.as_slice-2.result.now is c.in-Ok.at c.in-Ok.ensures.found

pub returns-in-Err-clause-missing : goal.returns-in-Err-clause-missing
returns-in-Err-clause-missing c =
    let p = c.args.self.now in
    let done = c.chunks_to-list.ensures in
    let is = ap rows c.as_slice-2.ensures.value ∙ c.list.ensures in
    seat_missing c.args.sought.now p c.requires.rising c.as_slice.result.now c.as_slice.ensures.value c.chunks_to-list.result done.bound done.above done.below c.as_slice-2.result.now is c.in-Err.at c.in-Err.ensures.absent
