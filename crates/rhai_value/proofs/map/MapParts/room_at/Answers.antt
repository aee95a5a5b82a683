use Rattle.std.proofs.Common.{◌≡◌, ap, ◌∙◌, arith, rules}
use Rattle.rhai_value.specs.Lists.{joined, lists_of}
use Rattle.rhai_value.specs.Seats.{HasRoom}
use Rattle.rhai_value.proofs.KeptKeys.{lists_kept, whole_same}
use Rattle.rhai_value.proofs.SeatEdits.{same_lists_before, same_lists_from, same_lists_open}
use Rattle.rhai_value.proofs.map.MapParts.room_at.Goals as goal

pub returns-then-grow_list : goal.returns-then-grow_list
returns-then-grow_list c =
    let s = c.split_full-seat.result in
    let q = c.split_full-seat.new.self in
    let r = c.grow_list.new.self in
    let done = c.grow_list.ensures in
    let is : lists_of r ≡ lists_of q = lists_kept q r done.first done.rest in
    let here = c.split_full-seat.ensures.seat in
    let room : HasRoom r s.list = search rules in
    record {
      rows = ap joined is ∙ c.split_full-seat.ensures.rows;
      whole = whole_same q r done.first done.rest done.len c.split_full-seat.ensures.whole;
      room = (same_lists_open q r s is here.0, room, same_lists_before q r s is ∙ here.1, same_lists_from q r s is ∙ here.2);
      counted = omega (arith, c.if-self-ge18446744073709551615.false, done.len, c.split_full-seat.ensures.len);
    }

pub returns-else-grow_list : goal.returns-else-grow_list
returns-else-grow_list c =
    let q = c.split_full-seat.new.self in
    let r = c.grow_list.new.self in
    let done = c.grow_list.ensures in
    let is : lists_of r ≡ lists_of q = lists_kept q r done.first done.rest in
    record {
      rows = ap joined is ∙ c.split_full-seat.ensures.rows;
      whole = whole_same q r done.first done.rest done.len c.split_full-seat.ensures.whole;
      room = tt;
      counted = tt;
    }
