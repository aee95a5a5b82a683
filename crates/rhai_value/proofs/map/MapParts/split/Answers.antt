use Rattle.std.proofs.Common.{◌≡◌, ◌+◌, ◌-◌, ◌≤◌, ◌<◌, suc, length, take, drop, set, ap, ap₂, refl, arith, ◌∙◌}
use Rattle.std.specs.List.{insert}
use Rattle.rhai_value.specs.Lists.{lists_of, joined}
use Rattle.rhai_value.specs.Seats.{list_at}
use Rattle.rhai_value.specs.declared.map.seat.Seat.{Seat}
use Rattle.rhai_value.proofs.SeatEdits.{same_whole}
use Rattle.rhai_value.proofs.SeatSplits.{split_lower, split_rows, split_upper, split_whole}
use Rattle.rhai_value.proofs.map.MapParts.split.Goals as goal

pub returns-then-seat-from : goal.returns-then-seat-from
returns-then-seat-from c =
    let p = c.args.self.now in
    let q = c.put_chunk.new.self in
    let s = c.args.seat in
    let i = c.middle_for-from.result in
    let bound : i ≤ length (list_at p s.list) = omega (arith, c.middle_for-from.ensures.1) in
    let cut = c.in-Some.ensures.lists in
    let is : lists_of q ≡ insert (set (lists_of p) s.list (take i (list_at p s.list))) (suc s.list) (drop i (list_at p s.list)) =
    c.put_chunk.ensures.lists ∙ ap₂ (λ ls l. insert ls (suc s.list) l) cut.0 cut.1 in
    let len = c.put_chunk.ensures.len ∙ c.in-Some.ensures.len in
    record {
      rows = split_rows p q s i c.requires.open bound is;
      whole = split_whole p q s i c.requires.open bound is c.put_chunk.ensures.fronted len c.requires.whole;
      seat = split_lower p q s i c.requires.open bound is c.if-seat-from.true;
      len = len;
    }

pub returns-else-seat-from : goal.returns-else-seat-from
returns-else-seat-from c =
    let p = c.args.self.now in
    let q = c.put_chunk.new.self in
    let s = c.args.seat in
    let i = c.middle_for-from.result in
    let t : Seat = record { list = s.list + 1; at = s.at - i } in
    let bound : i ≤ length (list_at p s.list) = omega (arith, c.middle_for-from.ensures.1) in
    let cut = c.in-Some.ensures.lists in
    let is : lists_of q ≡ insert (set (lists_of p) s.list (take i (list_at p s.list))) (suc s.list) (drop i (list_at p s.list)) =
    c.put_chunk.ensures.lists ∙ ap₂ (λ ls l. insert ls (suc s.list) l) cut.0 cut.1 in
    let len = c.put_chunk.ensures.len ∙ c.in-Some.ensures.len in
    let past : i < s.at = omega (arith, c.if-seat-from.false) in
    let next : t.list ≡ suc s.list = omega arith in
    record {
      rows = split_rows p q s i c.requires.open bound is;
      whole = split_whole p q s i c.requires.open bound is c.put_chunk.ensures.fronted len c.requires.whole;
      seat = split_upper p q s i c.requires.open bound is past t next refl;
      len = len;
    }

pub returns-in-None-clause-whole : goal.returns-in-None-clause-whole
returns-in-None-clause-whole c = same_whole c.args.self.now c.cut_list.new.self (ap joined c.in-None.ensures.lists) c.in-None.ensures.fronted c.in-None.ensures.len c.requires.whole
