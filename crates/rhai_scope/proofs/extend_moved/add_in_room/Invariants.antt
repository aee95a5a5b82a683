use Rattle.std.proofs.Common.{◌≡◌, ◌+◌, ◌≤◌, ◌++◌, length, vec_len, vec_capacity}
use Rattle.std.specs.Iterator.Adapters.{zip_first, zip_second}
use Rattle.std.specs.Vec.Iter.{into_iter_items, into_iter_len}
use Rattle.rhai_scope.specs.Extended.{headed}
use Rattle.rhai_scope.proofs.extend_moved.add_in_room.Given as goal

abbrev pub invariant-loop-heading : goal.invariant-loop-heading
invariant-loop-heading g l =
    let hs = into_iter_items (zip_first l.heading-iterator) in
    let ts = into_iter_items (zip_second l.heading-iterator) in
    record {
      headings : into_iter_len (zip_first l.heading-iterator) ≡ length hs;
      values : into_iter_len (zip_second l.heading-iterator) ≡ length ts;
      as_many : length ts ≡ length hs;
      room : vec_len l.records + length hs ≤ vec_capacity l.records;
      left : l.records.items ++ headed g.H.Named.name_of g.H.Heading.mode_of hs ts ≡ l.fn.records.items ++ headed g.H.Named.name_of g.H.Heading.mode_of l.fn.headings.items l.fn.values.items;
    }
