use Rattle.std.proofs.Common.{length, ap, arith}
use Rattle.rhai_scope.proofs.Extended.{headed_step}
use Rattle.rhai_scope.proofs.extend_moved.add_in_room.Goals as goal

pub loop-heading-preserved : goal.loop-heading-preserved
loop-heading-preserved g c =
    let before = c.loop-heading.invariant in
    let heading = c.in-Some.ensures.steps.0 in
    let value = c.in-Some.ensures.steps.1 in
    let headings = ap length heading.0 in
    let values = ap length value.0 in
    record {
      headings = omega (arith, headings, heading.1, before.headings);
      values = omega (arith, values, value.1, before.values);
      as_many = omega (arith, headings, values, before.as_many);
      room = omega (arith, c.push_in_room.ensures.len, c.push_in_room.ensures.capacity, headings, before.room);
      left = headed_step g.H.Named.name_of g.H.Heading.mode_of c.loop-heading.records.items c.push_in_room.new.records.items _ c.in-Some.heading c.in-Some.value c.split-name.result _ _ _ _ heading.0 value.0 c.split-name.ensures c.push_in_room.ensures.items before.left;
    }
