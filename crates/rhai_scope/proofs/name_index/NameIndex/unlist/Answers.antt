use Rattle.std.proofs.Common.{rules}
use Rattle.rhai_scope.specs.NameIndex.{others}
use Rattle.rhai_scope.proofs.Listed.{some_left, none_left}
use Rattle.rhai_scope.proofs.name_index.NameIndex.unlist.Goals as goal

pub returns-then-not-take_out-clause-lists : goal.returns-then-not-take_out-clause-lists
returns-then-not-take_out-clause-lists c =
    let list = c.take_out.new.self in
    none_left (others c.args.place) c.args.name.now c.args.self.now.lists (c.get_mut.follows.lender list) c.in-Some.list.now list c.take_out.result c.in-Some.ensures.value c.take_out.ensures
    ((c.get_mut.follows.holds list).3 (search rules)) c.remove.new.self c.if-not-take_out.true c.remove.ensures.updates

pub returns-else-not-take_out-clause-lists : goal.returns-else-not-take_out-clause-lists
returns-else-not-take_out-clause-lists c =
    let list = c.take_out.new.self in
    some_left (others c.args.place) c.args.name.now c.args.self.now.lists (c.get_mut.follows.lender list) c.in-Some.list.now list c.take_out.result c.in-Some.ensures.value c.take_out.ensures
    ((c.get_mut.follows.holds list).3 (search rules)) c.if-not-take_out.false
