use Rattle.std.proofs.Common.{rules}
use Rattle.rhai_scope.specs.NameIndex.{front}
use Rattle.rhai_scope.proofs.Listed.{some_left, none_left}
use Rattle.rhai_scope.proofs.name_index.NameIndex.pop.Goals as goal

pub returns-then-not-pop-clause-lists : goal.returns-then-not-pop-clause-lists
returns-then-not-pop-clause-lists c =
    let list = c.pop.new.self in
    none_left front c.args.name.now c.args.self.now.lists (c.get_mut.follows.lender list) c.in-Some.list.now list c.pop.result c.in-Some.ensures.value c.pop.ensures
    ((c.get_mut.follows.holds list).3 (search rules)) c.remove.new.self c.if-not-pop.true c.remove.ensures.updates

pub returns-else-not-pop-clause-lists : goal.returns-else-not-pop-clause-lists
returns-else-not-pop-clause-lists c =
    let list = c.pop.new.self in
    some_left front c.args.name.now c.args.self.now.lists (c.get_mut.follows.lender list) c.in-Some.list.now list c.pop.result c.in-Some.ensures.value c.pop.ensures
    ((c.get_mut.follows.holds list).3 (search rules)) c.if-not-pop.false
