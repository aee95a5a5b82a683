use Rattle.std.proofs.Common.{rules, Some, sym, ◌∙◌}
use Rattle.std.proofs.lemmas.Result.{on_ok_weaker, on_err_weaker}
use Rattle.rhai_scope.specs.NameIndex.{with_place}
use Rattle.rhai_scope.specs.declared.name_index.NameIndex.{NameIndex}
use Rattle.rhai_scope.proofs.Listed.{changed, pushed_on, same_lists}
use Rattle.rhai_scope.proofs.Filtered.{pass_more}
use Rattle.rhai_scope.proofs.name_index.NameIndex.push.Goals as goal

pub returns-in-Some-clause-ok : goal.returns-in-Some-clause-ok
returns-in-Some-clause-ok c =
    let lists = c.args.self.now.lists in
    let list = c.push.new.self in
    let old = c.args.self.now in
    let new : NameIndex = record { lists = c.get_mut.follows.lender list; filter = old.filter } in
    on_ok_weaker c.push.result
    (λ added pass.
    let more = changed (with_place c.args.place) c.args.name.now lists new.lists (Some list) ((c.get_mut.follows.holds list).3 (search rules))
    (pushed_on c.args.place c.args.name.now lists c.in-Some.list.now list c.in-Some.ensures.value added) in
    (pass_more old new pass (with_place c.args.place) c.args.name.now more (sym c.passes.ensures ∙ c.if-not-passes.false) (λ q none. none), more))
    c.push.ensures.ok

pub returns-in-Some-clause-err : goal.returns-in-Some-clause-err
returns-in-Some-clause-err c =
    let list = c.push.new.self in
    on_err_weaker c.push.result
    (λ same. same_lists c.args.name.now c.args.self.now.lists (c.get_mut.follows.lender list) c.in-Some.list.now list c.in-Some.ensures.value same ((c.get_mut.follows.holds list).3 (search rules)))
    c.push.ensures.err
