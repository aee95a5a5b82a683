use Rattle.std.proofs.Common.{◌+◌, arith}
use Rattle.std.specs.Str.{chars}
use Rattle.rhai_scope.proofs.Headed.{so_far, length_so_far, one_more, all, from_none}
use Rattle.rhai_scope.proofs.Placed.{names_pushed, same_names}
use Rattle.rhai_scope.proofs.name_index.NameIndex.push_all.Goals as goal

pub loop-i-init : goal.loop-i-init
loop-i-init g c = record { within = omega arith; lists = λ ns is x. from_none g.N.Named.name_of ns c.args.names.now c.args.self.now x }

pub loop-i-preserved : goal.loop-i-preserved
loop-i-preserved g c =
    let i = c.loop-i.i in
    let hs = c.args.names.now in
    let name_of = g.N.Named.name_of in
    let text = c.name_text.result in
    record {
      within = omega arith;
      lists = λ ns is x.
          one_more name_of ns hs c.push.new.self i c.index-names-i.result (chars text.now) (omega arith) c.index-names-i.is c.name_text.ensures
          (names_pushed text.now c.name_text.utf8 c.loop-i.self c.push.new.self (c.args.place + i) (so_far name_of ns hs i) (length_so_far name_of ns hs c.args.place i is c.loop-i.invariant.within)
          (c.loop-i.invariant.lists ns is x) c.in-Ok.ensures.ok);
    }

pub returns-in-Err-clause-err : goal.returns-in-Err-clause-err
returns-in-Err-clause-err g c = λ ns is x.
    let earlier = so_far g.N.Named.name_of ns c.args.names.now c.loop-i.i in
    c.pop_all.ensures ns (same_names c.loop-i.self c.push.new.self earlier (c.loop-i.invariant.lists ns is x) c.in-Err.ensures.err c.in-Err.ensures.err_filter)

pub returns-clause-ok : goal.returns-clause-ok
returns-clause-ok g c = λ ns is x. all g.N.Named.name_of ns c.args.names.now c.loop-i.self c.loop-i.i (omega arith) (c.loop-i.invariant.lists ns is x)
