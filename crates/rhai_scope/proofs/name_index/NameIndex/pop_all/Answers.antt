use Rattle.std.proofs.Common.{◌≡◌, ◌+◌, ◌-◌, ◌≤◌, length, subst, arith}
use Rattle.std.specs.Str.{chars}
use Rattle.rhai_scope.specs.NameIndex.{ListsNames}
use Rattle.rhai_scope.proofs.Headed.{so_far, one_less, from_all, none}
use Rattle.rhai_scope.proofs.Placed.{names_popped}
use Rattle.rhai_scope.proofs.name_index.NameIndex.pop_all.Goals as goal

pub loop-i-init : goal.loop-i-init
loop-i-init g c = record { within = omega arith; lists = λ ns x. from_all g.N.Named.name_of ns c.args.names.now c.args.self.now (length c.args.names.now) (omega arith) x }

pub loop-i-preserved : goal.loop-i-preserved
loop-i-preserved g c =
    let i = c.loop-i.i - 1 in
    let hs = c.args.names.now in
    let name_of = g.N.Named.name_of in
    let text = c.name_text.result in
    let next : c.loop-i.i ≡ i + 1 = omega arith in
    let below : i ≤ length hs = omega (arith, c.loop-i.invariant.within) in
    record {
      within = below;
      lists = λ ns x.
          names_popped text.now c.name_text.utf8 c.loop-i.self c.pop.new.self (so_far name_of ns hs i)
          (one_less name_of ns hs c.loop-i.self i c.index-names-i.result (chars text.now) (omega (arith, c.loop-i.invariant.within)) c.index-names-i.is c.name_text.ensures
          (subst (λ n. ListsNames c.loop-i.self (so_far name_of ns hs n)) next (c.loop-i.invariant.lists ns x)))
          c.pop.ensures.lists c.pop.ensures.filter;
    }

pub returns : goal.returns
returns g c = λ ns x.
    let name_of = g.N.Named.name_of in
    let end : c.loop-i.i ≡ 0 = omega arith in
    none name_of ns c.args.names.now c.loop-i.self (subst (λ n. ListsNames c.loop-i.self (so_far name_of ns c.args.names.now n)) end (c.loop-i.invariant.lists ns x))
