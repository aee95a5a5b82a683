use Rattle.std.proofs.Common.{◌<◌, length, slice_set, ap, ◌∙◌}
use Rattle.std.proofs.lemmas.Result.{on_ok_weaker}
use Rattle.rhai_scope.specs.Alias.{aliased}
use Rattle.rhai_scope.proofs.EntryNames.{indexed_written}
use Rattle.rhai_scope.proofs.MovedOut.{set_changed}
use Rattle.rhai_scope.proofs.scope.Scope.add_alias.Goals as goal

pub invariant_of-self : goal.invariant_of-self
invariant_of-self c =
    indexed_written c.self.inside.index c.self.inside.records.items c.args.i c.index_mut.result.now c.add_alias.new.self c.index_mut.ensures.value c.add_alias.ensures.name c.self.invariant

pub returns-clause-ok : goal.returns-clause-ok
returns-clause-ok c =
    let es = c.self.inside.records.items in
    let within : c.args.i < length es = rw (← c.self.view_is) at c.requires in
    rw (← c.self.view_is) (
    on_ok_weaker c.add_alias.result
    (λ is. ap (slice_set es c.args.i) is ∙ set_changed (aliased c.args.alias) es c.args.i c.index_mut.result.now within c.index_mut.ensures.value)
    c.add_alias.ensures.ok
    )
