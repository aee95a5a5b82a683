use Rattle.std.proofs.Common.{◌<◌, length, Some, option_map, refl, ap, sym, ◌∙◌}
use Rattle.std.proofs.lemmas.Option.{slice_get_read}
use Rattle.rhai_scope.specs.Entry.{Entry, with_value}
use Rattle.rhai_scope.proofs.EntryNames.{indexed_written}
use Rattle.rhai_scope.proofs.MovedOut.{set_changed}
use Rattle.rhai_scope.proofs.scope.Scope.at_mut.Goals as goal

pub invariant_of-self-lent : goal.invariant_of-self-lent
invariant_of-self-lent c w =
    let e = c.index_mut.result.now in
    indexed_written c.self.inside.index c.self.inside.records.items c.args.i e (with_value w e) c.index_mut.ensures.value refl c.self.invariant

pub returns : goal.returns
returns c =
    let es = c.self.inside.records.items in
    let e = c.index_mut.result.now in
    let within : c.args.i < length es = rw (← c.self.view_is) at c.requires in
    rw (← c.self.view_is) (
      (refl, λ w. set_changed (with_value w) es c.args.i e within c.index_mut.ensures.value),
      record { writes_back = tt; value = ap (option_map (λ (x : Entry). x.value)) (slice_get_read es (length es) c.args.i e refl within c.index_mut.ensures.value) ∙ ap Some (sym c.value_mut.ensures.value) },
    )
