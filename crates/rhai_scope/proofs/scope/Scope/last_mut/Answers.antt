use Rattle.std.proofs.Common.{Option, ℕ, ap, inl, sym, ◌∙◌}
use Rattle.rhai_scope.specs.Lookup.{value_at, with_value_at}
use Rattle.rhai_scope.proofs.scope.Scope.last_mut.Goals as goal

pub returns-in-Some : goal.returns-in-Some
returns-in-Some c =
    let es = c.args.self.now in (
      ap (λ (o : Option ℕ). inl (c.at_mut.result.ghost_name, with_value_at es o)) c.in-Some.ensures.position,
      sym c.at_mut.ensures.value ∙ ap (value_at es) c.in-Some.ensures.position,
    )
