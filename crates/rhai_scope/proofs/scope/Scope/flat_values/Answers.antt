use Rattle.std.proofs.Common.{◌≡◌, IfOk, map, ap, subst, ◌∙◌}
use Rattle.std.proofs.lemmas.Simd.{map-map}
use Rattle.rhai_scope.specs.Items.{shown_flat}
use Rattle.rhai_scope.proofs.scope.Scope.flat_values.Goals as goal

pub returns : goal.returns
returns c =
    let items = ap (map (λ x. x.2)) c.iter.ensures ∙ map-map (λ x. x.2) (shown_flat c.args.store.now) c.args.self.now in
    subst (λ xs. IfOk c.values_of.result (λ v. v.items ≡ xs)) items c.values_of.ensures
