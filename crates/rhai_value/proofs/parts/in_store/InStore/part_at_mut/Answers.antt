use Rattle.std.proofs.Common.{◌≡◌, ℕ, ◌⊎◌, option_and_then, ap, ◌∙◌, inr}
use Rattle.rhai_value.specs.declared.parts.in_store.InStore.{InStore}
use Rattle.rhai_value.specs.Writes.{written}
use Rattle.rhai_value.proofs.InStores.{kept_written}
use Rattle.rhai_value.proofs.parts.in_store.InStore.part_at_mut.Goals as goal

pub returns-in-None : goal.returns-in-None
returns-in-None g c =
    let h = c.args.self.now in
    let v = c.in_ok-held_at_mut.field-0.now in
    let is = c.in_ok-held_at_mut.ensures.value in
    let e : ◌≡◌ {A = (ℕ × (g.row.T.Denot → InStore)) ⊎ InStore} (inr (written h (λ _. v))) (inr h) = ap inr (kept_written h v is) in
    (e, record { writes_back = tt; value = c.in-None.ensures.value ∙ ap (option_and_then g.T.Part.part_of) is })
