use Rattle.std.proofs.Common.{◌≡◌, ℕ, List, [], ◌∷◌, ◌++◌, sym, ap, ◌∙◌, arith}
use Rattle.std.proofs.lemmas.Grind.{common_steps}
use Rattle.rhai_value.specs.Tree.{Tree, copy}
use Rattle.rhai_packs.proofs.Mixed.{one_more, values_more}
use Rattle.rhai_packs.proofs.maps.values.Goals as goal

pub loop-value-preserved : goal.loop-value-preserved
loop-value-preserved c =
    let i = c.loop-value.invariant in
    let e : List ℕ × Tree = (c.in-Some.field-0-0.now, c.in-Some.value.now) in
    let pushed : c.push.new.self.items ≡ c.loop-value.values.items ++ copy e.1 ∷ [] = grind (arith, common_steps) in
    record {
      done = i.done ++ e ∷ [];
      all = one_more _ i.done c.loop-value.value-iterator c.next.new.self e i.all c.in-Some.ensures.steps;
      made = pushed ∙ ap (λ r. r ++ copy e.1 ∷ []) i.made ∙ sym (values_more copy i.done e);
    }
