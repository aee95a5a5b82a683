use Rattle.std.proofs.Common.{◌≡◌, ℕ, List, [], ◌∷◌, ◌++◌, sym, ap, ◌∙◌, arith}
use Rattle.std.proofs.lemmas.Grind.{common_steps}
use Rattle.std.specs.Str.{chars}
use Rattle.rhai_value.specs.Tree.{Tree, fresh, text}
use Rattle.rhai_packs.proofs.Mixed.{one_more, keys_more}
use Rattle.rhai_packs.proofs.maps.keys.Goals as goal

pub loop-key-preserved : goal.loop-key-preserved
loop-key-preserved c =
    let i = c.loop-key.invariant in
    let e : List ℕ × Tree = (c.in-Some.key.now, c.in-Some.field-0-1.now) in
    let pushed : c.push.new.self.items ≡ c.loop-key.keys.items ++ fresh (text (chars e.0)) ∷ [] = grind (arith, common_steps) in
    record {
      done = i.done ++ e ∷ [];
      all = one_more _ i.done c.loop-key.key-iterator c.next.new.self e i.all c.in-Some.ensures.steps;
      made = pushed ∙ ap (λ r. r ++ fresh (text (chars e.0)) ∷ []) i.made ∙ sym (keys_more (λ k. fresh (text (chars k))) i.done e);
    }
