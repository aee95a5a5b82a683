use Rattle.std.proofs.Common.{ℕ, List, [], ◌∷◌, ◌++◌, sym, ap, ◌∙◌}
use Rattle.rhai_value.specs.Tree.{Tree}
use Rattle.std.specs.BTreeMap.{insert_entry}
use Rattle.rhai_value.specs.Rows.{bytes_cmp}
use Rattle.rhai_packs.proofs.Mixed.{one_more, mixed_more}
use Rattle.rhai_packs.proofs.maps.mixin.Goals as goal

pub loop-key-preserved-in-Ok : goal.loop-key-preserved-in-Ok
loop-key-preserved-in-Ok c =
    let i = c.loop-key.invariant in
    let e : List ℕ × Tree = (c.in-Some.key, c.in-Some.value) in
    record {
      done = i.done ++ e ∷ [];
      all = one_more _ i.done c.loop-key.key-iterator c.next.new.self e i.all c.in-Some.ensures.steps;
      made = c.in-Ok.ensures.inserted ∙ ap (λ r. insert_entry bytes_cmp r e.0 e.1) i.made ∙ sym (mixed_more c.args.map.now i.done e);
    }

pub loop-key-preserved-in-Ok-2 : goal.loop-key-preserved-in-Ok-2
loop-key-preserved-in-Ok-2 c =
    let i = c.loop-key.invariant in
    let e : List ℕ × Tree = (c.in-Some.key, c.in-Some.value) in
    record {
      done = i.done ++ e ∷ [];
      all = one_more _ i.done c.loop-key.key-iterator c.next.new.self e i.all c.in-Some.ensures.steps;
      made = c.in-Ok.ensures.inserted ∙ ap (λ r. insert_entry bytes_cmp r e.0 e.1) i.made ∙ sym (mixed_more c.args.map.now i.done e);
    }
