use Rattle.std.proofs.Common.{◌≡◌, ℕ, List, [], ◌∷◌, ◌++◌, is_some, sym, ap, ◌∙◌}
use Rattle.rhai_value.specs.Tree.{Tree}
use Rattle.std.specs.BTreeMap.{is_at}
use Rattle.std.specs.Map.{lookup}
use Rattle.rhai_value.specs.Rows.{bytes_cmp}
use Rattle.rhai_packs.proofs.Mixed.{one_more, filled_there, filled_new}
use Rattle.rhai_packs.proofs.maps.fill_with.Goals as goal

pub loop-key-preserved-then-contains_key : goal.loop-key-preserved-then-contains_key
loop-key-preserved-then-contains_key c =
    let i = c.loop-key.invariant in
    let e : List ℕ × Tree = (c.in-Some.key, c.in-Some.value) in
    let bytes : c.as_str.result.now ≡ e.0 = c.as_str.ensures in
    let test = c.contains_key.ensures ∙ ap (λ k. is_some (lookup (is_at (bytes_cmp k)) c.loop-key.map)) bytes in
    let there = sym test ∙ c.if-contains_key.true in
    record {
      done = i.done ++ e ∷ [];
      all = one_more _ i.done c.loop-key.key-iterator c.next.new.self e i.all c.in-Some.ensures.steps;
      made = filled_there c.args.map.now i.done e c.loop-key.map i.made there;
    }

pub loop-key-preserved-in-Ok-2 : goal.loop-key-preserved-in-Ok-2
loop-key-preserved-in-Ok-2 c =
    let i = c.loop-key.invariant in
    let e : List ℕ × Tree = (c.in-Some.key, c.in-Some.value) in
    let bytes : c.as_str.result.now ≡ e.0 = c.as_str.ensures in
    let test = c.contains_key.ensures ∙ ap (λ k. is_some (lookup (is_at (bytes_cmp k)) c.loop-key.map)) bytes in
    let there = sym test ∙ c.if-contains_key.false in
    record {
      done = i.done ++ e ∷ [];
      all = one_more _ i.done c.loop-key.key-iterator c.next.new.self e i.all c.in-Some.ensures.steps;
      made = filled_new c.args.map.now i.done e c.loop-key.map c.insert_key.new.self i.made there c.in-Ok.ensures.inserted;
    }
