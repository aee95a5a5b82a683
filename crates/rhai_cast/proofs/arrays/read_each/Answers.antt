use Rattle.std.proofs.Common.{◌≡◌, ◌++◌, arith, [], map, Some, option_map, sym, ap, ◌∙◌}
use Rattle.std.proofs.lemmas.List.{append-nil}
use Rattle.std.specs.Vec.Iter.{into_iter_items}
use Rattle.rhai_value.specs.End.{flattened}
use Rattle.rhai_value.specs.Rows.{trees_of}
use Rattle.rhai_variant.specs.Reads.{read}
use Rattle.rhai_cast.specs.Arrays.{read_all, first_unread}
use Rattle.rhai_cast.proofs.Items.{empty, read_more, unread_more}
use Rattle.rhai_cast.proofs.arrays.read_each.Goals as goal

pub loop-item-preserved : goal.loop-item-preserved
loop-item-preserved g c =
    let tree = g.T.Variant.tree in
    let k = g.T.Variant.KIND in
    let s = c.args.store.now in
    let xs = c.loop-item.xs.items in
    let x = c.in-Some-2.x in
    let t = c.in-Some.item in
    let rest = trees_of (into_iter_items c.next.new.self) in
    let is : Some (tree x) ≡ read k (flattened s t) = ap (option_map tree) (sym c.in-Some-2.is) ∙ c.in_ok-x.ensures.value in
    let left = ap trees_of c.in-Some.ensures.steps.0 in
    record {
      read = ap (λ zs. option_map (λ ys. map tree zs ++ ys) (read_all k s rest)) c.in_ok-add-in-Some-2.ensures ∙ read_more tree k s xs x t rest is
          ∙ sym (ap (λ ts. option_map (λ ys. map tree xs ++ ys) (read_all k s ts)) left) ∙ c.loop-item.invariant.read;
      unread = unread_more k s (tree x) t rest is ∙ sym (ap (first_unread k s) left) ∙ c.loop-item.invariant.unread;
    }

pub returns-clause-ok : goal.returns-clause-ok
returns-clause-ok g c =
    let tree = g.T.Variant.tree in
    let k = g.T.Variant.KIND in
    let s = c.args.store.now in
    let xs = c.loop-item.xs.items in
    let it = c.loop-item.item-iterator in
    let none : into_iter_items it ≡ [] = empty (into_iter_items it) (omega (arith, it.rest.ok.0, c.in-None.ensures.steps.0)) in
    sym c.loop-item.invariant.read ∙ ap (λ zs. option_map (λ ys. map tree xs ++ ys) (read_all k s (trees_of zs))) none ∙ ap Some (append-nil (map tree xs))
