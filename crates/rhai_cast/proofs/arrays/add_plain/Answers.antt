use Rattle.std.proofs.Common.{◌≡◌, ◌+◌, ◌++◌, ◌∷◌, length, map, drop, Some, option_map, sym, ap, ◌∙◌, arith}
use Rattle.std.proofs.lemmas.List.{drop_more}
use Rattle.rhai_value.specs.End.{flattened}
use Rattle.rhai_value.specs.Rows.{trees_of}
use Rattle.rhai_variant.specs.Reads.{read}
use Rattle.rhai_cast.specs.Arrays.{read_all}
use Rattle.rhai_cast.proofs.Items.{read_more}
use Rattle.rhai_cast.proofs.Plains.{plain_read}
use Rattle.rhai_cast.proofs.arrays.add_plain.Goals as goal

pub loop-item-preserved : goal.loop-item-preserved
loop-item-preserved g c =
    let tree = g.T.Variant.tree in
    let k = g.T.Variant.KIND in
    let items = c.deref-item-items.result.now in
    let i = c.loop-item.item-index in
    let t = c.item-item.result in
    let xs = c.loop-item.xs.items in
    let x = c.in-Ok.x in
    let rest = drop (i + 1) items in
    let left : drop i items ≡ t ∷ rest = drop_more items i t c.loop-item-test.true ∙ ap (λ y. y ∷ rest) (sym c.item-item.is) in
    let copied = c.in-Ok.ensures.copied in
    record {
      room = omega (arith, c.push_reserved.ensures.len, c.push_reserved.ensures.capacity, c.loop-item.invariant.room, ap length left);
      read = λ s.
          let is : Some (tree x) ≡ read k (flattened s t) = ap Some copied ∙ plain_read k s t (tree c.in-Some.x.now) c.requires.kind c.in-Some.ensures in
          ap (λ zs. option_map (λ ys. map tree zs ++ ys) (read_all k s (trees_of rest))) c.push_reserved.ensures.items
          ∙ read_more tree k s xs x t (trees_of rest) is
          ∙ sym (ap (λ ts. option_map (λ ys. map tree xs ++ ys) (read_all k s (trees_of ts))) left)
          ∙ c.loop-item.invariant.read s;
    }
