use Rattle.std.proofs.Common.{◌≡◌, ◌+◌, rules, true, false, length, Some, None, Err, arith, sym, ap, ap₂, ◌∙◌}
use Rattle.std.proofs.Math.Facts.{to_z-of_z}
use Rattle.rhai_value.specs.Steps.{item_place}
use Rattle.rhai_value.specs.declared.places.step.Step.TheVariants.{Index, Key}
use Rattle.rhai_value.specs.declared.places.step.PlaceErrorKind.TheVariants.{NoItem}
use Rattle.rhai_value.specs.Places.{way_held, way_in}
use Rattle.rhai_value.specs.Rows.{trees_of, fields_of}
use Rattle.rhai_value.specs.Tree.{node, branch, array, fields, cell_of}
use Rattle.rhai_value.proofs.Placed.{own_works, held_works, item_works, no_item_works, unshared, item_there, item_same, item_missing, with_index, item_keyed, field_same}
use Rattle.rhai_value.proofs.places.with_place.+work.Goals as goal

pub work_below-returns-then-not-is_shared : goal.work_below-returns-then-not-is_shared
work_below-returns-then-not-is_shared g t c =
    own_works g.F.FnOnce c.args.f (way_in c.args.steps.now c.args.gone) c.args.gone c.args.store.now c.args.value.now c.work_in.result c.work_in.new.value c.work_in.new.store
    (unshared (cell_of c.args.value.now) c.is_shared.result c.is_shared.ensures c.if-not-is_shared.true) c.work_in.ensures

pub work_below-returns-then-put_back : goal.work_below-returns-then-put_back
work_below-returns-then-put_back g t c =
    held_works g.F.FnOnce c.args.f (way_in c.args.steps.now c.args.gone) c.args.gone c.args.store.now c.args.value.now c.lend_held.new.self c.put_back.new.self c.in-Some.token c.in-Some.content
    c.work_in-answer.result c.work_in-answer.new.value c.work_in-answer.new.store true c.in-Some.ensures.lent c.work_in-answer.ensures (sym c.if-put_back.true ∙ c.put_back.ensures.kept) c.put_back.ensures.back

pub work_below-returns-else-put_back : goal.work_below-returns-else-put_back
work_below-returns-else-put_back g t c =
    held_works g.F.FnOnce c.args.f (way_in c.args.steps.now c.args.gone) c.args.gone c.args.store.now c.args.value.now c.lend_held.new.self c.put_back.new.self c.in-Some.token c.in-Some.content
    c.work_in-answer.result c.work_in-answer.new.value c.work_in-answer.new.store false c.in-Some.ensures.lent c.work_in-answer.ensures (sym c.if-put_back.false ∙ c.put_back.ensures.kept) c.put_back.ensures.back

pub work_in_array-returns-in-Some : goal.work_in_array-returns-in-Some
work_in_array-returns-in-Some g t c =
    let xs = c.args.items.now.items in
    let i = c.args.index in
    let k = c.in-Some.place in
    let y = c.index_mut.result.now in
    let counted : c.len.result ≡ length xs = omega (arith, c.len.ensures, c.args.items.now.ok.0) in
    let is : Some k ≡ item_place (length xs) i = c.in-Some.ensures.place ∙ ap₂ item_place counted (to_z-of_z c.ranges.index) in
    λ h n. item_works g.F.FnOnce c.args.f (way_held (way_in c.args.rest.now (c.args.gone + 1)) (c.args.gone + 1) c.args.store.now) c.args.gone (Index i) y (node (branch array (trees_of xs)) h n) c.args.store.now
    c.work_below.result c.work_below.new.value _ c.work_below.new.store
    (item_there xs i k y h n is (search rules) c.index_mut.ensures.value) (item_same xs i k y h n is (search rules) c.index_mut.ensures.value)
    (sym (with_index xs i k h n is c.work_below.new.value)) c.work_below.ensures

pub work_in_array-returns-in-None : goal.work_in_array-returns-in-None
work_in_array-returns-in-None g t c =
    let xs = c.args.items.now.items in
    let counted : c.len.result ≡ length xs = omega (arith, c.len.ensures, c.args.items.now.ok.0) in
    let again : c.len-in-None.result ≡ length xs = omega (arith, c.len-in-None.ensures, c.args.items.now.ok.0) in
    let is : None ≡ item_place (length xs) c.args.index = c.in-None.ensures.place ∙ ap₂ item_place counted (to_z-of_z c.ranges.index) in
    λ h n. no_item_works g.F.FnOnce c.args.f (way_held (way_in c.args.rest.now (c.args.gone + 1)) (c.args.gone + 1) c.args.store.now) c.args.gone (Index c.args.index) (node (branch array (trees_of xs)) h n) c.args.store.now
    (NoItem _) (item_missing xs c.args.index h n is ∙ ap (λ z. Err (NoItem z)) (sym again))

pub work_in_map-returns-in-Some : goal.work_in_map-returns-in-Some
work_in_map-returns-in-Some g t c =
    let rs = c.args.map.now in
    let k = c.args.key.now in
    let y = c.in-Some.value.now in
    λ h n. item_works g.F.FnOnce c.args.f (way_held (way_in c.args.rest.now (c.args.gone + 1)) (c.args.gone + 1) c.args.store.now) c.args.gone (Key k) y (node (fields (fields_of rs)) h n) c.args.store.now
    c.work_below.result c.work_below.new.value _ c.work_below.new.store
    (item_keyed (fields_of rs) k h n y c.in-Some.ensures.value) (ap (λ x. node (fields x) h n) (field_same _ (fields_of rs) y (sym c.in-Some.ensures.value)))
    (ap (λ x. node (fields x) h n) (c.value_mut.ensures.written c.work_below.new.value)) c.work_below.ensures
