use Rattle.std.proofs.Common.{◌++◌, Some, None, codes, string_bytes, refl, ap, ◌∙◌, arith}
use Rattle.std.specs.Str.{chars}
use Rattle.rhai_value.specs.Tree.{array, function}
use Rattle.rhai_show.specs.Shape.{leaf_of}
use Rattle.rhai_show.specs.declared.form.Form.TheVariants.{Debug}
use Rattle.rhai_show.specs.Frames.{keyed_printed}
use Rattle.rhai_show.specs.Listed.{row_printed}
use Rattle.rhai_show.specs.Rests.{items_keyed, rows_keyed, rest_weight}
use Rattle.rhai_show.specs.Text.{joined, further, name_printed, printed}
use Rattle.rhai_show.specs.Weights.{weight}
use Rattle.rhai_show.proofs.Commas.{joined-map, further-map}
use Rattle.rhai_show.proofs.Frames.{around}
use Rattle.rhai_show.proofs.Printed.{leaf-added, printed-array, printed-map, printed-function}
use Rattle.rhai_show.proofs.Pushed.{fixed, added_fixed, added_more}
use Rattle.rhai_show.proofs.Weights.{branch-weight, map-weight}
use Rattle.rhai_show.proofs.text_far.opened.Goals as goal

pub returns-in_ok-add_text-in-Array-clause-text : goal.returns-in_ok-add_text-in-Array-clause-text
returns-in_ok-add_text-in-Array-clause-text c =
    let h = c.in-Array in
    let own = c.of_items.result in
    let f = printed c.args.store.now c.args.path.now in
    let xs = c.in-Array.items.now in
    let old = chars (string_bytes c.args.out.now) in
    around (chars (string_bytes c.add_text.new.out)) old (codes "[") (joined (keyed_printed own f) (items_keyed xs)) (chars (codes "]")) (codes "]") _
    (added_fixed _ old (codes "[") refl c.in_ok-add_text-in-Array.ensures) (fixed (codes "]") refl)
    (ap (λ x. codes "[" ++ x ++ codes "]") (joined-map (keyed_printed own f) (λ t. (None, t)) xs)
    ∙ printed-array c.args.store.now c.args.path.now c.args.value.now c.args.form own xs h.items.now h.ensures.0 h.ensures.1 h.ensures.2 c.of_items.ensures refl)

pub returns-in_ok-add_text-in-Array-clause-left : goal.returns-in_ok-add_text-in-Array-clause-left
returns-in_ok-add_text-in-Array-clause-left c =
    let h = c.in-Array in
    let same = branch-weight c.args.store.now c.args.path.now c.args.value.now array c.in-Array.items.now h.items.now h.ensures.0 h.ensures.1 h.ensures.2 refl in
    (tt, omega arith)

pub returns-in_ok-add_text-in-Map-clause-text : goal.returns-in_ok-add_text-in-Map-clause-text
returns-in_ok-add_text-in-Map-clause-text c =
    let h = c.in-Map in
    let own = c.of_items-in-Map.result in
    let f = printed c.args.store.now c.args.path.now in
    let old = chars (string_bytes c.args.out.now) in
    around (chars (string_bytes c.add_text-in-Map.new.out)) old (codes "#{") (joined (keyed_printed own f) (rows_keyed c.iter.result)) (chars (codes "}")) (codes "}") _
    (added_fixed _ old (codes "#{") refl c.in_ok-add_text-in-Map.ensures) (fixed (codes "}") refl)
    (ap (λ x. codes "#{" ++ x ++ codes "}") (joined-map (keyed_printed own f) (λ r. (Some r.0, r.1)) c.iter.result)
    ∙ ap (λ rs. codes "#{" ++ joined (row_printed own (λ u. f u own)) rs ++ codes "}") c.iter.ensures.entries
    ∙ printed-map c.args.store.now c.args.path.now c.args.value.now c.args.form own h.map.now h.ensures.0 h.ensures.1 h.ensures.2 c.of_items-in-Map.ensures)

pub returns-in_ok-add_text-in-Map-clause-left : goal.returns-in_ok-add_text-in-Map-clause-left
returns-in_ok-add_text-in-Map-clause-left c =
    let h = c.in-Map in
    let same = map-weight c.args.store.now c.args.path.now c.args.value.now h.map.now h.ensures.0 h.ensures.1 h.ensures.2 in
    let rows = ap (λ rs. rest_weight (weight c.args.store.now c.args.path.now) (rows_keyed rs)) c.iter.ensures.entries in
    (tt, omega arith)

pub returns-in_ok-add_name-in-Function-clause-text : goal.returns-in_ok-add_name-in-Function-clause-text
returns-in_ok-add_name-in-Function-clause-text c =
    let h = c.in-Function in
    let f = printed c.args.store.now c.args.path.now in
    let old = chars (string_bytes c.args.out.now) in
    let name = name_printed c.args.form h.function.now.0 in
    let opens = added_fixed (chars (string_bytes c.add_text-in-Function.new.out)) old (codes "Fn(") refl c.in_ok-add_text-in-Function.ensures in
    let named = c.in_ok-add_name-in-Function.ensures ∙ ap (λ n. chars (string_bytes c.add_text-in-Function.new.out) ++ name_printed c.args.form n) c.fn_name.ensures in
    around (chars (string_bytes c.add_name.new.out)) old (codes "Fn(" ++ name) (further (keyed_printed Debug f) (items_keyed c.shown_curry.result.now)) (chars (codes ")")) (codes ")") _
    (added_more _ _ old (codes "Fn(") name opens named) (fixed (codes ")") refl)
    (ap (λ x. codes "Fn(" ++ name ++ x ++ codes ")") (further-map (keyed_printed Debug f) (λ t. (None, t)) c.shown_curry.result.now ∙ c.shown_curry.ensures.text (λ t. f t Debug))
    ∙ printed-function c.args.store.now c.args.path.now c.args.value.now c.args.form h.function.now.0 h.function.now.1 h.ensures.0 h.ensures.1 h.ensures.2)

pub returns-in_ok-add_name-in-Function-clause-left : goal.returns-in_ok-add_name-in-Function-clause-left
returns-in_ok-add_name-in-Function-clause-left c =
    let h = c.in-Function in
    let same = branch-weight c.args.store.now c.args.path.now c.args.value.now (function h.function.now.0) h.function.now.1 h.function.now.1 h.ensures.0 h.ensures.1 h.ensures.2 refl in
    let fewer = c.shown_curry.ensures.left (weight c.args.store.now c.args.path.now) in
    (tt, omega arith)

pub returns-in_ok-add_leaf-in-Leaf-clause-text : goal.returns-in_ok-add_leaf-in-Leaf-clause-text
returns-in_ok-add_leaf-in-Leaf-clause-text c =
    let h = c.in-Leaf.ensures in
    leaf-added _ _ c.args.store.now c.args.path.now c.args.value.now c.args.form (leaf_of c.in-Leaf.leaf) h.0 h.1 h.2 c.in_ok-add_leaf-in-Leaf.ensures
