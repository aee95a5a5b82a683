use Rattle.std.proofs.Common.{◌≡◌, [], ◌∷◌, ◌++◌, Some, None, option_copied, IfSome, codes, string_bytes, refl, sym, ap, ◌∙◌, arith}
use Rattle.std.specs.Str.{chars}
use Rattle.std.specs.Map.Iter.{deref_pair}
use Rattle.std.proofs.lemmas.Map.Iter.{rest_more, rest_all}
use Rattle.std.proofs.lemmas.Option.{MatchOption-at_some}
use Rattle.rhai_value.specs.Rows.{fields_of}
use Rattle.rhai_value.specs.Tree.{Tree, nodes, nodes_fields, cell_of}
use Rattle.rhai_value.specs.Walk.{entry}
use Rattle.rhai_show.specs.Shape.{leaf_of}
use Rattle.rhai_show.specs.declared.form.Form.TheVariants.{Debug}
use Rattle.rhai_show.specs.Leaves.{in_debug}
use Rattle.rhai_show.specs.Listed.{row_printed}
use Rattle.rhai_show.specs.Text.{joined, further, name_printed, content_form, printed}
use Rattle.rhai_show.proofs.Commas.{listed_step, listed_turn, listed_all, listed_end}
use Rattle.rhai_show.proofs.Measures.{left_in, left-entry, nodes_item}
use Rattle.rhai_show.proofs.Pushed.{fixed, added_as, added_twice, added_more, added_fixed, enclosed}
use Rattle.rhai_show.proofs.Printed.{added_leaf, printed-closed, printed-opened, printed-array, printed-map, printed-function}
use Rattle.rhai_show.proofs.text.+print.Goals as goal

pub add_array-returns-clause-text : goal.add_array-returns-clause-text
add_array-returns-clause-text t c =
    enclosed c.add_text-2.result _ (chars (string_bytes c.add_items.new.out)) (chars (string_bytes c.add_text.new.out)) (chars (string_bytes c.args.out.now)) (codes "[") (joined (λ u. printed c.args.store.now c.args.path.now u c.args.form) c.args.items.now) (codes "]") refl refl
    c.in_ok-add_text.ensures c.in_ok-add_items.ensures.text c.add_text-2.ensures

pub add_map-returns-clause-text : goal.add_map-returns-clause-text
add_map-returns-clause-text t c =
    enclosed c.add_text-2.result _ (chars (string_bytes c.add_fields.new.out)) (chars (string_bytes c.add_text.new.out)) (chars (string_bytes c.args.out.now)) (codes "#{") (joined (row_printed c.args.form (λ u. printed c.args.store.now c.args.path.now u c.args.form)) c.args.map.now) (codes "}") refl refl
    c.in_ok-add_text.ensures c.in_ok-add_fields.ensures.text c.add_text-2.ensures

pub add_function-returns-clause-text : goal.add_function-returns-clause-text
add_function-returns-clause-text t c =
    let old = chars (string_bytes c.args.out.now) in
    let name = name_printed c.args.form c.args.function.now.0 in
    let curried = in_debug c.args.form (further (λ u. printed c.args.store.now c.args.path.now u Debug) c.args.function.now.1) [] in
    let opens = added_fixed (chars (string_bytes c.add_text.new.out)) old (codes "Fn(") refl c.in_ok-add_text.ensures in
    let named = c.in_ok-add_name.ensures ∙ ap (λ n. chars (string_bytes c.add_text.new.out) ++ name_printed c.args.form n) c.fn_name.ensures in
    let items = c.in_ok-add_curried.ensures.text ∙ ap (λ xs. chars (string_bytes c.add_name.new.out) ++ in_debug c.args.form (further (λ u. printed c.args.store.now c.args.path.now u Debug) xs) []) c.curry.ensures in
    added_twice c.add_text-2.result _ (chars (string_bytes c.add_curried.new.out)) old (codes "Fn(" ++ name ++ curried) (chars (codes ")")) _
    (added_more _ _ old (codes "Fn(" ++ name) curried (added_more _ _ old (codes "Fn(") name opens named) items)
    (ap (λ x. codes "Fn(" ++ name ++ curried ++ x) (fixed (codes ")") refl)) c.add_text-2.ensures

pub add_items-add_value-requires : goal.add_items-add_value-requires
add_items-add_value-requires t c =
    let few = nodes_item c.args.items.now c.loop-item.item-index c.item-item.result (omega arith) c.item-item.is in
    let same = ap (left_in c.args.store.now) c.loop-item.invariant.path in
    (omega arith, tt)

pub add_items-returns-clause-text : goal.add_items-returns-clause-text
add_items-returns-clause-text t c =
    listed_end (λ u. printed c.args.store.now c.args.path.now u c.args.form) c.loop-item.is_first c.args.items.now c.loop-item.item-index _ _ (omega arith) c.loop-item.invariant.text

pub add_items-returns-clause-path : goal.add_items-returns-clause-path
add_items-returns-clause-path t c = c.loop-item.invariant.path

pub add_items-loop-item-preserved : goal.add_items-loop-item-preserved
add_items-loop-item-preserved t c =
    let f = λ (u : Tree). printed c.args.store.now c.args.path.now u c.args.form in
    let item = c.in_ok-add_value.ensures.text ∙ ap (λ p. chars (string_bytes c.add_comma.new.out) ++ printed c.args.store.now p c.item-item.result c.args.form) c.loop-item.invariant.path in
    record {
      text = listed_turn f c.loop-item.is_first c.args.items.now c.loop-item.item-index c.item-item.result (chars (string_bytes c.loop-item.out)) (chars (string_bytes c.add_comma.new.out)) _ (omega arith) c.item-item.is c.in_ok-add_comma.ensures item
          ∙ c.loop-item.invariant.text;
      path = c.in_ok-add_value.ensures.path ∙ c.loop-item.invariant.path;
    }

pub add_fields-add_value-requires : goal.add_fields-add_value-requires
add_fields-add_value-requires t c =
    let next = rest_more deref_pair c.loop-key.key-iterator c.next.new.self c.next.result (c.in-Some.key, c.in-Some.value) c.in-Some.is c.next.ensures.steps in
    let few = ap (λ rs. nodes_fields (fields_of rs)) next in
    let same = ap (left_in c.args.store.now) c.loop-key.invariant.path in
    (omega arith, tt)

pub add_fields-returns-clause-text : goal.add_fields-returns-clause-text
add_fields-returns-clause-text t c =
    let none = rest_all deref_pair c.loop-key.key-iterator c.next.new.self c.next.result c.in-None.is c.next.ensures.steps in
    listed_all (row_printed c.args.form (λ u. printed c.args.store.now c.args.path.now u c.args.form)) c.loop-key.is_first c.loop-key.key-iterator _ _ none c.loop-key.invariant.text

pub add_fields-returns-clause-path : goal.add_fields-returns-clause-path
add_fields-returns-clause-path t c = c.loop-key.invariant.path

pub add_fields-loop-key-preserved : goal.add_fields-loop-key-preserved
add_fields-loop-key-preserved t c =
    let f = row_printed c.args.form (λ u. printed c.args.store.now c.args.path.now u c.args.form) in
    let next = rest_more deref_pair c.loop-key.key-iterator c.next.new.self c.next.result (c.in-Some.key, c.in-Some.value) c.in-Some.is c.next.ensures.steps in
    let few = ap (λ rs. nodes_fields (fields_of rs)) next in
    let more = chars (string_bytes c.add_comma.new.out) in
    let colon = added_fixed (chars (string_bytes c.add_text.new.out)) (chars (string_bytes c.add_name.new.out)) (codes ": ") refl c.in_ok-add_text.ensures in
    let value = c.in_ok-add_value.ensures.text ∙ ap (λ p. chars (string_bytes c.add_text.new.out) ++ printed c.args.store.now p c.in-Some.value.now c.args.form) c.loop-key.invariant.path in
    let row = added_more _ _ more _ _ (added_more _ _ more _ _ c.in_ok-add_name.ensures colon) value in
    record {
      text = listed_step f c.loop-key.is_first (c.in-Some.key.now, c.in-Some.value.now) c.next.new.self c.loop-key.key-iterator (chars (string_bytes c.loop-key.out)) more _ next c.in_ok-add_comma.ensures row
          ∙ c.loop-key.invariant.text;
      path = c.in_ok-add_value.ensures.path ∙ c.loop-key.invariant.path;
      nodes_left = omega arith;
    }

pub add_value-returns-else-levels-eq0-clause-text : goal.add_value-returns-else-levels-eq0-clause-text
add_value-returns-else-levels-eq0-clause-text t c =
    added_as c.add_array.result _ _ _ _
    (printed-array c.args.store.now c.args.path.now c.args.value.now c.args.form c.of_items.result c.in-Array.items.now c.in-Array.items.now c.in-Array.ensures.0 c.in-Array.ensures.1 c.in-Array.ensures.2 c.of_items.ensures refl)
    c.add_array.ensures.text

pub add_value-returns-else-levels-eq0-2-clause-text : goal.add_value-returns-else-levels-eq0-2-clause-text
add_value-returns-else-levels-eq0-2-clause-text t c =
    added_as c.add_map.result _ _ _ _
    (printed-map c.args.store.now c.args.path.now c.args.value.now c.args.form c.of_items-in-Map.result c.in-Map.map.now c.in-Map.ensures.0 c.in-Map.ensures.1 c.in-Map.ensures.2 c.of_items-in-Map.ensures)
    c.add_map.ensures.text

pub add_value-returns-else-levels-eq0-3-clause-text : goal.add_value-returns-else-levels-eq0-3-clause-text
add_value-returns-else-levels-eq0-3-clause-text t c =
    added_as c.add_function.result _ _ _ _
    (printed-function c.args.store.now c.args.path.now c.args.value.now c.args.form c.in-Function.function.now.0 c.in-Function.function.now.1 c.in-Function.ensures.0 c.in-Function.ensures.1 c.in-Function.ensures.2)
    c.add_function.ensures.text

pub add_value-add_held-requires : goal.add_value-add_held-requires
add_value-add_held-requires t c =
    let h = c.in-Holder in
    let size = ap nodes h.ensures.3 in
    (omega arith, h.ensures)

pub add_held-returns-in-None-clause-text : goal.add_held-returns-in-None-clause-text
add_held-returns-in-None-clause-text t c =
    let h = c.requires in
    let none : None ≡ entry c.args.store.now c.args.path.now c.args.value.now = ap option_copied (sym c.in-None.is) ∙ c.in_ok-enter.ensures.found in
    added_as c.add_text.result _ (chars (string_bytes c.args.out.now)) (chars (codes "<shared>")) _
    (fixed (codes "<shared>") refl ∙ printed-closed c.args.store.now c.args.path.now c.args.value.now c.args.form h.0 h.1 h.2 h.3 none)
    c.add_text.ensures

pub add_held-add_value-requires : goal.add_held-add_value-requires
add_held-add_value-requires t c =
    let o = c.in_ok-enter.ensures in
    let some : Some c.in-Some.content.now ≡ entry c.args.store.now c.args.path.now c.args.value.now = ap option_copied (sym c.in-Some.is) ∙ o.found in
    let next : IfSome (cell_of c.args.value.now) (λ k. c.enter.new.self ≡ k ∷ c.args.path.now) = MatchOption-at_some _ _ _ c.in-Some.is o.opened in
    let less = left-entry c.args.store.now c.args.path.now c.enter.new.self c.args.value.now c.in-Some.content.now 0 some next in
    (omega arith, tt)

pub add_held-returns-in_ok-add_value-in-Some-clause-text : goal.add_held-returns-in_ok-add_value-in-Some-clause-text
add_held-returns-in_ok-add_value-in-Some-clause-text t c =
    let h = c.requires in
    let o = c.in_ok-enter.ensures in
    let some : Some c.in-Some.content.now ≡ entry c.args.store.now c.args.path.now c.args.value.now = ap option_copied (sym c.in-Some.is) ∙ o.found in
    let next : IfSome (cell_of c.args.value.now) (λ k. c.enter.new.self ≡ k ∷ c.args.path.now) = MatchOption-at_some _ _ _ c.in-Some.is o.opened in
    let inside = printed c.args.store.now c.enter.new.self c.in-Some.content.now in
    added_twice c.add_text-in-Some.result _ (chars (string_bytes c.add_value.new.out)) (chars (string_bytes c.args.out.now)) (inside (content_form c.args.form)) (chars (codes " (shared)")) _
    (c.in_ok-add_value-in-Some.ensures.text ∙ ap (λ f. chars (string_bytes c.args.out.now) ++ inside f) c.of_content.ensures)
    (ap (λ x. inside (content_form c.args.form) ++ x) (fixed (codes " (shared)") refl)
    ∙ printed-opened c.args.store.now c.args.path.now c.enter.new.self c.args.value.now c.in-Some.content.now c.args.form h.0 h.1 h.2 h.3 some next)
    c.add_text-in-Some.ensures

pub add_value-returns-in-Leaf-clause-text : goal.add_value-returns-in-Leaf-clause-text
add_value-returns-in-Leaf-clause-text t c =
    let h = c.in-Leaf.ensures in
    added_leaf c.add_leaf.result _ _ c.args.store.now c.args.path.now c.args.value.now c.args.form (leaf_of c.in-Leaf.leaf) h.0 h.1 h.2 c.add_leaf.ensures
