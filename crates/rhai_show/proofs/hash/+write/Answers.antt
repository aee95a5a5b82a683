use Rattle.std.proofs.Common.{◌≡◌, ◌+◌, ◌++◌, [], ◌∷◌, drop, length, IfSome, is_some, sym, ap, ap₂, ◌∙◌, subst, arith, add-one}
use Rattle.std.specs.List.{All, flat_map}
use Rattle.std.specs.Map.Iter.{deref_pair}
use Rattle.std.specs.Str.{chars}
use Rattle.std.proofs.Math.Seq.{drop-cons}
use Rattle.std.proofs.lemmas.Map.Iter.{rest_more}
use Rattle.rhai_value.specs.Rows.{trees_of, fields_of}
use Rattle.rhai_value.specs.Tree.{nodes, nodes_trees, nodes_fields, array, function}
use Rattle.rhai_show.specs.Shape.{leaf_of}
use Rattle.rhai_show.specs.Plain.{plain}
use Rattle.rhai_show.specs.Clean.{are_plain, values_in}
use Rattle.rhai_show.specs.HashBytes.{count_bytes, name_bytes, some_bytes, hash_bytes}
use Rattle.rhai_show.specs.HashRows.{row_bytes}
use Rattle.rhai_show.specs.InRange.{IsCount, IsName, IsInRange, IsPlainInRange, IsRowInRange}
use Rattle.rhai_show.proofs.Measures.{left_in, left-entry, nodes_item}
use Rattle.rhai_show.proofs.Plains.{plain-branch, plain-map}
use Rattle.rhai_show.proofs.Pushed.{added_as, added_twice, added_more}
use Rattle.rhai_show.proofs.Ranges.{on_then, leaf_ranged, branch_ranged, map_ranged, one_more}
use Rattle.rhai_show.proofs.Hashes.{first_of_both, second_of_both, hashed-branch, hashed-map, added_hash, plain-content, each_step}
use Rattle.rhai_show.proofs.hash.+write.Goals as goal

pub add_value-returns-in_ok-add_bytes-in-Array-clause-bytes : goal.add_value-returns-in_ok-add_bytes-in-Array-clause-bytes
add_value-returns-in_ok-add_bytes-in-Array-clause-bytes t c =
    let h = c.in-Array in
    added_twice c.add_items.result _ c.add_bytes.new.out.items _ (5 ∷ []) _ _ c.in_ok-add_bytes-in-Array.ensures
    (hashed-branch c.args.store.now c.args.path.now c.args.value.now array h.items.now h.ensures.0 h.ensures.1 h.ensures.2 c.requires)
    c.add_items.ensures.bytes

pub add_value-returns-else-levels-eq0-2-clause-bytes : goal.add_value-returns-else-levels-eq0-2-clause-bytes
add_value-returns-else-levels-eq0-2-clause-bytes t c =
    let h = c.in-Map in
    added_as c.add_map.result _ _ _ _ (hashed-map c.args.store.now c.args.path.now c.args.value.now h.map.now h.ensures.0 h.ensures.1 h.ensures.2 c.requires) c.add_map.ensures.bytes

pub add_value-returns-in_ok-add_name-in-Function-clause-bytes : goal.add_value-returns-in_ok-add_name-in-Function-clause-bytes
add_value-returns-in_ok-add_name-in-Function-clause-bytes t c =
    let h = c.in-Function in
    let named = added_more _ c.add_bytes-in-Function.new.out.items c.args.out.now.items (8 ∷ []) (name_bytes h.function.now.0) c.in_ok-add_bytes-in-Function.ensures
    (c.in_ok-add_name-in-Function.ensures.bytes ∙ ap (λ n. c.add_bytes-in-Function.new.out.items ++ name_bytes n) c.fn_name.ensures) in
    added_twice c.add_items-in-Function.result _ c.add_name.new.out.items _ (8 ∷ name_bytes h.function.now.0) _ _ named
    (ap (λ xs. 8 ∷ name_bytes h.function.now.0 ++ (count_bytes (length xs) ++ flat_map (hash_bytes c.args.store.now c.args.path.now) xs)) c.curry.ensures
    ∙ hashed-branch c.args.store.now c.args.path.now c.args.value.now (function h.function.now.0) h.function.now.1 h.ensures.0 h.ensures.1 h.ensures.2 c.requires)
    c.add_items-in-Function.ensures.bytes

pub add_value-returns-in_ok-add_bytes-in-Array-clause-range : goal.add_value-returns-in_ok-add_bytes-in-Array-clause-range
add_value-returns-in_ok-add_bytes-in-Array-clause-range t c =
    let h = c.in-Array in
    on_then c.add_items.result (λ r. branch_ranged c.args.store.now c.args.path.now c.args.value.now array h.items.now h.ensures.0 h.ensures.1 h.ensures.2 tt
    r) c.add_items.ensures.range

pub add_value-returns-else-levels-eq0-2-clause-range : goal.add_value-returns-else-levels-eq0-2-clause-range
add_value-returns-else-levels-eq0-2-clause-range t c =
    let h = c.in-Map in
    on_then c.add_map.result (map_ranged c.args.store.now c.args.path.now c.args.value.now h.map.now h.ensures.0 h.ensures.1 h.ensures.2) c.add_map.ensures.range

pub add_value-returns-in_ok-add_name-in-Function-clause-range : goal.add_value-returns-in_ok-add_name-in-Function-clause-range
add_value-returns-in_ok-add_name-in-Function-clause-range t c =
    let h = c.in-Function in
    on_then c.add_items-in-Function.result (λ r. branch_ranged c.args.store.now c.args.path.now c.args.value.now (function h.function.now.0) h.function.now.1 h.ensures.0 h.ensures.1 h.ensures.2
    (subst IsName c.fn_name.ensures c.in_ok-add_name-in-Function.ensures.range)
    (subst (λ xs. IsCount (length xs) × All (IsPlainInRange c.args.store.now c.args.path.now) xs) c.curry.ensures r)) c.add_items-in-Function.ensures.range

pub add_held-returns-clause-range : goal.add_held-returns-clause-range
add_held-returns-clause-range t c =
    let h = c.requires.holder in
    let o = c.in_ok-content.ensures in
    subst (λ p. IfSome p IsInRange) (plain-content c.args.store.now c.args.path.now c.opened_cell.new.path c.args.value.now c.in_ok-content.content.now h.0 h.1 h.2 h.3 o.found o.opened) c.in_ok-add_value.ensures.range

pub add_value-add_items-requires : goal.add_value-add_items-requires
add_value-add_items-requires t c =
    let h = c.in-Array in
    let is = (c.in-Array.ensures.2) in
    let size = ap nodes is in
    (omega arith, sym (plain-branch c.args.store.now c.args.path.now c.args.value.now array (trees_of h.items.now) h.ensures.0 h.ensures.1 h.ensures.2) ∙ c.requires)

pub add_value-add_items-requires-in-Function : goal.add_value-add_items-requires-in-Function
add_value-add_items-requires-in-Function t c =
    let h = c.in-Function in
    let is = (c.in-Function.ensures.2) in
    let size = ap nodes is in
    let few = ap (λ xs. nodes_trees (trees_of xs)) c.curry.ensures in
    (omega arith, ap (λ xs. are_plain c.args.store.now c.args.path.now (trees_of xs)) c.curry.ensures ∙ sym (plain-branch c.args.store.now c.args.path.now c.args.value.now (function h.function.now.0) (trees_of h.function.now.1) h.ensures.0 h.ensures.1 h.ensures.2) ∙ c.requires)

pub add_value-add_map-requires : goal.add_value-add_map-requires
add_value-add_map-requires t c =
    let h = c.in-Map in
    let is = (c.in-Map.ensures.2) in
    let size = ap nodes is in
    (omega arith, sym (plain-map c.args.store.now c.args.path.now c.args.value.now (fields_of h.map.now) h.ensures.0 h.ensures.1 h.ensures.2) ∙ c.requires)

pub add_held-add_value-requires : goal.add_held-add_value-requires
add_held-add_value-requires t c =
    let h = c.requires.holder in
    let o = c.in_ok-content.ensures in
    let less = left-entry c.args.store.now c.args.path.now c.opened_cell.new.path c.args.value.now c.in_ok-content.content.now 0 o.found o.opened in
    (omega arith, ap is_some (plain-content c.args.store.now c.args.path.now c.opened_cell.new.path c.args.value.now c.in_ok-content.content.now h.0 h.1 h.2 h.3 o.found o.opened) ∙ c.requires.plain)

pub add_held-returns-clause-bytes : goal.add_held-returns-clause-bytes
add_held-returns-clause-bytes t c =
    let h = c.requires.holder in
    let o = c.in_ok-content.ensures in
    c.in_ok-add_value.ensures.bytes
    ∙ ap (λ p. c.args.out.now.items ++ some_bytes p) (plain-content c.args.store.now c.args.path.now c.opened_cell.new.path c.args.value.now c.in_ok-content.content.now h.0 h.1 h.2 h.3 o.found o.opened)

pub add_items-add_value-requires : goal.add_items-add_value-requires
add_items-add_value-requires t c =
    let i = c.loop-item.invariant in
    let xs = c.args.items.now in
    let n = c.loop-item.item-index in
    let few = nodes_item xs n c.item-item.result (omega arith) c.item-item.is in
    let same = ap (left_in c.args.store.now) i.path in
    let next : drop n xs ≡ c.item-item.result ∷ drop (n + 1) xs = drop-cons xs n c.item-item.result (omega arith) ∙ ap₂ (λ y k. y ∷ drop k xs) (sym c.item-item.is) (sym (add-one n)) in
    (omega arith, ap (λ p. is_some (plain c.args.store.now p c.item-item.result)) i.path ∙ first_of_both _ _ (sym (ap (λ ys. are_plain c.args.store.now c.args.path.now (trees_of ys)) next) ∙ i.plain))

pub add_value-add_held-requires : goal.add_value-add_held-requires
add_value-add_held-requires t c =
    let h = c.in-Holder in
    let size = ap nodes h.ensures.3 in
    (omega arith, (c.requires, h.ensures))

pub add_items-loop-item-preserved : goal.add_items-loop-item-preserved
add_items-loop-item-preserved t c =
    let i = c.loop-item.invariant in
    let e = c.in_ok-add_value.ensures in
    let s = c.args.store.now in
    let p = c.args.path.now in
    let xs = c.args.items.now in
    let n = c.loop-item.item-index in
    let x = c.item-item.result in
    let next : drop n xs ≡ x ∷ drop (n + 1) xs = drop-cons xs n x (omega arith) ∙ ap₂ (λ y k. y ∷ drop k xs) (sym c.item-item.is) (sym (add-one n)) in
    record {
      bytes = each_step (hash_bytes s p) (drop (n + 1) xs) (drop n xs) x c.loop-item.out.items c.add_value.new.out.items next (e.bytes ∙ ap (λ q. c.loop-item.out.items ++ hash_bytes s q x) i.path) ∙ i.bytes;
      range = one_more (IsPlainInRange s p) xs (drop n xs) (drop (n + 1) xs) x next (subst (λ q. IsPlainInRange s q x) i.path e.range) i.range;
      path = e.path ∙ i.path;
      plain = second_of_both (is_some (plain s p x)) (are_plain s p (trees_of (drop (n + 1) xs))) (sym (ap (λ ys. are_plain s p (trees_of ys)) next) ∙ i.plain);
    }

pub add_map-loop-key-preserved : goal.add_map-loop-key-preserved
add_map-loop-key-preserved t c =
    let i = c.loop-key.invariant in
    let e = c.in_ok-add_value.ensures in
    let s = c.args.store.now in
    let p = c.args.path.now in
    let k = c.in-Some.key.now in
    let v = c.in-Some.value.now in
    let next = rest_more deref_pair c.loop-key.key-iterator c.next.new.self c.next.result (c.in-Some.key, c.in-Some.value) c.in-Some.is c.next.ensures.steps in
    let few = ap (λ rs. nodes_fields (fields_of rs)) next in
    let row = added_more _ c.add_name.new.out.items c.loop-key.out.items (name_bytes (chars k)) (hash_bytes s p v) c.in_ok-add_name.ensures.bytes (e.bytes ∙ ap (λ q. c.add_name.new.out.items ++ hash_bytes s q v) i.path) in
    record {
      bytes = each_step (row_bytes (hash_bytes s p)) c.next.new.self c.loop-key.key-iterator (k, v) c.loop-key.out.items c.add_value.new.out.items next row ∙ i.bytes;
      range = one_more (IsRowInRange s p) c.args.map.now c.loop-key.key-iterator c.next.new.self (k, v) next (c.in_ok-add_name.ensures.range, subst (λ q. IsPlainInRange s q v) i.path e.range) i.range;
      path = e.path ∙ i.path;
      plain = second_of_both (is_some (plain s p v)) (are_plain s p (values_in (fields_of c.next.new.self))) (sym (ap (λ rs. are_plain s p (values_in (fields_of rs))) next) ∙ i.plain);
      nodes_left = omega arith;
    }

pub add_value-returns-in-Leaf-clause-bytes : goal.add_value-returns-in-Leaf-clause-bytes
add_value-returns-in-Leaf-clause-bytes t c =
    let h = c.in-Leaf.ensures in
    added_hash c.add_leaf.result _ _ c.args.store.now c.args.path.now c.args.value.now (leaf_of c.in-Leaf.leaf) h.0 h.1 h.2 c.add_leaf.ensures.bytes

pub add_value-returns-in-Leaf-clause-range : goal.add_value-returns-in-Leaf-clause-range
add_value-returns-in-Leaf-clause-range t c =
    let h = c.in-Leaf.ensures in
    on_then c.add_leaf.result (leaf_ranged c.args.store.now c.args.path.now c.args.value.now (leaf_of c.in-Leaf.leaf) h.0 h.1 h.2) c.add_leaf.ensures.range
