use Rattle.std.proofs.Common.{◌++◌, [], ◌∷◌, length, refl, sym, ap, ◌∙◌, subst, arith}
use Rattle.std.specs.List.{All, flat_map}
use Rattle.rhai_value.specs.Rows.{trees_of, fields_of}
use Rattle.rhai_value.specs.Tree.{array, function}
use Rattle.rhai_show.specs.Shape.{leaf_of}
use Rattle.rhai_show.specs.Clean.{are_plain, values_in}
use Rattle.rhai_show.specs.HashBytes.{count_bytes, name_bytes, hash_bytes}
use Rattle.rhai_show.specs.HashRests.{rest_bytes}
use Rattle.rhai_show.specs.HashRows.{row_bytes}
use Rattle.rhai_show.specs.InRange.{IsCount, IsName, IsPlainInRange, IsRowInRange}
use Rattle.rhai_show.specs.Rests.{items_keyed, rows_keyed, rest_weight}
use Rattle.rhai_show.specs.Weights.{weight}
use Rattle.rhai_show.proofs.Hashes.{leaf_hashed, hashed-branch, hashed-map}
use Rattle.rhai_show.proofs.HashRests.{items_bytes, rows_bytes, items_plain, rows_plain, items_ranged, rows_ranged, begins}
use Rattle.rhai_show.proofs.Plains.{plain-branch, plain-map}
use Rattle.rhai_show.proofs.Pushed.{added_more}
use Rattle.rhai_show.proofs.Ranges.{leaf_ranged, branch_ranged, map_ranged}
use Rattle.rhai_show.proofs.Weights.{branch-weight, map-weight}
use Rattle.rhai_show.proofs.hash_far.opened.Goals as goal

pub returns-in_ok-add_count-in-Array-clause-bytes : goal.returns-in_ok-add_count-in-Array-clause-bytes
returns-in_ok-add_count-in-Array-clause-bytes c =
    let h = c.in-Array in
    let f = hash_bytes c.args.store.now c.args.path.now in
    let xs = c.in-Array.items.now in
    begins c.args.out.now.items c.add_bytes.new.out.items c.add_count.new.out.items (5 ∷ []) (count_bytes (length xs)) (rest_bytes f (items_keyed xs)) _ c.in_ok-add_bytes-in-Array.ensures c.in_ok-add_count-in-Array.ensures.bytes
    (ap (λ bs. 5 ∷ (count_bytes (length xs) ++ bs)) (items_bytes f xs)
    ∙ hashed-branch c.args.store.now c.args.path.now c.args.value.now array h.items.now h.ensures.0 h.ensures.1 h.ensures.2 c.requires)

pub returns-in_ok-add_count-in-Array-clause-left : goal.returns-in_ok-add_count-in-Array-clause-left
returns-in_ok-add_count-in-Array-clause-left c =
    let h = c.in-Array in
    let same = branch-weight c.args.store.now c.args.path.now c.args.value.now array c.in-Array.items.now h.items.now h.ensures.0 h.ensures.1 h.ensures.2 refl in
    (tt, omega arith)

pub returns-in_ok-add_count-in-Array-clause-plain : goal.returns-in_ok-add_count-in-Array-clause-plain
returns-in_ok-add_count-in-Array-clause-plain c =
    let h = c.in-Array in
    items_plain c.args.store.now c.args.path.now c.in-Array.items.now
    (sym (plain-branch c.args.store.now c.args.path.now c.args.value.now array (trees_of h.items.now) h.ensures.0 h.ensures.1 h.ensures.2) ∙ c.requires)

pub returns-in_ok-add_count-in-Array-clause-range : goal.returns-in_ok-add_count-in-Array-clause-range
returns-in_ok-add_count-in-Array-clause-range c = λ r.
    let h = c.in-Array in
    branch_ranged c.args.store.now c.args.path.now c.args.value.now array h.items.now h.ensures.0 h.ensures.1 h.ensures.2 tt
    (c.in_ok-add_count-in-Array.ensures.range, items_ranged c.args.store.now c.args.path.now c.in-Array.items.now r)

pub returns-in_ok-add_count-in-Map-clause-bytes : goal.returns-in_ok-add_count-in-Map-clause-bytes
returns-in_ok-add_count-in-Map-clause-bytes c =
    let h = c.in-Map in
    let f = hash_bytes c.args.store.now c.args.path.now in
    let count = c.in_ok-add_count-in-Map.ensures.bytes ∙ ap (λ n. c.add_bytes-in-Map.new.out.items ++ count_bytes n) c.len.ensures.len in
    begins c.args.out.now.items c.add_bytes-in-Map.new.out.items c.add_count-in-Map.new.out.items (7 ∷ []) (count_bytes (length h.map.now)) (rest_bytes f (rows_keyed c.iter.result)) _ c.in_ok-add_bytes-in-Map.ensures count
    (ap (λ bs. 7 ∷ (count_bytes (length h.map.now) ++ bs)) (rows_bytes f c.iter.result ∙ ap (flat_map (row_bytes f)) c.iter.ensures.entries)
    ∙ hashed-map c.args.store.now c.args.path.now c.args.value.now h.map.now h.ensures.0 h.ensures.1 h.ensures.2 c.requires)

pub returns-in_ok-add_count-in-Map-clause-left : goal.returns-in_ok-add_count-in-Map-clause-left
returns-in_ok-add_count-in-Map-clause-left c =
    let h = c.in-Map in
    let same = map-weight c.args.store.now c.args.path.now c.args.value.now h.map.now h.ensures.0 h.ensures.1 h.ensures.2 in
    let rows = ap (λ rs. rest_weight (weight c.args.store.now c.args.path.now) (rows_keyed rs)) c.iter.ensures.entries in
    (tt, omega arith)

pub returns-in_ok-add_count-in-Map-clause-plain : goal.returns-in_ok-add_count-in-Map-clause-plain
returns-in_ok-add_count-in-Map-clause-plain c =
    let h = c.in-Map in
    rows_plain c.args.store.now c.args.path.now c.iter.result
    (ap (λ rs. are_plain c.args.store.now c.args.path.now (values_in (fields_of rs))) c.iter.ensures.entries
    ∙ sym (plain-map c.args.store.now c.args.path.now c.args.value.now (fields_of h.map.now) h.ensures.0 h.ensures.1 h.ensures.2) ∙ c.requires)

pub returns-in_ok-add_count-in-Map-clause-range : goal.returns-in_ok-add_count-in-Map-clause-range
returns-in_ok-add_count-in-Map-clause-range c = λ r.
    let h = c.in-Map in
    map_ranged c.args.store.now c.args.path.now c.args.value.now h.map.now h.ensures.0 h.ensures.1 h.ensures.2
    (subst IsCount c.len.ensures.len c.in_ok-add_count-in-Map.ensures.range, subst (All (IsRowInRange c.args.store.now c.args.path.now)) c.iter.ensures.entries (rows_ranged c.args.store.now c.args.path.now c.iter.result r))

pub returns-in_ok-add_count-in-Function-clause-bytes : goal.returns-in_ok-add_count-in-Function-clause-bytes
returns-in_ok-add_count-in-Function-clause-bytes c =
    let h = c.in-Function in
    let f = hash_bytes c.args.store.now c.args.path.now in
    let xs = c.curry-items.result.now in
    let named = added_more _ c.add_bytes-in-Function.new.out.items c.args.out.now.items (8 ∷ []) (name_bytes h.function.now.0) c.in_ok-add_bytes-in-Function.ensures
    (c.in_ok-add_name-in-Function.ensures.bytes ∙ ap (λ n. c.add_bytes-in-Function.new.out.items ++ name_bytes n) c.fn_name.ensures) in
    begins c.args.out.now.items c.add_name.new.out.items c.add_count-in-Function.new.out.items (8 ∷ name_bytes h.function.now.0) (count_bytes (length xs)) (rest_bytes f (items_keyed xs)) _ named c.in_ok-add_count-in-Function.ensures.bytes
    (ap (λ bs. 8 ∷ name_bytes h.function.now.0 ++ (count_bytes (length xs) ++ bs)) (items_bytes f xs)
    ∙ ap (λ ys. 8 ∷ name_bytes h.function.now.0 ++ (count_bytes (length ys) ++ flat_map f ys)) c.curry-items.ensures
    ∙ hashed-branch c.args.store.now c.args.path.now c.args.value.now (function h.function.now.0) h.function.now.1 h.ensures.0 h.ensures.1 h.ensures.2 c.requires)

pub returns-in_ok-add_count-in-Function-clause-left : goal.returns-in_ok-add_count-in-Function-clause-left
returns-in_ok-add_count-in-Function-clause-left c =
    let h = c.in-Function in
    let same = branch-weight c.args.store.now c.args.path.now c.args.value.now (function h.function.now.0) c.curry-items.result.now h.function.now.1 h.ensures.0 h.ensures.1 h.ensures.2 c.curry-items.ensures in
    (tt, omega arith)

pub returns-in_ok-add_count-in-Function-clause-plain : goal.returns-in_ok-add_count-in-Function-clause-plain
returns-in_ok-add_count-in-Function-clause-plain c =
    let h = c.in-Function in
    items_plain c.args.store.now c.args.path.now c.curry-items.result.now
    (ap (λ xs. are_plain c.args.store.now c.args.path.now (trees_of xs)) c.curry-items.ensures
    ∙ sym (plain-branch c.args.store.now c.args.path.now c.args.value.now (function h.function.now.0) (trees_of h.function.now.1) h.ensures.0 h.ensures.1 h.ensures.2) ∙ c.requires)

pub returns-in_ok-add_count-in-Function-clause-range : goal.returns-in_ok-add_count-in-Function-clause-range
returns-in_ok-add_count-in-Function-clause-range c = λ r.
    let h = c.in-Function in
    branch_ranged c.args.store.now c.args.path.now c.args.value.now (function h.function.now.0) h.function.now.1 h.ensures.0 h.ensures.1 h.ensures.2
    (subst IsName c.fn_name.ensures c.in_ok-add_name-in-Function.ensures.range)
    (subst (λ xs. IsCount (length xs) × All (IsPlainInRange c.args.store.now c.args.path.now) xs) c.curry-items.ensures
    (c.in_ok-add_count-in-Function.ensures.range, items_ranged c.args.store.now c.args.path.now c.curry-items.result.now r))

pub returns-in_ok-add_leaf-in-Leaf-clause-bytes : goal.returns-in_ok-add_leaf-in-Leaf-clause-bytes
returns-in_ok-add_leaf-in-Leaf-clause-bytes c =
    let h = c.in-Leaf.ensures in
    leaf_hashed _ _ c.args.store.now c.args.path.now c.args.value.now (leaf_of c.in-Leaf.leaf) h.0 h.1 h.2 c.in_ok-add_leaf-in-Leaf.ensures.bytes

pub returns-in_ok-add_leaf-in-Leaf-clause-range : goal.returns-in_ok-add_leaf-in-Leaf-clause-range
returns-in_ok-add_leaf-in-Leaf-clause-range c =
    let h = c.in-Leaf.ensures in
    leaf_ranged c.args.store.now c.args.path.now c.args.value.now (leaf_of c.in-Leaf.leaf) h.0 h.1 h.2 c.in_ok-add_leaf-in-Leaf.ensures.range
