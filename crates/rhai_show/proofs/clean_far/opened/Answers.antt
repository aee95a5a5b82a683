use Rattle.std.proofs.Common.{refl, sym, ap, ◌∙◌, subst, arith}
use Rattle.rhai_value.specs.Rows.{trees_of, fields_of}
use Rattle.rhai_value.specs.Tree.{array, function}
use Rattle.rhai_show.specs.Shape.{leaf_of}
use Rattle.rhai_show.specs.Clean.{are_plain, values_in, HasNoHolder, HaveNoHolders, Searched}
use Rattle.rhai_show.specs.Rests.{rows_keyed, rest_weight}
use Rattle.rhai_show.specs.Weights.{weight}
use Rattle.rhai_show.proofs.CleanRests.{items_trees, rows_trees, values_free}
use Rattle.rhai_show.proofs.NoHolders.{fields_free}
use Rattle.rhai_show.proofs.Plains.{plain-leaf, plain-branch, plain-map}
use Rattle.rhai_show.proofs.Searches.{branch_leaves, map_leaves}
use Rattle.rhai_show.proofs.Weights.{branch-weight, map-weight}
use Rattle.rhai_show.proofs.clean_far.opened.Goals as goal

pub returns-in-Array-clause-answer : goal.returns-in-Array-clause-answer
returns-in-Array-clause-answer c =
    let h = c.in-Array in
    ap (are_plain c.args.store.now c.args.path.now) (items_trees c.in-Array.items.now)
    ∙ sym (plain-branch c.args.store.now c.args.path.now c.args.value.now array (trees_of h.items.now) h.ensures.0 h.ensures.1 h.ensures.2)

pub returns-in-Array-clause-left : goal.returns-in-Array-clause-left
returns-in-Array-clause-left c =
    let h = c.in-Array in
    let same = branch-weight c.args.store.now c.args.path.now c.args.value.now array c.in-Array.items.now h.items.now h.ensures.0 h.ensures.1 h.ensures.2 refl in
    omega arith

pub returns-in-Array-clause-searched : goal.returns-in-Array-clause-searched
returns-in-Array-clause-searched c =
    let h = c.in-Array in (
      c.requires,
      λ later k. branch_leaves c.args.store.now c.args.path.now c.args.seen.now later c.args.value.now array (trees_of h.items.now) h.ensures.0 h.ensures.1 h.ensures.2
          (subst (Searched c.args.store.now c.args.path.now c.args.seen.now later) (items_trees c.in-Array.items.now) k),
    )

pub returns-in-Array-clause-none : goal.returns-in-Array-clause-none
returns-in-Array-clause-none c = λ none.
    subst HaveNoHolders (sym (items_trees c.in-Array.items.now)) (subst HasNoHolder (c.in-Array.ensures.2) none)

pub returns-in-Function-clause-answer : goal.returns-in-Function-clause-answer
returns-in-Function-clause-answer c =
    let h = c.in-Function in
    ap (are_plain c.args.store.now c.args.path.now) (items_trees c.curry.result.now ∙ ap trees_of c.curry.ensures)
    ∙ sym (plain-branch c.args.store.now c.args.path.now c.args.value.now (function h.function.now.0) (trees_of h.function.now.1) h.ensures.0 h.ensures.1 h.ensures.2)

pub returns-in-Function-clause-left : goal.returns-in-Function-clause-left
returns-in-Function-clause-left c =
    let h = c.in-Function in
    let same = branch-weight c.args.store.now c.args.path.now c.args.value.now (function h.function.now.0) c.curry.result.now h.function.now.1 h.ensures.0 h.ensures.1 h.ensures.2 c.curry.ensures in
    omega arith

pub returns-in-Function-clause-searched : goal.returns-in-Function-clause-searched
returns-in-Function-clause-searched c =
    let h = c.in-Function in (
      c.requires,
      λ later k. branch_leaves c.args.store.now c.args.path.now c.args.seen.now later c.args.value.now (function h.function.now.0) (trees_of h.function.now.1) h.ensures.0 h.ensures.1 h.ensures.2
          (subst (Searched c.args.store.now c.args.path.now c.args.seen.now later) (items_trees c.curry.result.now ∙ ap trees_of c.curry.ensures) k),
    )

pub returns-in-Function-clause-none : goal.returns-in-Function-clause-none
returns-in-Function-clause-none c = λ none.
    subst HaveNoHolders (sym (items_trees c.curry.result.now ∙ ap trees_of c.curry.ensures)) (subst HasNoHolder (c.in-Function.ensures.2) none)

pub returns-in-Map-clause-answer : goal.returns-in-Map-clause-answer
returns-in-Map-clause-answer c =
    let h = c.in-Map in
    ap (are_plain c.args.store.now c.args.path.now) (rows_trees c.iter.result ∙ ap (λ rs. values_in (fields_of rs)) c.iter.ensures.entries)
    ∙ sym (plain-map c.args.store.now c.args.path.now c.args.value.now (fields_of h.map.now) h.ensures.0 h.ensures.1 h.ensures.2)

pub returns-in-Map-clause-left : goal.returns-in-Map-clause-left
returns-in-Map-clause-left c =
    let h = c.in-Map in
    let same = map-weight c.args.store.now c.args.path.now c.args.value.now h.map.now h.ensures.0 h.ensures.1 h.ensures.2 in
    let rows = ap (λ rs. rest_weight (weight c.args.store.now c.args.path.now) (rows_keyed rs)) c.iter.ensures.entries in
    omega arith

pub returns-in-Map-clause-searched : goal.returns-in-Map-clause-searched
returns-in-Map-clause-searched c =
    let h = c.in-Map in (
      c.requires,
      λ later k. map_leaves c.args.store.now c.args.path.now c.args.seen.now later c.args.value.now (fields_of h.map.now) h.ensures.0 h.ensures.1 h.ensures.2
          (subst (Searched c.args.store.now c.args.path.now c.args.seen.now later) (rows_trees c.iter.result ∙ ap (λ rs. values_in (fields_of rs)) c.iter.ensures.entries) k),
    )

pub returns-in-Map-clause-none : goal.returns-in-Map-clause-none
returns-in-Map-clause-none c = λ none.
    let h = c.in-Map in
    subst HaveNoHolders (sym (rows_trees c.iter.result ∙ ap (λ rs. values_in (fields_of rs)) c.iter.ensures.entries))
    (values_free (fields_of h.map.now) (fields_free c.args.value.now (fields_of h.map.now) h.ensures.0 h.ensures.1 h.ensures.2 none))

pub returns-in-Leaf-clause-answer : goal.returns-in-Leaf-clause-answer
returns-in-Leaf-clause-answer c =
    let h = c.in-Leaf.ensures in
    plain-leaf c.args.store.now c.args.path.now c.args.value.now (leaf_of c.in-Leaf.field-0) h.0 h.1 h.2
