use Rattle.std.proofs.Common.{◌≡◌, ◌+◌, ◌≤◌, ◌++◌, true, false, [], ◌∷◌, drop, map, reverse, is_some, refl, sym, ap, ap₂, ◌∙◌, subst, subst₂, arith, add-one}
use Rattle.std.proofs.Math.Seq.{drop-cons}
use Rattle.std.specs.Map.Iter.{deref_pair}
use Rattle.std.proofs.lemmas.Map.Iter.{rest_more}
use Rattle.rhai_value.specs.Rows.{trees_of, fields_of}
use Rattle.rhai_value.specs.Tree.{tree_then, no_trees, array, function}
use Rattle.rhai_show.specs.Shape.{leaf_of}
use Rattle.rhai_show.specs.Plain.{plain}
use Rattle.rhai_show.specs.Clean.{are_plain, values_in, HasNoHolder, Searched}
use Rattle.rhai_show.proofs.Weights.{branch-weight, map-weight, weight_item}
use Rattle.rhai_show.specs.Rests.{rows_keyed, child_of, rest_of, is_held, rest_weight, level_of}
use Rattle.rhai_show.specs.Weights.{weight}
use Rattle.rhai_show.proofs.CleanRests.{Searching, clean_on, clean_down, clean_up}
use Rattle.rhai_show.proofs.NoHolders.{item_free, fields_free, first_free}
use Rattle.rhai_show.proofs.Plains.{plain-leaf, plain-branch, plain-map}
use Rattle.rhai_show.proofs.Rests.{reversed}
use Rattle.rhai_show.proofs.Searches.{so_far_turns, answered, map_leaves, searched_by}
use Rattle.rhai_show.proofs.hashable.+search.Goals as goal

pub are_clean-is_clean-requires : goal.are_clean-is_clean-requires
are_clean-is_clean-requires t c =
    let few = weight_item (weight c.args.store.now c.args.path.now) c.args.items.now c.loop-item.item-index c.item-item.result (omega arith) c.item-item.is in
    let same = ap (λ p. weight c.args.store.now p c.item-item.result) c.loop-item.invariant.path in
    (omega arith, rw c.loop-item.invariant.path c.loop-item.invariant.so_far.clean)

pub are_clean-loop-item-preserved : goal.are_clean-loop-item-preserved
are_clean-loop-item-preserved t c =
    let i = c.loop-item.invariant in
    let xs = c.args.items.now in
    let n = c.loop-item.item-index in
    let next : drop n xs ≡ c.item-item.result ∷ drop (n + 1) xs = drop-cons xs n c.item-item.result (omega arith) ∙ ap₂ (λ y k. y ∷ drop k xs) (sym c.item-item.is) (sym (add-one n)) in
    let e = c.in_ok-is_clean.ensures in
    let yes : true ≡ is_some (plain c.args.store.now c.args.path.now c.item-item.result) = sym c.if-not-branch.false ∙ e.answer ∙ ap (λ p. is_some (plain c.args.store.now p c.item-item.result)) i.path in
    let one = rw i.path at (e.searched c.if-not-branch.false) in
    record {
      path = e.path ∙ i.path;
      so_far = so_far_turns c.args.store.now c.args.path.now c.args.seen.now c.loop-item.seen c.item-item.result (trees_of (drop n xs)) (trees_of (drop (n + 1) xs)) (trees_of xs) (ap trees_of next) i.so_far c.is_clean.new.seen yes one;
    }

pub is_map_clean-loop-value-preserved : goal.is_map_clean-loop-value-preserved
is_map_clean-loop-value-preserved t c =
    let i = c.loop-value.invariant in
    let next = rest_more deref_pair c.loop-value.value-iterator c.next.new.self c.next.result (c.in-Some.field-0-0, c.in-Some.value) c.in-Some.is c.next.ensures.steps in
    let few = ap (λ rs. rest_weight (weight c.args.store.now c.args.path.now) (rows_keyed rs)) next in
    let e = c.in_ok-is_clean.ensures in
    let yes : true ≡ is_some (plain c.args.store.now c.args.path.now c.in-Some.value.now) = sym c.if-not-branch.false ∙ e.answer ∙ ap (λ p. is_some (plain c.args.store.now p c.in-Some.value.now)) i.path in
    let one = rw i.path at (e.searched c.if-not-branch.false) in
    record {
      path = e.path ∙ i.path;
      so_far = so_far_turns c.args.store.now c.args.path.now c.args.seen.now c.loop-value.seen c.in-Some.value.now (values_in (fields_of c.loop-value.value-iterator)) (values_in (fields_of c.next.new.self)) (values_in (fields_of c.args.map.now)) (ap (λ rs. values_in (fields_of rs)) next) i.so_far c.is_clean.new.seen yes one;
      left = omega arith;
      free_left = λ h. (first_free _ _ _ _ (ap fields_of next) (i.free_left h)).1;
    }

pub is_map_clean-is_clean-requires : goal.is_map_clean-is_clean-requires
is_map_clean-is_clean-requires t c =
    let i = c.loop-value.invariant in
    let next = rest_more deref_pair c.loop-value.value-iterator c.next.new.self c.next.result (c.in-Some.field-0-0, c.in-Some.value) c.in-Some.is c.next.ensures.steps in
    let few = ap (λ rs. rest_weight (weight c.args.store.now c.args.path.now) (rows_keyed rs)) next in
    let same = ap (λ p. weight c.args.store.now p c.in-Some.value.now) i.path in
    (omega arith, rw i.path i.so_far.clean)

pub is_clean-returns-else-levels-eq0-clause-answer : goal.is_clean-returns-else-levels-eq0-clause-answer
is_clean-returns-else-levels-eq0-clause-answer t c =
    let h = c.in-Array in
    let e = plain-branch c.args.store.now c.args.path.now c.args.value.now array (trees_of h.items.now) h.ensures.0 h.ensures.1 h.ensures.2 in
    answered c.are_clean.result _ _ e c.are_clean.ensures.answer

pub is_clean-returns-else-levels-eq0-2-clause-answer : goal.is_clean-returns-else-levels-eq0-2-clause-answer
is_clean-returns-else-levels-eq0-2-clause-answer t c =
    let h = c.in-Map in
    let e = plain-map c.args.store.now c.args.path.now c.args.value.now (fields_of h.map.now) h.ensures.0 h.ensures.1 h.ensures.2 in
    answered c.is_map_clean.result _ _ e c.is_map_clean.ensures.answer

pub is_clean-returns-else-levels-eq0-3-clause-answer : goal.is_clean-returns-else-levels-eq0-3-clause-answer
is_clean-returns-else-levels-eq0-3-clause-answer t c =
    let h = c.in-Function in
    let e = plain-branch c.args.store.now c.args.path.now c.args.value.now (function h.function.now.0) (trees_of h.function.now.1) h.ensures.0 h.ensures.1 h.ensures.2 in
    let same = ap (λ xs. are_plain c.args.store.now c.args.path.now (trees_of xs)) (sym c.curry.ensures) in
    answered c.are_clean-in-Function.result _ _ (e ∙ same) c.are_clean-in-Function.ensures.answer

pub is_clean-returns-else-levels-eq0-2-clause-searched : goal.is_clean-returns-else-levels-eq0-2-clause-searched
is_clean-returns-else-levels-eq0-2-clause-searched t c =
    let h = c.in-Map in
    searched_by c.is_map_clean.result _ _ (map_leaves c.args.store.now c.args.path.now c.args.seen.now c.is_map_clean.new.seen c.args.value.now (fields_of h.map.now) h.ensures.0 h.ensures.1 h.ensures.2) c.is_map_clean.ensures.searched

-- nothing is allocated if the value contains no holder
pub are_clean-returns-in_err-is_clean-clause-free : goal.are_clean-returns-in_err-is_clean-clause-free
are_clean-returns-in_err-is_clean-clause-free t c = λ h.
    let no : false ≡ true = c.in_err-is_clean.ensures.free (item_free c.args.items.now c.loop-item.item-index c.item-item.result (omega arith) c.item-item.is h) in cc

pub is_clean-returns-else-levels-eq0-2-clause-free : goal.is_clean-returns-else-levels-eq0-2-clause-free
is_clean-returns-else-levels-eq0-2-clause-free t c = λ h.
    c.is_map_clean.ensures.free (fields_free c.args.value.now (fields_of c.in-Map.map.now) c.in-Map.ensures.0 c.in-Map.ensures.1 c.in-Map.ensures.2 h)

pub is_map_clean-returns-in_err-is_clean-clause-free : goal.is_map_clean-returns-in_err-is_clean-clause-free
is_map_clean-returns-in_err-is_clean-clause-free t c = λ h.
    let next = rest_more deref_pair c.loop-value.value-iterator c.next.new.self c.next.result (c.in-Some.field-0-0, c.in-Some.value) c.in-Some.is c.next.ensures.steps in
    let no : false ≡ true = c.in_err-is_clean.ensures.free (first_free _ _ _ _ (ap fields_of next) (c.loop-value.invariant.free_left h)).0 in cc

pub is_clean-is_held_clean-requires : goal.is_clean-is_held_clean-requires
is_clean-is_held_clean-requires t c =
    (omega arith, (c.requires, c.in-Holder.ensures))

pub is_clean-are_clean-requires : goal.is_clean-are_clean-requires
is_clean-are_clean-requires t c =
    let h = c.in-Array in
    let less = branch-weight c.args.store.now c.args.path.now c.args.value.now array c.in-Array.items.now h.items.now h.ensures.0 h.ensures.1 h.ensures.2 refl in
    (omega arith, c.requires)

pub is_clean-are_clean-requires-in-Function : goal.is_clean-are_clean-requires-in-Function
is_clean-are_clean-requires-in-Function t c =
    let h = c.in-Function in
    let less = branch-weight c.args.store.now c.args.path.now c.args.value.now (function h.function.now.0) c.curry.result.now h.function.now.1 h.ensures.0 h.ensures.1 h.ensures.2 c.curry.ensures in
    (omega arith, c.requires)

pub is_clean-is_map_clean-requires : goal.is_clean-is_map_clean-requires
is_clean-is_map_clean-requires t c =
    let h = c.in-Map in
    let less = map-weight c.args.store.now c.args.path.now c.args.value.now h.map.now h.ensures.0 h.ensures.1 h.ensures.2 in
    (omega arith, c.requires)

-- the rest of each level is on a work list
pub is_far_clean-loop-child-preserved-else-not-is_plain : goal.is_far_clean-loop-child-preserved-else-not-is_plain
is_far_clean-loop-child-preserved-else-not-is_plain t c =
    let s = c.args.store.now in
    let l = c.loop-child in
    let n = c.in-Some.ensures in
    let rest = c.next.new.self in
    let others = map level_of (reverse l.frames.items) in
    let top = subst (λ x. Searching s c.args.value.now c.args.path.now c.args.seen.now l.path l.seen (x ∷ others)) (ap₂ (λ b cs. (b, cs)) (sym n.held) n.next) l.invariant in
    let same = c.value-inner.ensures in
    let answer = rw c.in-Ok-2.is at c.in_ok-is_plain-in-Some.ensures.answer in
    let path = rw c.in-Ok-2.is at c.in_ok-is_plain-in-Some.ensures.path in
    let searched = rw c.in-Ok-2.is at c.in_ok-is_plain-in-Some.ensures.searched in
    clean_on s c.args.value.now c.args.path.now c.args.seen.now l.path l.seen (is_held rest) (child_of c.in-Some.child) (rest_of rest) others top c.opened-in-Some.new.path c.opened-in-Some.new.seen path
    (sym c.if-not-is_plain.false ∙ answer ∙ ap (λ x. is_some (plain s l.path x)) same)
    (subst (λ x. Searched s l.path l.seen c.opened-in-Some.new.seen (tree_then x no_trees)) same (searched c.if-not-is_plain.false))

pub is_far_clean-loop-child-preserved-then-is_ok : goal.is_far_clean-loop-child-preserved-then-is_ok
is_far_clean-loop-child-preserved-then-is_ok t c =
    let s = c.args.store.now in
    let l = c.loop-child in
    let n = c.in-Some.ensures in
    let rest = c.next.new.self in
    let others = map level_of (reverse l.frames.items) in
    let top = subst (λ x. Searching s c.args.value.now c.args.path.now c.args.seen.now l.path l.seen (x ∷ others)) (ap₂ (λ b cs. (b, cs)) (sym n.held) n.next) l.invariant in
    let same = c.value-inner.ensures in
    let inside = c.in-Err-2.rest in
    let answer = rw c.in-Err-2.is at c.in_ok-is_plain-in-Some.ensures.answer in
    let path = rw c.in-Err-2.is at c.in_ok-is_plain-in-Some.ensures.path in
    let left = rw c.in-Err-2.is at c.in_ok-is_plain-in-Some.ensures.left in
    let searched = rw c.in-Err-2.is at c.in_ok-is_plain-in-Some.ensures.searched in
    let none = rw c.in-Err-2.is at c.in_ok-is_plain-in-Some.ensures.none in
    let pushed : c.push_reserved.new.self.items ≡ l.frames.items ++ rest ∷ [] = cc (c.push_reserved.ensures.items, c.reserve.ensures.items, c.replace.ensures.value) in
    subst (λ x. Searching s c.args.value.now c.args.path.now c.args.seen.now c.opened-in-Some.new.path c.opened-in-Some.new.seen x)
    (sym (ap₂ (λ r fs. level_of r ∷ map level_of fs) c.replace.ensures.after (reversed l.frames.items c.push_reserved.new.self.items rest pushed)))
    (clean_down s c.args.value.now c.args.path.now c.args.seen.now l.path l.seen (is_held rest) (child_of c.in-Some.child) (rest_of rest) others top c.opened-in-Some.new.path c.opened-in-Some.new.seen (is_held inside) (rest_of inside)
    path.0 path.1 (subst (λ x. rest_weight (weight s c.opened-in-Some.new.path) (rest_of inside) ≤ weight s l.path x) same left) searched.0 (answer ∙ ap (λ x. is_some (plain s l.path x)) same)
    (λ end k. subst (λ x. Searched s l.path l.seen end (tree_then x no_trees)) same (searched.1 end k)) (λ free. none (subst HasNoHolder (sym same) free)))

pub is_far_clean-loop-child-preserved-else-not-branch : goal.is_far_clean-loop-child-preserved-else-not-branch
is_far_clean-loop-child-preserved-else-not-branch t c =
    let s = c.args.store.now in
    let l = c.loop-child in
    let n = c.in-Some.ensures in
    let rest = c.next.new.self in
    let others = map level_of (reverse l.frames.items) in
    let top = subst (λ x. Searching s c.args.value.now c.args.path.now c.args.seen.now l.path l.seen (x ∷ others)) (ap₂ (λ b cs. (b, cs)) (sym n.held) n.next) l.invariant in
    let same = c.value-inner.ensures in
    let path = c.close.ensures ∙ (rw c.in-Err-2.is at c.in_ok-is_plain-in-Some.ensures.path).0 in
    let seen = c.close-else-is_ok.ensures ∙ (rw c.in-Err-2.is at c.in_ok-is_plain-in-Some.ensures.seen).0 in
    let e = c.in_ok-is_clean-in-Err-2.ensures in
    subst (λ fs. Searching s c.args.value.now c.args.path.now c.args.seen.now c.is_clean.new.path c.is_clean.new.seen (level_of rest ∷ map level_of (reverse fs))) (sym c.reserve.ensures.items)
    (clean_on s c.args.value.now c.args.path.now c.args.seen.now l.path l.seen (is_held rest) (child_of c.in-Some.child) (rest_of rest) others top c.is_clean.new.path c.is_clean.new.seen (e.path ∙ path)
    (sym c.if-not-branch.false ∙ e.answer ∙ ap₂ (λ p x. is_some (plain s p x)) path same)
    (subst (λ x. Searched s l.path l.seen c.is_clean.new.seen (tree_then x no_trees)) same
    (subst₂ (λ p q. Searched s p q c.is_clean.new.seen (tree_then c.value-inner.result.now no_trees)) path seen (e.searched c.if-not-branch.false))))

pub is_far_clean-loop-child-preserved : goal.is_far_clean-loop-child-preserved
is_far_clean-loop-child-preserved t c =
    let s = c.args.store.now in
    let l = c.loop-child in
    let n = c.in-None.ensures in
    let rest = c.next.new.self in
    let others = map level_of (reverse l.frames.items) in
    let top = subst (λ x. Searching s c.args.value.now c.args.path.now c.args.seen.now l.path l.seen (x ∷ others)) (ap₂ (λ b cs. (b, cs)) (sym n.held) n.next.0) l.invariant in
    subst (λ fs. Searching s c.args.value.now c.args.path.now c.args.seen.now c.close-in-None.new.path l.seen (map level_of fs)) (reversed c.pop.new.self.items l.frames.items c.in-Some-pop.up c.in-Some-pop.ensures.items)
    (clean_up s c.args.value.now c.args.path.now c.args.seen.now l.path c.close-in-None.new.path l.seen (is_held rest) others top c.close-in-None.ensures)

pub is_clean-returns-in-Leaf-clause-answer : goal.is_clean-returns-in-Leaf-clause-answer
is_clean-returns-in-Leaf-clause-answer t c =
    let h = c.in-Leaf.ensures in
    plain-leaf c.args.store.now c.args.path.now c.args.value.now (leaf_of c.in-Leaf.field-0) h.0 h.1 h.2
