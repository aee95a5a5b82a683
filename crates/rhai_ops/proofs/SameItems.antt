-- Items of arrays that are equal up to a renaming of cells.
use Rattle.std.proofs.Common.{◌≡◌, suc, Bool, true, false, List, [], Option, Some, None, option_map, if◌then◌else◌, refl, ap}
use Rattle.std.specs.Option.{option_or}
use Rattle.rhai_text.specs.declared.error.SizeKind.TheVariants as size
use Rattle.rhai_text.specs.declared.limits.Limits.{Limits}
use Rattle.rhai_value.specs.declared.cells.store.Cell.{Cell}
use Rattle.rhai_value.specs.Tree.{Tree, Trees, no_trees, tree_then, node, leaf, branch, fields, holder, array, function, made, copy_trees}
use Rattle.rhai_value.specs.Parts.{array_of}
use Rattle.rhai_value.specs.End.{End, end, held, stuck, closed, held_part, array_moved}
use Rattle.rhai_value.specs.Relation.{Renaming, Related, AllRelated, Alike, IsOneToOne, RelatedCells, RelatedEnds}
use Rattle.rhai_value.proofs.ForCallers.{same_copy, same_end}
use Rattle.rhai_ops.specs.Outcome.{Outcome, answers, too_large, both, is_allowed, RelatedOutcomes}
use Rattle.rhai_ops.specs.Results.{part, count, then_items, limited_array, pushed, joined_items}

-- functions of both held parts, if these are alike
pub both_alike : {A B C D : Type 0} (r : Renaming) (R : A → C → Type 0) (S : B → D → Type 0) (f : A → B → Outcome) (g : C → D → Outcome)
    → ((a : A) (b : B) (c : C) (d : D) → R a c → S b d → RelatedOutcomes r (f a b) (g c d))
    → (o : Option A) (p : Option B) (q : Option C) (w : Option D) → Alike R o q → Alike S p w → RelatedOutcomes r (both f o p) (both g q w)
both_alike r R S f g same (Some a) (Some b) (Some c) (Some d) h k = same a b c d h k
both_alike r R S f g same (Some a) None (Some c) None h k = tt
both_alike r R S f g same None p None q h k = tt
both_alike r R S f g same (Some a) p None q h k = absurd h
both_alike r R S f g same None p (Some c) q h k = absurd h
both_alike r R S f g same (Some a) (Some b) (Some c) None h k = absurd k
both_alike r R S f g same (Some a) None (Some c) (Some d) h k = absurd k

own_items : (r : Renaming) (t u : Tree) → Related r t u → Alike (AllRelated r) (array_of t) (array_of u)
own_items r (node (branch array ts) g m) (node (branch array us) k n) h = h.0.1
own_items r (node (branch (function f) ts) g m) (node (branch (function j) us) k n) h = tt
own_items r (node (branch array ts) g m) (node (branch (function j) us) k n) h = let e = h.0.0 in cc
own_items r (node (branch (function f) ts) g m) (node (branch array us) k n) h = let e = h.0.0 in cc
own_items r (node (leaf l) g m) (node (leaf j) k n) h = tt
own_items r (node (fields fs) g m) (node (fields hs) k n) h = tt
own_items r (node (holder c) g m) (node (holder d) k n) h = tt
own_items r _ _ h = absurd h.0

end_items : (r : Renaming) (e f : End) → RelatedEnds r e f → Alike (AllRelated r) (held_part array_of e) (held_part array_of f)
end_items r (held p t) (held q u) h = own_items r t u h.1
end_items r (stuck t) (stuck u) h = tt
end_items r closed closed h = tt
end_items r _ _ h = absurd h

copied_items : (r : Renaming) (ts us : Trees) → AllRelated r ts us → AllRelated r (copy_trees ts) (copy_trees us)
copied_items r no_trees no_trees h = tt
copied_items r (tree_then t ts) (tree_then u us) h = (same_copy r t u h.0, copied_items r ts us h.1)
copied_items r no_trees (tree_then u us) h = absurd h
copied_items r (tree_then t ts) no_trees h = absurd h

copied_alike : (r : Renaming) (o p : Option Trees) → Alike (AllRelated r) o p → Alike (AllRelated r) (option_map copy_trees o) (option_map copy_trees p)
copied_alike r (Some ts) (Some us) h = copied_items r ts us h
copied_alike r None None h = tt
copied_alike r (Some ts) None h = absurd h
copied_alike r None (Some us) h = absurd h

or_alike : (r : Renaming) (o p q w : Option Trees) → Alike (AllRelated r) o q → Alike (AllRelated r) p w → Alike (AllRelated r) (option_or o p) (option_or q w)
or_alike r (Some ts) p (Some us) w h k = h
or_alike r None p None w h k = k
or_alike r (Some ts) p None w h k = absurd h
or_alike r None p (Some us) w h k = absurd h

then_related : (r : Renaming) (ts us vs ws : Trees) → AllRelated r ts vs → AllRelated r us ws → AllRelated r (then_items ts us) (then_items vs ws)
then_related r no_trees us no_trees ws h k = k
then_related r (tree_then t ts) us (tree_then v vs) ws h k = (h.0, then_related r ts us vs ws h.1 k)
then_related r no_trees us (tree_then v vs) ws h k = absurd h
then_related r (tree_then t ts) us no_trees ws h k = absurd h

same_count : (r : Renaming) (ts us : Trees) → AllRelated r ts us → count ts ≡ count us
same_count r no_trees no_trees h = refl
same_count r (tree_then t ts) (tree_then u us) h = ap suc (same_count r ts us h.1)
same_count r no_trees (tree_then u us) h = absurd h
same_count r (tree_then t ts) no_trees h = absurd h

array_if : (r : Renaming) (b : Bool) (ts us : Trees) → AllRelated r ts us → RelatedOutcomes r (if b then answers (made (branch array ts)) else too_large size.Items) (if b then answers (made (branch array us)) else too_large size.Items)
array_if r true ts us h = ((refl, h), refl, refl)
array_if r false ts us h = refl

limited_related : (r : Renaming) (l : Limits) (ts us : Trees) → AllRelated r ts us → RelatedOutcomes r (limited_array l ts) (limited_array l us)
limited_related r l ts us h = rw (same_count r ts us h) (array_if r (is_allowed l.items (count us)) ts us h)

pub pushed_related : (r : Renaming) (l : Limits) (ts : Trees) (t : Tree) (us : Trees) (u : Tree) → AllRelated r ts us → Related r t u → RelatedOutcomes r (pushed l ts t) (pushed l us u)
pushed_related r l ts t us u h k = limited_related r l (then_items ts (tree_then t no_trees)) (then_items us (tree_then u no_trees)) (then_related r ts (tree_then t no_trees) us (tree_then u no_trees) h (k, tt))

limited_if : (r : Renaming) (l : Limits) (b : Bool) (ts us : Trees) → AllRelated r ts us → RelatedOutcomes r (if b then answers (made (branch array ts)) else limited_array l ts) (if b then answers (made (branch array us)) else limited_array l us)
limited_if r l true ts us h = ((refl, h), refl, refl)
limited_if r l false ts us h = limited_related r l ts us h

pub joined_related : (r : Renaming) (l : Limits) (ts us vs ws : Trees) → AllRelated r ts vs → AllRelated r us ws → RelatedOutcomes r (joined_items l ts us) (joined_items l vs ws)
joined_related r l ts us vs ws h k = rw (same_count r ts vs h, same_count r us ws k) (limited_if r l _ (then_items ts us) (then_items vs ws) (then_related r ts us vs ws h k))

module _ (r : Renaming) (s z : List Cell) (one : IsOneToOne r) (cells : RelatedCells r s z) (t u : Tree) (h : Related r t u) where
  pub same_items : Alike (AllRelated r) (part array_of s t) (part array_of z u)
  same_items = end_items r (end s [] t) (end z [] u) (same_end r s z t u one cells h)

  pub same_moved : Alike (AllRelated r) (array_moved s t) (array_moved z u)
  same_moved = or_alike r (array_of t) _ (array_of u) _ (own_items r t u h) (copied_alike r (part array_of s t) (part array_of z u) same_items)
