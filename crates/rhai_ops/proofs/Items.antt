-- Items appended to items.
use Rattle.std.proofs.Common.{◌≡◌, ◌+◌, suc, Bool, true, false, if◌then◌else◌, arith, List, [], ◌∷◌, ◌++◌, length, length-append, nat_eq, ◌||◌, refl, sym, ap, ap₂, ◌∙◌}
use Rattle.rhai_text.specs.declared.error.SizeKind.TheVariants as size
use Rattle.rhai_text.specs.declared.limits.Limits.{Limits}
use Rattle.rhai_value.specs.Tree.{Tree, Trees, no_trees, tree_then, branch, array, made, copy_trees}
use Rattle.rhai_value.specs.Rows.{trees_of}
use Rattle.rhai_ops.specs.Outcome.{Outcome, answers, too_large, is_allowed, is_answer}
use Rattle.rhai_ops.specs.Results.{count, then_items, joined_items}

pub items_behind : (ts us : List Tree) → trees_of (ts ++ us) ≡ then_items (trees_of ts) (trees_of us)
items_behind [] us = refl
items_behind (t ∷ ts) us = ap (tree_then t) (items_behind ts us)

pub item_behind : (ts : List Tree) (u : Tree) → trees_of (ts ++ (u ∷ [])) ≡ then_items (trees_of ts) (tree_then u no_trees)
item_behind ts u = items_behind ts (u ∷ [])

count_is_length : (ts : List Tree) → count (trees_of ts) ≡ length ts
count_is_length [] = refl
count_is_length (t ∷ ts) = ap suc (count_is_length ts)

pub count_behind : (ts us : List Tree) → count (then_items (trees_of ts) (trees_of us)) ≡ length ts + length us
count_behind ts us = ap count (sym (items_behind ts us)) ∙ count_is_length (ts ++ us) ∙ length-append ts us

pub count_one_behind : (ts : List Tree) (u : Tree) → count (then_items (trees_of ts) (tree_then u no_trees)) ≡ length ts + 1
count_one_behind ts u = count_behind ts (u ∷ [])

-- copies have the same number
count_copied : (us : Trees) → count (copy_trees us) ≡ count us
count_copied no_trees = refl
count_copied (tree_then u us) = ap suc (count_copied us)

count_then : (ts us : Trees) → count (then_items ts us) ≡ count ts + count us
count_then no_trees us = omega arith
count_then (tree_then t ts) us = let h = count_then ts us in omega (arith, h)

same_count : (ts us : Trees) → count (then_items ts (copy_trees us)) ≡ count (then_items ts us)
same_count ts us = count_then ts (copy_trees us) ∙ ap (λ n. count ts + n) (count_copied us) ∙ sym (count_then ts us)

answer_if : (b : Bool) (t : Tree) → is_answer (if b then answers t else too_large size.Items) ≡ b
answer_if true t = refl
answer_if false t = refl

refused_if : (b : Bool) (t : Tree) → (if b then answers t else too_large size.Items) ≡ too_large size.Items → b ≡ false
refused_if true t e = cc
refused_if false t e = refl

-- whether these items may be appended; always if there are none
abbrev may : Limits → Trees → Trees → Bool
may l ts us = (nat_eq (count ts) 0 || nat_eq (count us) 0) || is_allowed l.items (count (then_items ts us))

either_way : (p q : Bool) (o r : Outcome) → (if p then o else (if q then o else r)) ≡ (if p || q then o else r)
either_way true q o r = refl
either_way false q o r = refl

joined_if : (l : Limits) (ts us : Trees) → joined_items l ts us ≡ (if may l ts us then answers (made (branch array (then_items ts us))) else too_large size.Items)
joined_if l ts us = either_way (nat_eq (count ts) 0 || nat_eq (count us) 0) (is_allowed l.items (count (then_items ts us))) _ _

pub may_join : (l : Limits) (ts us : List Tree) (b : Bool) → b ≡ ((nat_eq (length ts) 0 || nat_eq (length us) 0) || is_allowed l.items (length ts + length us))
    → joined_items l (trees_of ts) (trees_of us) ≡ (if b then answers (made (branch array (trees_of (ts ++ us)))) else too_large size.Items)
may_join l ts us b e =
    joined_if l (trees_of ts) (trees_of us) ∙ rw (e, count_is_length ts, count_is_length us, count_behind ts us, items_behind ts us) refl

may_copied : (l : Limits) (ts us : Trees) → may l ts (copy_trees us) ≡ may l ts us
may_copied l ts us = ap₂ (λ m n. (nat_eq (count ts) 0 || nat_eq m 0) || is_allowed l.items n) (count_copied us) (same_count ts us)

pub copied_answer : (l : Limits) (ts us : Trees) → is_answer (joined_items l ts (copy_trees us)) ≡ is_answer (joined_items l ts us)
copied_answer l ts us =
    ap is_answer (joined_if l ts (copy_trees us)) ∙ answer_if _ _ ∙ may_copied l ts us ∙ sym (answer_if _ _) ∙ sym (ap is_answer (joined_if l ts us))

pub copied_refused : (l : Limits) (ts us : Trees) → joined_items l ts us ≡ too_large size.Items → joined_items l ts (copy_trees us) ≡ too_large size.Items
copied_refused l ts us e =
    let b : may l ts (copy_trees us) ≡ false = may_copied l ts us ∙ refused_if _ _ (sym (joined_if l ts us) ∙ e) in
    joined_if l ts (copy_trees us) ∙ rw b refl
