-- Frames of a copy that are opened, and filled.
use Rattle.std.proofs.Common.{◌≡◌, ℕ, Less, List, [], ◌∷◌, ◌++◌, map, refl, ap, sym, subst, ◌∙◌, append_assoc}
use Rattle.std.proofs.lemmas.Cmp.{nat_list_cmp_total}
use Rattle.std.specs.List.{AllByRecursion}
use Rattle.std.specs.List.Sorted.{IsStrictlySortedBy}
use Rattle.std.specs.Map.{keys_of}
use Rattle.std.specs.Ordering.{ordering_reverse}
use Rattle.rhai_value.specs.Levels.{rows_in_turn}
use Rattle.rhai_value.specs.Rows.{Rows, bytes_cmp, AreRising, trees_of, fields_of, copied_rows}
use Rattle.rhai_value.specs.Tree.{Tree, copy_by, copy_trees_by, copy_fields_by}
use Rattle.rhai_value.specs.declared.value.access_mode.AccessMode.{AccessMode}
use Rattle.rhai_value.proofs.Copies.{IsAbove, insert_last, copied_trees, copied_fields}

append_nil : {A : Type 0} (xs : List A) → xs ++ [] ≡ xs
append_nil [] = refl
append_nil (x ∷ xs) = ap (λ l. x ∷ l) (append_nil xs)

pub opened_items : (f : AccessMode → AccessMode) (ts : List Tree) → trees_of (map (copy_by f) ts) ≡ copy_trees_by f (trees_of ts)
opened_items = copied_trees

keys_more : (rs : Rows) (k : List ℕ) (t u : Tree) (more : Rows) → keys_of ((rs ++ (k, u) ∷ []) ++ more) ≡ keys_of (rs ++ (k, t) ∷ more)
keys_more [] k t u more = refl
keys_more (r ∷ rs) k t u more = ap (λ l. r.0 ∷ l) (keys_more rs k t u more)

above : (rs : Rows) (k : List ℕ) (t : Tree) (more : Rows) → IsStrictlySortedBy bytes_cmp (keys_of (rs ++ (k, t) ∷ more)) → IsAbove k rs
unfolding IsStrictlySortedBy
above [] k t more sorted = tt
above (r ∷ rs) k t more sorted = (nat_list_cmp_total.antisymm k r.0 ∙ ap ordering_reverse (below r.0 rs sorted.0), above rs k t more sorted.1)
  where
    below : (first : List ℕ) (rs : Rows) → AllByRecursion (λ y. bytes_cmp first y ≡ Less) (keys_of (rs ++ (k, t) ∷ more)) → bytes_cmp first k ≡ Less
    below first [] h = h.0
    below first (r ∷ rs) h = below first rs h.1

-- rows with ascending keys are inserted at the end
rows_turned : (f : AccessMode → AccessMode) (done rs : Rows) → IsStrictlySortedBy bytes_cmp (keys_of (done ++ rs)) → rows_in_turn f done rs ≡ done ++ copied_rows f rs
rows_turned f done [] sorted = sym (append_nil done)
rows_turned f done (r ∷ rs) sorted =
    let last = insert_last done r.0 (copy_by f r.1) (above done r.0 r.1 rs sorted) in
    let next : IsStrictlySortedBy bytes_cmp (keys_of ((done ++ (r.0, copy_by f r.1) ∷ []) ++ rs)) = subst (IsStrictlySortedBy bytes_cmp) (sym (keys_more done r.0 r.1 (copy_by f r.1) rs)) sorted in
    rw last (rows_turned f (done ++ (r.0, copy_by f r.1) ∷ []) rs next ∙ append_assoc done ((r.0, copy_by f r.1) ∷ []) (copied_rows f rs))

pub opened_rows : (f : AccessMode → AccessMode) (rs : Rows) → AreRising rs → fields_of (rows_in_turn f [] rs) ≡ copy_fields_by f (fields_of rs)
opened_rows f rs rising = ap fields_of (rows_turned f [] rs rising) ∙ copied_fields f rs
