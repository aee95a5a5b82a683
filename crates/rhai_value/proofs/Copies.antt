-- Copies of lists of values and of rows.
use Rattle.std.proofs.Common.{◌≡◌, ℕ, List, [], ◌∷◌, ◌++◌, map, Greater, refl, ap, ap₂}
use Rattle.std.specs.BTreeMap.{insert_entry}
use Rattle.rhai_value.specs.Rows.{copied_rows, Rows, bytes_cmp, trees_of, fields_of}
use Rattle.rhai_value.specs.Tree.{Tree, node, branch, fields, tree_then, field_then, copy_by, copy_trees_by, copy_fields_by}
use Rattle.rhai_value.specs.declared.value.access_mode.AccessMode.{AccessMode}
use Rattle.rhai_value.proofs.Trees.{by_value}

pub copied_trees : (f : AccessMode → AccessMode) (ts : List Tree) → trees_of (map (copy_by f) ts) ≡ copy_trees_by f (trees_of ts)
copied_trees f [] = refl
copied_trees f (t ∷ ts) = ap (tree_then (copy_by f t)) (copied_trees f ts)

pub copied_fields : (f : AccessMode → AccessMode) (rs : Rows) → fields_of (copied_rows f rs) ≡ copy_fields_by f (fields_of rs)
copied_fields f [] = refl
copied_fields f (r ∷ rs) = rw (copied_fields f rs) refl

-- a copy that leaves the modes as they are is the value
pub unchanged : (t : Tree) → copy_by (λ m. m) t ≡ t
unchanged = by_value (λ t. copy_by (λ m. m) t ≡ t) (λ ts. copy_trees_by (λ m. m) ts ≡ ts) (λ fs. copy_fields_by (λ m. m) fs ≡ fs)
    (λ l g m. refl) (λ k ts g m h. ap (λ us. node (branch k us) g m) h) (λ fs g m h. ap (λ hs. node (fields hs) g m) h) (λ c g m. refl) refl (λ t ts p q. ap₂ tree_then p q) refl (λ k t fs p q. ap₂ (field_then k) p q)

pub all_unchanged : (ts : List Tree) → map (copy_by (λ m. m)) ts ≡ ts
all_unchanged [] = refl
all_unchanged (t ∷ ts) = ap₂ ◌∷◌ (unchanged t) (all_unchanged ts)

-- a key above all others
abbrev pub IsAbove : List ℕ → Rows → Type 0
IsAbove k [] = Unit {0}
IsAbove k (r ∷ rs) = (bytes_cmp k r.0 ≡ Greater) × IsAbove k rs

pub insert_last : (rs : Rows) (k : List ℕ) (v : Tree) → IsAbove k rs → insert_entry bytes_cmp rs k v ≡ rs ++ (k, v) ∷ []
insert_last [] k v h = refl
insert_last (r ∷ rs) k v h = rw h.0 (ap (λ l. r ∷ l) (insert_last rs k v h.1))
