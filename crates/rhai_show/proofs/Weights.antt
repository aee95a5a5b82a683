-- The work for a value, by its parts.
use Rattle.std.proofs.Common.{◌≡◌, ℕ, ℤ, zero, suc, ◌+◌, ◌<◌, ◌≤◌, length, get_or, List, [], ◌∷◌, Some, IfSome, sym, ap, ap₂, ◌∙◌, subst, arith, refl}
use Rattle.rhai_value.specs.declared.value.access_mode.AccessMode.{AccessMode}
use Rattle.rhai_value.specs.declared.cells.store.Cell.{Cell}
use Rattle.rhai_value.specs.Rows.{Rows, trees_of, fields_of}
use Rattle.rhai_value.specs.Tree.{Tree, node, Kind, branch, fields, holder, cell_of}
use Rattle.rhai_value.specs.Walk.{Visit, entered, barred, revisited, visit, visit_map, opened, entry}
use Rattle.rhai_value.proofs.ForCallers.{walk_opens}
use Rattle.rhai_show.specs.Rests.{items_keyed, rows_keyed, rest_weight}
use Rattle.rhai_show.specs.Weights.{held_weight, weight_of, all_weight, fields_weight, weight}

-- the result for the cell of each holder
abbrev pub weight_within : List Cell → List ℕ → ℕ → Visit ℕ
weight_within s path c = visit_map (weight s (c ∷ path)) (visit s path c)

weight_opens : (s : List Cell) (path : List ℕ) (t : Tree) → weight s path t ≡ weight_of path (λ c. visit_map (weight s (c ∷ path)) (visit s path c)) t
unfolding weight
weight_opens s path t = walk_opens weight_of s path t

-- a value by its content
by_parts : (s : List Cell) (path : List ℕ) (t u : Tree) → t ≡ u → weight s path t ≡ weight_of path (weight_within s path) u
by_parts s path t u e = ap (weight s path) e ∙ weight_opens s path u

open_weight : (o : Visit Tree) (go : Tree → ℕ) (t : Tree) → Some t ≡ opened o → suc (go t) ≡ held_weight (visit_map go o)
open_weight (entered u) go t e = let same : t ≡ u = cc in ap (λ x. suc (go x)) same
open_weight barred go t e = cc
open_weight revisited go t e = cc

-- the cell of a holder is then open
pub opened_path : (t : Tree) (c : ℕ) (g : ℤ) (m : AccessMode) (next path : List ℕ) → t ≡ node (holder c) g m → IfSome (cell_of t) (λ k. next ≡ k ∷ path) → next ≡ c ∷ path
opened_path t c g m next path e is = subst (λ x. IfSome (cell_of x) (λ k. next ≡ k ∷ path)) e is

module _ (s : List Cell) (path : List ℕ) where
  each_weighed : (xs : List Tree) → rest_weight (weight s path) (items_keyed xs) ≡ all_weight path (weight_within s path) (trees_of xs)
  each_weighed [] = refl
  each_weighed (x ∷ xs) = ap₂ (λ a b. suc a + b) (weight_opens s path x) (each_weighed xs)

  rows_weighed : (rs : Rows) → rest_weight (weight s path) (rows_keyed rs) ≡ fields_weight path (weight_within s path) (fields_of rs)
  rows_weighed [] = refl
  rows_weighed (r ∷ rs) = ap₂ (λ a b. suc a + b) (weight_opens s path r.1) (rows_weighed rs)

  -- arrays and functions, maps, and holders whose cell opens
  pub branch-weight : (t : Tree) (k : Kind) (ys xs : List Tree) (g : ℤ) (m : AccessMode) → t ≡ node (branch k (trees_of xs)) g m → ys ≡ xs → rest_weight (weight s path) (items_keyed ys) ≡ weight s path t
  branch-weight t k ys xs g m e same = ap (λ zs. rest_weight (weight s path) (items_keyed zs)) same ∙ each_weighed xs ∙ sym (by_parts s path t (node (branch k (trees_of xs)) g m) e)

  pub map-weight : (t : Tree) (rs : Rows) (g : ℤ) (m : AccessMode) → t ≡ node (fields (fields_of rs)) g m → rest_weight (weight s path) (rows_keyed rs) ≡ weight s path t
  map-weight t rs g m e = rows_weighed rs ∙ sym (by_parts s path t (node (fields (fields_of rs)) g m) e)

  pub held-weight : (next : List ℕ) (t u : Tree) (c : ℕ) (g : ℤ) (m : AccessMode) → t ≡ node (holder c) g m → Some u ≡ entry s path t → IfSome (cell_of t) (λ k. next ≡ k ∷ path) → suc (weight s next u) ≡ weight s path t
  held-weight next t u c g m e some is =
      ap (λ p. suc (weight s p u)) (opened_path t c g m next path e is) ∙ open_weight (visit s path c) _ u (some ∙ ap (entry s path) e) ∙ sym (by_parts s path t (node (holder c) g m) e)

-- the work for an item is less than for all
pub weight_item : (w : Tree → ℕ) (xs : List Tree) (i : ℕ) (x : Tree) → i < length xs → x ≡ get_or xs i x → suc (w x) ≤ rest_weight w (items_keyed xs)
weight_item w [] i x l e = absurd (omega arith)
weight_item w (y ∷ xs) zero x l e = omega (arith, ap w e)
weight_item w (y ∷ xs) (suc i) x l e = omega (arith, weight_item w xs i x (omega arith) e)
