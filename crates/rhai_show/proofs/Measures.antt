-- Bounds on how long printing takes: the cells that aren't open, and the remaining nodes.
use Rattle.std.proofs.Common.{◌≡◌, Option, None, ℕ, zero, suc, ◌+◌, ◌*◌, ◌<◌, ◌≤◌, Bool, true, false, List, [], ◌∷◌, length, get_or, Some, IfSome, sym, ap, arith}
use Rattle.std.proofs.Math.Nat.{mul-le-mul_right}
use Rattle.rhai_value.specs.declared.cells.store.Cell.{Cell}
use Rattle.rhai_value.specs.Tree.{Tree, nodes, nodes_trees, leaf, branch, fields, holder, node, cell_of}
use Rattle.rhai_value.specs.Rows.{trees_of}
use Rattle.rhai_value.specs.Store.{at, unmarked}
use Rattle.rhai_value.specs.Walk.{entry, visit_of, opened, is_open}
use Rattle.rhai_value.proofs.ForCallers.{unopened, unopened-entry}

-- the nodes of all cells' values
abbrev pub nodes_in : List Cell → ℕ
nodes_in [] = 0
nodes_in (x ∷ s) = nodes x.content + nodes_in s

-- each cell that may still open counts for more than its value
abbrev pub left_in : List Cell → List ℕ → ℕ
left_in s path = unopened path (length s) * (4 * nodes_in s + 1)

same_content : (marked : Bool) (u t : Tree) → unmarked (record { content = u; is_marked = marked }) ≡ Some t → t ≡ u
same_content true u t e = cc
same_content false u t e = cc

nodes_at : (s : List Cell) (c : ℕ) (t : Tree) → at s c ≡ Some t → nodes t ≤ nodes_in s
nodes_at [] c t e = cc
nodes_at (x ∷ s) zero t e = omega (arith, ap nodes (same_content x.is_marked x.content t e))
nodes_at (x ∷ s) (suc c) t e = omega (arith, nodes_at s c t e)

read_of : (o : Option Tree) (b : Bool) (t : Tree) → Some t ≡ opened (visit_of o b) → o ≡ Some t
read_of None b t e = cc
read_of (Some u) true t e = cc
read_of (Some u) false t e = sym e

nodes_entered : (s : List Cell) (path : List ℕ) (v t : Tree) → Some t ≡ entry s path v → nodes t ≤ nodes_in s
nodes_entered s path (node (leaf l) g m) t e = cc
nodes_entered s path (node (branch k ts) g m) t e = cc
nodes_entered s path (node (fields fs) g m) t e = cc
nodes_entered s path (node (holder c) g m) t e = nodes_at s c t (read_of (at s c) (is_open c path) t e)

fewer : (a b m k : ℕ) → a < b → k < m → a * m + k < b * m
fewer a b m k l h =
    let more : suc a * m ≤ b * m = mul-le-mul_right m l in
    let e : suc a * m ≡ a * m + m = omega arith in
    omega arith

-- less is left after a cell is opened
pub left-entry : (s : List Cell) (path next : List ℕ) (v t : Tree) (n : ℕ) → Some t ≡ entry s path v → IfSome (cell_of v) (λ c. next ≡ c ∷ path) → left_in s next + 4 * nodes t < left_in s path + n
left-entry s path next v t n e is =
    omega (arith, fewer (unopened next (length s)) (unopened path (length s)) (4 * nodes_in s + 1) (4 * nodes t) (unopened-entry s path next v t e is) (omega (arith, nodes_entered s path v t e)))

-- no item has more nodes than all together
pub nodes_item : (xs : List Tree) (i : ℕ) (x : Tree) → i < length xs → x ≡ get_or xs i x → nodes x ≤ nodes_trees (trees_of xs)
nodes_item [] i x l e = absurd (omega arith)
nodes_item (y ∷ xs) zero x l e = omega (arith, ap nodes e)
nodes_item (y ∷ xs) (suc i) x l e = omega (arith, nodes_item xs i x (omega arith) e)
