-- Walks over cells that may form cycles: a cell that is open on the path isn't opened again.
use Rattle.std.specs.Prelude.{ℕ, zero, suc, Bool, true, false, nat_eq, ◌||◌, List, [], ◌∷◌, length, Option, Some, None, option_and_then}
use Rattle.rhai_value.specs.declared.cells.store.Cell.{Cell}
use Rattle.std.specs.Option.{option_map_or}
use Rattle.rhai_value.specs.Tree.{Tree, cell_of}
use Rattle.rhai_value.specs.Store.{at}

-- the result of a walk at a holder: its cell opens, is marked or not in the store, or is already open
pub data Visit (A : Type 0) : Type 0 where
  entered : A → Visit A
  barred : Visit A
  revisited : Visit A

abbrev pub is_open : ℕ → List ℕ → Bool
is_open c [] = false
is_open c (p ∷ ps) = nat_eq c p || is_open c ps

-- whether a value is a holder of an open cell
abbrev pub holds_open : List ℕ → Tree → Bool
holds_open path t = option_map_or (λ c. is_open c path) (cell_of t) false

abbrev pub visit_of : Option Tree → Bool → Visit Tree
visit_of None b = barred
visit_of (Some t) true = revisited
visit_of (Some t) false = entered t

-- the content that a holder of the cell c opens, with these cells open
abbrev pub visit : List Cell → List ℕ → ℕ → Visit Tree
visit s path c = visit_of (at s c) (is_open c path)

-- the content that opens
abbrev pub opened : Visit Tree → Option Tree
opened (entered t) = Some t
opened barred = None
opened revisited = None

-- the content that a value opens, if it is a holder
abbrev pub entry : List Cell → List ℕ → Tree → Option Tree
entry s path t = option_and_then (λ c. opened (visit s path c)) (cell_of t)

abbrev pub visit_map : {A B : Type 0} → (A → B) → Visit A → Visit B
visit_map f (entered a) = entered (f a)
visit_map f barred = barred
visit_map f revisited = revisited

-- no content is left to open
abbrev pub unentered : {A : Type 0} → Visit Tree → Visit A
unentered (entered t) = revisited
unentered barred = barred
unentered revisited = revisited

-- The result of `shape` on a tree, given the open cells and, for each holder, the result for its
-- cell's content or why it didn't open. The number bounds how many cells may be open at once.
abbrev pub walk_in : {A : Type 0} → (List ℕ → (ℕ → Visit A) → Tree → A) → ℕ → List Cell → List ℕ → Tree → A
walk_in shape zero s path t = shape path (λ c. unentered (visit s path c)) t
walk_in shape (suc n) s path t = shape path (λ c. visit_map (walk_in shape n s (c ∷ path)) (visit s path c)) t

-- No more cells can be open than exist.
abbrev pub walk : {A : Type 0} → (List ℕ → (ℕ → Visit A) → Tree → A) → List Cell → List ℕ → Tree → A
walk shape s path t = walk_in shape (length s) s path t
