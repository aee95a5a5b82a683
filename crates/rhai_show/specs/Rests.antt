-- Frames of a walk.
use Rattle.std.specs.Prelude.{ℕ, suc, ◌+◌, ◌<◌, Bool, true, false, List, [], ◌∷◌, Option, Some, None, length, map, drop}
use Rattle.rhai_value.specs.Tree.{Tree, Trees, no_trees, tree_then}
use Rattle.rhai_value.specs.Rows.{Rows}
use Rattle.rhai_show.specs.declared.rest.Child.{Child}
use Rattle.rhai_show.specs.declared.rest.Child.TheVariants.{Item, Entry}
use Rattle.rhai_show.specs.declared.rest.Rest.{Rest}
use Rattle.rhai_show.specs.declared.rest.Rest.TheVariants.{Items, Fields, Held}

-- a child of a value, in a map with its key, as bytes
abbrev pub Keyed : Type 0
Keyed = Option (List ℕ) × Tree

abbrev pub child_of : Child → Keyed
child_of (Item v) = (None, v.now)
child_of (Entry k v) = (Some k.now, v.now)

-- values without keys, and those of a map
abbrev pub items_keyed : List Tree → List Keyed
items_keyed xs = map (λ t. (None, t)) xs

abbrev pub rows_keyed : Rows → List Keyed
rows_keyed rs = map (λ r. (Some r.0, r.1)) rs

-- the remaining values
abbrev pub rest_of : Rest → List Keyed
rest_of (Items xs) = items_keyed xs.now
rest_of (Fields rs) = rows_keyed rs
rest_of (Held None) = []
rest_of (Held (Some v)) = (None, v.now) ∷ []

-- whether they are in a cell
abbrev pub is_held : Rest → Bool
is_held (Items xs) = false
is_held (Fields rs) = false
is_held (Held o) = true

-- the open cells once none remains: that of a holder is closed
abbrev pub closed_by : Bool → List ℕ → List ℕ
closed_by true path = drop 1 path
closed_by false path = path

-- a holder has a cell to close
abbrev pub HasOpen : Bool → List ℕ → Type 0
HasOpen true path = 0 < length path
HasOpen false path = Unit {0}

-- the work for these, where w is that of a value
abbrev pub rest_weight : (Tree → ℕ) → List Keyed → ℕ
rest_weight w [] = 0
rest_weight w (c ∷ cs) = suc (w c.1) + rest_weight w cs

-- each satisfies P
abbrev pub Each : (Keyed → Type 0) → List Keyed → Type 0
Each P [] = Unit {0}
Each P (c ∷ cs) = P c × Each P cs

-- whether a cell must be closed, and the remaining values
abbrev pub Level : Type 0
Level = Bool × List Keyed

abbrev pub level_of : Rest → Level
level_of r = (is_held r, rest_of r)

-- the open cells once all levels are done
abbrev pub path_left : List ℕ → List Level → List ℕ
path_left path [] = path
path_left path (l ∷ ls) = path_left (closed_by l.0 path) ls

-- each holder has a cell to close
abbrev pub HaveOpen : List ℕ → List Level → Type 0
HaveOpen path [] = Unit {0}
HaveOpen path (l ∷ ls) = HasOpen l.0 path × HaveOpen (closed_by l.0 path) ls

-- the values without their keys
abbrev pub trees_in : List Keyed → Trees
trees_in [] = no_trees
trees_in (c ∷ cs) = tree_then c.1 (trees_in cs)
