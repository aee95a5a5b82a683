-- What a search for plain values knows of the cells that it has left.
use Rattle.std.specs.Prelude.{◌≡◌, ℕ, Bool, true, false, not, ◌&&◌, List, is_some}
use Rattle.rhai_value.specs.declared.cells.store.Cell.{Cell}
use Rattle.rhai_value.specs.Cells.{EachCell, EachInAll, EachInFields}
use Rattle.rhai_value.specs.Tree.{Tree, holder, Trees, no_trees, tree_then, Fields, no_fields, field_then, made}
use Rattle.rhai_value.specs.Walk.{is_open}
use Rattle.rhai_show.specs.Plain.{plain}

-- whether all of these are plain
abbrev pub are_plain : List Cell → List ℕ → Trees → Bool
are_plain s path no_trees = true
are_plain s path (tree_then t ts) = is_some (plain s path t) && are_plain s path ts

-- the values of a map
abbrev pub values_in : Fields → Trees
values_in no_fields = no_trees
values_in (field_then k t fs) = tree_then t (values_in fs)

-- a search has opened the cells of seen, of which those of path are still open: whether it has left c
abbrev pub has_left : List ℕ → List ℕ → ℕ → Bool
has_left seen path c = is_open c seen && not (is_open c path)

-- no open cell is one of d
abbrev pub Apart : List ℕ → (ℕ → Bool) → Type 0
Apart path d = (c : ℕ) → is_open c path ≡ true → d c ≡ false

-- each holder in a value, in these, and in the values of a map refers to a cell of d
abbrev pub Names : (ℕ → Bool) → Tree → Type 0
Names d t = EachCell (λ c. d c ≡ true) t

abbrev pub AllName : (ℕ → Bool) → Trees → Type 0
AllName d ts = EachInAll (λ c. d c ≡ true) ts

abbrev pub FieldsName : (ℕ → Bool) → Fields → Type 0
FieldsName d fs = EachInFields (λ c. d c ≡ true) fs

-- the value contains no holder, at any depth
abbrev pub HasNoHolder : Tree → Type 0
HasNoHolder t = Names (λ c. false) t

-- the same for all of these, and for the values of a map
abbrev pub HaveNoHolders : Trees → Type 0
HaveNoHolders ts = AllName (λ c. false) ts

abbrev pub FieldsHaveNoHolders : Fields → Type 0
FieldsHaveNoHolders fs = FieldsName (λ c. false) fs

-- A holder of a cell of d is plain, whatever cells are open, if none of them is in d.
pub record Clean (s : List Cell) (d : ℕ → Bool) : Type 0 where
  pub held : (c : ℕ) → d c ≡ true → (path : List ℕ) → Apart path d → is_some (plain s path (made (holder c))) ≡ true

-- A search from these values was clean: the cells that it has left are clean, the values refer only
-- to these, and no cell was forgotten.
pub record Searched (s : List Cell) (path seen later : List ℕ) (ts : Trees) : Type 0 where
  pub clean : Clean s (has_left later path)
  pub more : (c : ℕ) → is_open c seen ≡ true → is_open c later ≡ true
  pub named : AllName (has_left later path) ts
