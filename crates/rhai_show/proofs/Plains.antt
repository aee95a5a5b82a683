-- Plain values, by their parts.
use Rattle.std.proofs.Common.{◌≡◌, ℕ, ℤ, ◌&&◌, true, false, List, ◌∷◌, Option, Some, None, is_some, option_map, refl, sym, ap, ap₂, ◌∙◌}
use Rattle.rhai_value.specs.declared.value.access_mode.AccessMode.{AccessMode}
use Rattle.rhai_value.specs.declared.cells.store.Cell.{Cell}
use Rattle.rhai_value.specs.Tree.{Tree, node, Content, Leaf, leaf, Kind, branch, fields, holder, Trees, no_trees, tree_then, Fields, no_fields, field_then}
use Rattle.rhai_value.specs.Walk.{Visit, entered, barred, revisited, visit, visit_map, opened, entry}
use Rattle.rhai_value.proofs.ForCallers.{walk_opens}
use Rattle.rhai_show.specs.Plain.{Plain, Plains, PlainFields, plain_branch, plain_map, plain_then, plain_field_then, plain_more, plain_field_more, plain_held, plain_of, all_plain, fields_plain, plain}
use Rattle.rhai_show.specs.Clean.{are_plain, values_in}

-- the result for the cell of each holder
abbrev pub plain_within : List Cell → List ℕ → ℕ → Visit (Option Plain)
plain_within s path c = visit_map (plain s (c ∷ path)) (visit s path c)

pub plain_opens : (s : List Cell) (path : List ℕ) (t : Tree) → plain s path t ≡ plain_of path (λ c. visit_map (plain s (c ∷ path)) (visit s path c)) t
unfolding plain
plain_opens s path t = walk_opens plain_of s path t

pub some_map : {A B : Type 0} (f : A → B) (o : Option A) → is_some (option_map f o) ≡ is_some o
some_map f None = refl
some_map f (Some a) = refl

some_more : (o : Option Plain) (q : Option Plains) → is_some (plain_more o q) ≡ (is_some o && is_some q)
some_more None q = refl
some_more (Some p) q = some_map (plain_then p) q

some_field : (k : List ℕ) (o : Option Plain) (q : Option PlainFields) → is_some (plain_field_more k o q) ≡ (is_some o && is_some q)
some_field k None q = refl
some_field k (Some p) q = some_map (plain_field_then k p) q

all_opens : (s : List Cell) (path : List ℕ) (ts : Trees) → is_some (all_plain path (plain_within s path) ts) ≡ are_plain s path ts
all_opens s path no_trees = refl
all_opens s path (tree_then t ts) =
    some_more (plain_of path (plain_within s path) t) (all_plain path (plain_within s path) ts)
    ∙ ap₂ (λ a b. a && b) (ap is_some (sym (plain_opens s path t))) (all_opens s path ts)

fields_open : (s : List Cell) (path : List ℕ) (fs : Fields) → is_some (fields_plain path (plain_within s path) fs) ≡ are_plain s path (values_in fs)
fields_open s path no_fields = refl
fields_open s path (field_then k t fs) =
    some_field k (plain_of path (plain_within s path) t) (fields_plain path (plain_within s path) fs)
    ∙ ap₂ (λ a b. a && b) (ap is_some (sym (plain_opens s path t))) (fields_open s path fs)

-- a value by its content
pub by_parts : (s : List Cell) (path : List ℕ) (t u : Tree) → t ≡ u → plain s path t ≡ plain_of path (plain_within s path) u
by_parts s path t u e = ap (plain s path) e ∙ plain_opens s path u

-- a leaf is plain, and a value with children is if all of them are
pub plain-leaf : (s : List Cell) (path : List ℕ) (t : Tree) (l : Leaf) (g : ℤ) (m : AccessMode) → t ≡ node (leaf l) g m → true ≡ is_some (plain s path t)
plain-leaf s path t l g m e = sym (ap is_some (by_parts s path t (node (leaf l) g m) e))

pub plain-branch : (s : List Cell) (path : List ℕ) (t : Tree) (k : Kind) (ts : Trees) (g : ℤ) (m : AccessMode) → t ≡ node (branch k ts) g m → is_some (plain s path t) ≡ are_plain s path ts
plain-branch s path t k ts g m e = ap is_some (by_parts s path t (node (branch k ts) g m) e) ∙ some_map (plain_branch k) (all_plain path (plain_within s path) ts) ∙ all_opens s path ts

pub plain-map : (s : List Cell) (path : List ℕ) (t : Tree) (fs : Fields) (g : ℤ) (m : AccessMode) → t ≡ node (fields fs) g m → is_some (plain s path t) ≡ are_plain s path (values_in fs)
plain-map s path t fs g m e = ap is_some (by_parts s path t (node (fields fs) g m) e) ∙ some_map plain_map (fields_plain path (plain_within s path) fs) ∙ fields_open s path fs

-- holders of one cell are equal
pub plain-holders : (s : List Cell) (path : List ℕ) (c : ℕ) (g h : ℤ) (m n : AccessMode) → plain s path (node (holder c) g m) ≡ plain s path (node (holder c) h n)
plain-holders s path c g h m n = plain_opens s path (node (holder c) g m) ∙ sym (plain_opens s path (node (holder c) h n))

closed_held : (o : Visit Tree) (go : Tree → Option Plain) → None ≡ opened o → plain_held (visit_map go o) ≡ None
closed_held (entered t) go e = cc
closed_held barred go e = refl
closed_held revisited go e = refl

open_held : (o : Visit Tree) (go : Tree → Option Plain) (t : Tree) → Some t ≡ opened o → plain_held (visit_map go o) ≡ go t
open_held (entered u) go t e = let same : u ≡ t = cc in ap go same
open_held barred go t e = cc
open_held revisited go t e = cc

-- a holder whose cell doesn't open, and one whose cell does
pub plain-closed : (s : List Cell) (path : List ℕ) (t : Tree) (c : ℕ) (g : ℤ) (m : AccessMode) → t ≡ node (holder c) g m → None ≡ entry s path t → plain s path t ≡ None
plain-closed s path t c g m e none = by_parts s path t (node (holder c) g m) e ∙ closed_held (visit s path c) _ (none ∙ ap (entry s path) e)

pub plain-opened : (s : List Cell) (path : List ℕ) (t u : Tree) (c : ℕ) (g : ℤ) (m : AccessMode) → t ≡ node (holder c) g m → Some u ≡ entry s path t → plain s path t ≡ plain s (c ∷ path) u
plain-opened s path t u c g m e some = by_parts s path t (node (holder c) g m) e ∙ open_held (visit s path c) _ u (some ∙ ap (entry s path) e)

-- a holder that is plain has a cell that opens
pub plain-enters : (s : List Cell) (path : List ℕ) (t : Tree) (c : ℕ) (g : ℤ) (m : AccessMode) → t ≡ node (holder c) g m → is_some (plain s path t) ≡ true → is_some (entry s path t) ≡ true
plain-enters s path t c g m e is = at (entry s path t) refl
  where
    at : (o : Option Tree) → entry s path t ≡ o → is_some o ≡ true
    at (Some u) found = refl
    at None found =
        let no : false ≡ true = sym (ap is_some (plain-closed s path t c g m e (sym found))) ∙ is in
        cc

-- tags and modes have no effect, nor has sharing
pub plain_bare : (s : List Cell) (path : List ℕ) (c : Content) (g h : ℤ) (m n : AccessMode) → plain s path (node c g m) ≡ plain s path (node c h n)
plain_bare s path c g h m n = plain_opens s path (node c g m) ∙ sym (plain_opens s path (node c h n))

pub plain_shared : (s : List Cell) (path : List ℕ) (c : ℕ) (g : ℤ) (m : AccessMode) (t : Tree) → visit s path c ≡ entered t → plain s path (node (holder c) g m) ≡ plain s (c ∷ path) t
plain_shared s path c g m t e = plain_opens s path (node (holder c) g m) ∙ ap (λ o. plain_held (visit_map (plain s (c ∷ path)) o)) e
