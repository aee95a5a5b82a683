-- Values without holders.
use Rattle.std.proofs.Common.{◌≡◌, ℕ, ℤ, zero, suc, ◌<◌, List, [], ◌∷◌, length, get_or, sym, subst, arith}
use Rattle.rhai_value.specs.declared.value.access_mode.AccessMode.{AccessMode}
use Rattle.rhai_value.specs.Rows.{trees_of}
use Rattle.rhai_value.specs.Tree.{Tree, node, fields, Fields, field_then}
use Rattle.rhai_show.specs.Clean.{HasNoHolder, HaveNoHolders, FieldsHaveNoHolders}

-- an item has none
pub item_free : (xs : List Tree) (i : ℕ) (x : Tree) → i < length xs → x ≡ get_or xs i x → HaveNoHolders (trees_of xs) → HasNoHolder x
item_free [] i x l e h = absurd (omega arith)
item_free (y ∷ xs) zero x l e h = subst HasNoHolder (sym e) h.0
item_free (y ∷ xs) (suc i) x l e h = item_free xs i x (omega arith) e h.1

-- a map's fields have none
pub fields_free : (t : Tree) (fs : Fields) (g : ℤ) (m : AccessMode) → t ≡ node (fields fs) g m → HasNoHolder t → FieldsHaveNoHolders fs
fields_free t fs g m e h = subst HasNoHolder e h

-- the first field has none, nor have those after it
pub first_free : (fs hs : Fields) (k : List ℕ) (t : Tree) → fs ≡ field_then k t hs → FieldsHaveNoHolders fs → HasNoHolder t × FieldsHaveNoHolders hs
first_free fs hs k t e h = subst FieldsHaveNoHolders e h
