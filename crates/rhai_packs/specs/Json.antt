-- The JSON text of a map.
use Rattle.std.specs.Prelude.{◌≡◌, ℕ, ℤ, Bool, true, false, List, [], ◌∷◌, ◌++◌, Option, Some, None, codes, option_map}
use Rattle.std.specs.List.{join_by, flat_map}
use Rattle.rhai_text.specs.Quote.{quoted_text}
use Rattle.rhai_value.specs.declared.cells.store.Cell.{Cell}
use Rattle.rhai_value.specs.declared.value.access_mode.AccessMode.{AccessMode}
use Rattle.rhai_value.specs.End.{end, held_in}
use Rattle.rhai_value.specs.Tree.{Tree, node, unit, bool, int, char, text, blob, host, leaf, branch, fields, holder, Fields, no_fields, field_then, cell_of}
use Rattle.rhai_value.specs.Walk.{entry}
use Rattle.rhai_value.specs.Rows.{fields_of}
use Rattle.rhai_show.specs.Rests.{HasOpen, closed_by}
use Rattle.rhai_show.specs.Text.{printed}
use Rattle.rhai_show.specs.declared.form.Form.TheVariants.{Debug}
use Rattle.rhai_packs.specs.declared.maps.json.Inner.{Inner}
use Rattle.rhai_packs.specs.declared.maps.json.Inner.TheVariants as kind
use Rattle.rhai_packs.specs.declared.maps.json.Object.{Object}

-- What a value holds, with the cells then open, given its cell, what opens there and what is held. A
-- holder has none if that can't be read or is being written already.
abbrev pub inner_of : Option ℕ → Option Tree → Option Tree → List ℕ → Tree → Option (List ℕ × Tree)
inner_of None o h path t = Some (path, t)
inner_of (Some c) None h path t = None
inner_of (Some c) (Some x) h path t = option_map (λ y. (c ∷ path, y)) h

abbrev pub inner : List Cell → List ℕ → Tree → Option (List ℕ × Tree)
inner s path t = inner_of (cell_of t) (entry s path t) (held_in (end s [] t)) path t

-- whether a value is written as `debug` prints it: it is neither unit nor a map
abbrev pub is_printed : Tree → Bool
is_printed (node (leaf unit) g m) = false
is_printed (node (leaf (bool b)) g m) = true
is_printed (node (leaf (int n)) g m) = true
is_printed (node (leaf (char c)) g m) = true
is_printed (node (leaf (text cs)) g m) = true
is_printed (node (leaf (blob bs)) g m) = true
is_printed (node (leaf (host h)) g m) = true
is_printed (node (branch k ts) g m) = true
is_printed (node (fields fs) g m) = false
is_printed (node (holder c) g m) = true

-- a member of an object
abbrev pub member : List ℕ → List ℕ → List ℕ
member key value = quoted_text key ++ codes ":" ++ value

-- the comma before a member, unless it is the first
abbrev pub comma_unless : Bool → List ℕ
comma_unless true = []
comma_unless false = codes ","

-- the rest of an object with these members, of which the first may be the object's first
abbrev pub rest_text : Bool → List (List ℕ) → List ℕ
rest_text true members = join_by (λ m. m) (codes ",") members ++ codes "}"
rest_text false members = flat_map (λ m. codes "," ++ m) members ++ codes "}"

-- an object
abbrev pub object : List (List ℕ) → List ℕ
object members = codes "{" ++ rest_text true members

mutual
  -- The JSON text of what `inner` gives: of none and of unit `null`, of a map an object, of
  -- anything else the text that `debug` prints.
  pub data IsJson (s : List Cell) : Option (List ℕ × Tree) → List ℕ → Type 0 where
    of_none : IsJson s None (codes "null")
    of_unit : {path : List ℕ} {g : ℤ} {m : AccessMode} → IsJson s (Some (path, node (leaf unit) g m)) (codes "null")
    of_map : {path : List ℕ} {fs : Fields} {members : List (List ℕ)} {g : ℤ} {m : AccessMode} → AreMembers s path fs members → IsJson s (Some (path, node (fields fs) g m)) (object members)
    of_other : {path : List ℕ} {t : Tree} → is_printed t ≡ true → IsJson s (Some (path, t)) (printed s [] t Debug)

  -- the members of the entries of a map, with these cells open
  pub data AreMembers (s : List Cell) : List ℕ → Fields → List (List ℕ) → Type 0 where
    no_members : {path : List ℕ} → AreMembers s path no_fields []
    member_then : {path : List ℕ} {key : List ℕ} {t : Tree} {fs : Fields} {value : List ℕ} {members : List (List ℕ)} → IsJson s (inner s path t) value → AreMembers s path fs members → AreMembers s path (field_then key t fs) (member key value ∷ members)

-- a value was written and its cell closed; or the brace before a map, whose cell stays open
abbrev pub Writes : List Cell → Option (List ℕ × Tree) → List ℕ → List ℕ → List ℕ → List ℕ → Option Object → Type 0
Writes s i path now old new None = (now ≡ path) × ((value : List ℕ) × IsJson s i value × (new ≡ old ++ value))
Writes s i path now old new (Some o) =
    ((g : ℤ) × (m : AccessMode) × (i ≡ Some (now, node (fields (fields_of o.entries)) g m)))
    × (o.is_first ≡ true) × HasOpen o.is_held now × (closed_by o.is_held now ≡ path) × (new ≡ old ++ codes "{")

-- the value is unit, a map, or written as `debug` prints it
abbrev pub HasInner : Inner → Tree → Type 0
HasInner kind.Unit t = (g : ℤ) × (m : AccessMode) × (t ≡ node (leaf unit) g m)
HasInner (kind.Map rs) t = (g : ℤ) × (m : AccessMode) × (t ≡ node (fields (fields_of rs.now)) g m)
HasInner kind.Other t = is_printed t ≡ true
