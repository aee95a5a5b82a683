-- Arrays and maps made from Rust's collections.
use Rattle.std.specs.Prelude.{◌≡◌, ℕ, List, map, reverse, String, string_bytes}
use Rattle.std.specs.BTreeMap.{is_at}
use Rattle.std.specs.Map.{lookup}
use Rattle.std.specs.declared.alloc.Global.{Global}
use Rattle.rhai_value.specs.Rows.{Rows, bytes_cmp, AreRising, trees_of, fields_of}
use Rattle.rhai_value.specs.Tree.{Tree, made, branch, array, fields, fresh, unit}

-- an array of these items, with tag 0 and mode ReadWrite
abbrev pub array_made : List Tree → Tree
array_made ts = made (branch array (trees_of ts))

-- each key, as its bytes, with the value made from its item
abbrev pub pairs : {A : Type 0} → (A → Tree) → List (String Global × A) → Rows
pairs tree es = map (λ e. (string_bytes e.0, tree e.1)) es

-- each key with unit
abbrev pub keys_alone : List (String Global) → Rows
keys_alone ks = map (λ k. (string_bytes k, fresh unit)) ks

-- the keys of the rows are ascending, and each key has its last value among the pairs; no other key has one
abbrev pub HasLast : Rows → Rows → Type 0
HasLast ps rs = AreRising rs × ((k : List ℕ) → lookup (is_at (bytes_cmp k)) rs ≡ lookup (is_at (bytes_cmp k)) (reverse ps))

-- a map of such rows, with tag 0 and mode ReadWrite
abbrev pub IsMapOf : Rows → Tree → Type 0
IsMapOf ps t = (rs : Rows) × (t ≡ made (fields (fields_of rs))) × HasLast ps rs
