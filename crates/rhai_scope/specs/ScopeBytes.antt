-- The bytes by which a scope is hashed.
use Rattle.std.specs.Prelude.{ℕ, List, [], ◌∷◌, ◌++◌, length, Option, Some, None, option_map}
use Rattle.std.specs.List.{flat_map}
use Rattle.rhai_value.specs.declared.cells.store.Cell.{Cell}
use Rattle.rhai_show.specs.HashBytes.{count_bytes, name_bytes, plain_bytes}
use Rattle.rhai_show.specs.Plain.{Plain, plain}
use Rattle.rhai_scope.specs.Entry.{Entry}

-- aliases prefixed by their number
abbrev pub aliases_bytes : List (List ℕ) → List ℕ
aliases_bytes bs = count_bytes (length bs) ++ flat_map name_bytes bs

-- name, value and aliases of an entry whose value is plain
abbrev pub plain_entry_bytes : Entry → Plain → List ℕ
plain_entry_bytes e p = name_bytes e.name ++ plain_bytes p ++ aliases_bytes e.aliases

-- none if the value isn't plain
abbrev pub entry_bytes : List Cell → Entry → Option (List ℕ)
entry_bytes s e = option_map (plain_entry_bytes e) (plain s [] e.value)

-- the concatenation of both, if both exist
abbrev pub both_bytes : Option (List ℕ) → Option (List ℕ) → Option (List ℕ)
both_bytes None o = None
both_bytes (Some xs) o = option_map (λ ys. xs ++ ys) o

-- the concatenation of the bytes of all entries, if each has some
abbrev pub entries_bytes : List Cell → List Entry → Option (List ℕ)
entries_bytes s [] = Some []
entries_bytes s (e ∷ es) = both_bytes (entry_bytes s e) (entries_bytes s es)

-- the same prefixed by the number of entries; tags, modes and constants have no effect
abbrev pub scope_bytes : List Cell → List Entry → Option (List ℕ)
scope_bytes s es = both_bytes (Some (count_bytes (length es))) (entries_bytes s es)
