-- Values set, and entries removed.
use Rattle.std.specs.Prelude.{ℕ, List, remove, Option, Some, None}
use Rattle.std.specs.Option.{option_map_or}
use Rattle.rhai_value.specs.declared.value.access_mode.AccessMode.TheVariants.{ReadWrite}
use Rattle.rhai_value.specs.declared.value.type_id.TypeId.{TypeId}
use Rattle.rhai_value.specs.Tree.{Tree}
use Rattle.rhai_variant.specs.Reads.{written_as}
use Rattle.rhai_scope.specs.Entry.{Entry, pushed, with_value}
use Rattle.rhai_scope.specs.Lookup.{changed_at}

-- the entries with another value at a position, without painting; if there is no position, with a new entry appended
abbrev pub set_or_pushed : Option ℕ → List ℕ → Tree → List Entry → List Entry
set_or_pushed None name t es = pushed ReadWrite name t es
set_or_pushed (Some i) name t es = changed_at (with_value t) es i

-- the entries without the one at a position, if there is one
abbrev pub removed_at : Option ℕ → List Entry → List Entry
removed_at o es = option_map_or (remove es) o es

-- an entry after w was written to its value as a Rust type
abbrev pub written_entry : TypeId → Tree → Entry → Entry
written_entry k w e = with_value (written_as k w e.value) e
