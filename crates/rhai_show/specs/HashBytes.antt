-- The bytes by which a value is hashed.
use Rattle.std.specs.Prelude.{ℕ, suc, ℤ, cond, List, [], ◌∷◌, ◌++◌, length, Option}
use Rattle.std.specs.Option.{option_map_or}
use Rattle.std.specs.Int.{w16, w32, w64, w128, w8, to_le_bytes, cast_unsigned}
use Rattle.std.specs.Str.{encode_utf8_all}
use Rattle.rhai_value.specs.declared.value.host.Host.{Host}
use Rattle.rhai_value.specs.declared.value.host.Host.TheVariants as host_kind
use Rattle.rhai_value.specs.declared.cells.store.Cell.{Cell}
use Rattle.rhai_value.specs.Tree.{Tree, Leaf, unit, bool, int, char, text, blob, host, Kind, array, function}
use Rattle.rhai_show.specs.Plain.{Plain, plain_leaf, plain_branch, plain_map, Plains, no_plains, plain_then, PlainFields, no_plain_fields, plain_field_then, plain}

-- a count, in eight bytes; the lowest byte comes first in all numbers
unfoldable pub count_bytes : ℕ → List ℕ
count_bytes n = to_le_bytes w64 n

-- a script's own integer, in eight bytes
unfoldable pub int_bytes : ℤ → List ℕ
int_bytes n = to_le_bytes w64 (cast_unsigned w64 n)

-- bytes prefixed by their number
abbrev pub sized : List ℕ → List ℕ
sized bs = count_bytes (length bs) ++ bs

-- a text, a key or a name: its UTF-8, prefixed by its number of bytes
abbrev pub name_bytes : List ℕ → List ℕ
name_bytes cs = sized (encode_utf8_all cs)

-- the kind of a host's integer or range, and then the numbers in their own width
abbrev pub host_bytes : Host → List ℕ
host_bytes (host_kind.U8 n) = 0 ∷ n ∷ []
host_bytes (host_kind.U16 n) = 1 ∷ to_le_bytes w16 n
host_bytes (host_kind.U32 n) = 2 ∷ to_le_bytes w32 n
host_bytes (host_kind.U64 n) = 3 ∷ to_le_bytes w64 n
host_bytes (host_kind.U128 n) = 4 ∷ to_le_bytes w128 n
host_bytes (host_kind.I8 n) = 5 ∷ cast_unsigned w8 n ∷ []
host_bytes (host_kind.I16 n) = 6 ∷ to_le_bytes w16 (cast_unsigned w16 n)
host_bytes (host_kind.I32 n) = 7 ∷ to_le_bytes w32 (cast_unsigned w32 n)
host_bytes (host_kind.I128 n) = 8 ∷ to_le_bytes w128 (cast_unsigned w128 n)
host_bytes (host_kind.ExclusiveRange r) = 9 ∷ int_bytes r.start ++ int_bytes r.end
host_bytes (host_kind.InclusiveRange r) = 10 ∷ int_bytes r.start ++ int_bytes r.end

-- the kind of a value, and then its content
abbrev pub leaf_bytes : Leaf → List ℕ
leaf_bytes unit = 0 ∷ []
leaf_bytes (bool b) = 1 ∷ cond b 1 0 ∷ []
leaf_bytes (text cs) = 2 ∷ name_bytes cs
leaf_bytes (char c) = 3 ∷ to_le_bytes w32 c
leaf_bytes (int n) = 4 ∷ int_bytes n
leaf_bytes (blob bs) = 6 ∷ sized bs
leaf_bytes (host h) = 9 ∷ host_bytes h

-- the bytes before the children: the kind, a function's name
abbrev pub kind_bytes : Kind → List ℕ
kind_bytes array = 5 ∷ []
kind_bytes (function f) = 8 ∷ name_bytes f

abbrev pub how_many : Plains → ℕ
how_many no_plains = 0
how_many (plain_then p ps) = suc (how_many ps)

abbrev pub how_many_fields : PlainFields → ℕ
how_many_fields no_plain_fields = 0
how_many_fields (plain_field_then k p fs) = suc (how_many_fields fs)

-- the hash bytes of a plain value: children are prefixed by their number, and in a map each key precedes its value
abbrev mutual
  pub plain_bytes : Plain → List ℕ
  plain_bytes (plain_leaf l) = leaf_bytes l
  plain_bytes (plain_branch k ps) = kind_bytes k ++ (count_bytes (how_many ps) ++ all_bytes ps)
  plain_bytes (plain_map fs) = 7 ∷ count_bytes (how_many_fields fs) ++ fields_bytes fs

  pub all_bytes : Plains → List ℕ
  all_bytes no_plains = []
  all_bytes (plain_then p ps) = plain_bytes p ++ all_bytes ps

  pub fields_bytes : PlainFields → List ℕ
  fields_bytes no_plain_fields = []
  fields_bytes (plain_field_then k p fs) = name_bytes k ++ plain_bytes p ++ fields_bytes fs

-- the bytes of a value that can be hashed; none for another
abbrev pub some_bytes : Option Plain → List ℕ
some_bytes o = option_map_or plain_bytes o []

abbrev pub hash_bytes : List Cell → List ℕ → Tree → List ℕ
hash_bytes s path t = some_bytes (plain s path t)
