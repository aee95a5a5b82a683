-- Plain values that a program can have: numbers are in the ranges of their types, and lengths fit in eight bytes.
use Rattle.std.specs.Prelude.{◌≡◌, ◌<◌, ◌^◌, ℕ, true, List, [], length, Some, IfSome, ⊤, FitsSigned}
use Rattle.std.specs.Int.{w8, w16, w32, w64, w128}
use Rattle.std.specs.Str.{all_scalars, chars, encode_utf8_all}
use Rattle.rhai_value.specs.declared.value.host.Host.{Host}
use Rattle.rhai_value.specs.declared.value.host.Host.TheVariants as host_kind
use Rattle.rhai_value.specs.declared.cells.store.Cell.{Cell}
use Rattle.rhai_value.specs.Tree.{Tree, Leaf, unit, bool, int, char, text, blob, host, Kind, array, function}
use Rattle.rhai_show.specs.Plain.{Plain, plain_leaf, plain_branch, plain_map, Plains, no_plains, plain_then, PlainFields, no_plain_fields, plain_field_then, plain}
use Rattle.rhai_show.specs.HashBytes.{how_many, how_many_fields, plain_bytes}

-- a count that fits in eight bytes
abbrev pub IsCount : ℕ → Type 0
IsCount n = n < 2 ^ 64

-- characters, whose UTF-8 isn't too long
abbrev pub IsName : List ℕ → Type 0
IsName cs = (all_scalars cs ≡ true) × IsCount (length (encode_utf8_all cs))

abbrev pub IsHost : Host → Type 0
IsHost (host_kind.U8 n) = n < 2 ^ 8
IsHost (host_kind.U16 n) = n < 2 ^ 16
IsHost (host_kind.U32 n) = n < 2 ^ 32
IsHost (host_kind.U64 n) = n < 2 ^ 64
IsHost (host_kind.U128 n) = n < 2 ^ 128
IsHost (host_kind.I8 n) = FitsSigned w8 n
IsHost (host_kind.I16 n) = FitsSigned w16 n
IsHost (host_kind.I32 n) = FitsSigned w32 n
IsHost (host_kind.I128 n) = FitsSigned w128 n
IsHost (host_kind.ExclusiveRange r) = FitsSigned w64 r.start × FitsSigned w64 r.end
IsHost (host_kind.InclusiveRange r) = FitsSigned w64 r.start × FitsSigned w64 r.end

-- nothing is required of a blob's bytes: they are hashed as they are
abbrev pub IsLeaf : Leaf → Type 0
IsLeaf unit = ⊤
IsLeaf (bool b) = ⊤
IsLeaf (text cs) = IsName cs
IsLeaf (char c) = c < 2 ^ 32
IsLeaf (int n) = FitsSigned w64 n
IsLeaf (blob bs) = IsCount (length bs)
IsLeaf (host h) = IsHost h

abbrev pub IsKind : Kind → Type 0
IsKind array = ⊤
IsKind (function f) = IsName f

abbrev mutual
  pub IsInRange : Plain → Type 0
  IsInRange (plain_leaf l) = IsLeaf l
  IsInRange (plain_branch k ps) = IsKind k × IsCount (how_many ps) × AreInRange ps
  IsInRange (plain_map fs) = IsCount (how_many_fields fs) × FieldsInRange fs

  pub AreInRange : Plains → Type 0
  AreInRange no_plains = ⊤
  AreInRange (plain_then p ps) = IsInRange p × AreInRange ps

  pub FieldsInRange : PlainFields → Type 0
  FieldsInRange no_plain_fields = ⊤
  FieldsInRange (plain_field_then k p fs) = IsName k × IsInRange p × FieldsInRange fs

-- the plain value of a value is in range, if it exists
abbrev pub IsPlainInRange : List Cell → List ℕ → Tree → Type 0
IsPlainInRange s path t = IfSome (plain s path t) IsInRange

-- the same for the value in a row of a map, whose key is the bytes of a name
abbrev pub IsRowInRange : List Cell → List ℕ → List ℕ × Tree → Type 0
IsRowInRange s path r = IsName (chars r.0) × IsPlainInRange s path r.1

-- the hash bytes of a value: those of its plain value, which is in range
abbrev pub IsHashed : List Cell → Tree → List ℕ → Type 0
IsHashed s t bs = (p : Plain) × (plain s [] t ≡ Some p) × IsInRange p × (bs ≡ plain_bytes p)
