-- The types of values, and their names.
use Rattle.std.specs.Prelude.{ℕ, Bool, true, false, List, Option, Some, None, codes, if◌then◌else◌}
use denote.Enum.Bare.{sameb}
use Rattle.rhai_value.specs.contracts.value.type_id.TypeId as type_id
use Rattle.rhai_value.specs.declared.value.host.Host.{Host}
use Rattle.rhai_value.specs.declared.value.host.Host.TheVariants as host_kind
use Rattle.rhai_value.specs.declared.value.type_id.TypeId.{TypeId}
use Rattle.rhai_value.specs.declared.value.type_id.TypeId.TheVariants as id
use Rattle.rhai_value.specs.Tree.{Tree, node, Content, content_of, leaf, branch, holder, Leaf, unit, bool, int, char, text, blob, host, Kind, array, fields, function}

abbrev pub host_type : Host → TypeId
host_type (host_kind.U8 n) = id.U8
host_type (host_kind.U16 n) = id.U16
host_type (host_kind.U32 n) = id.U32
host_type (host_kind.U64 n) = id.U64
host_type (host_kind.U128 n) = id.U128
host_type (host_kind.I8 n) = id.I8
host_type (host_kind.I16 n) = id.I16
host_type (host_kind.I32 n) = id.I32
host_type (host_kind.I128 n) = id.I128
host_type (host_kind.ExclusiveRange r) = id.ExclusiveRange
host_type (host_kind.InclusiveRange r) = id.InclusiveRange

abbrev pub leaf_type : Leaf → TypeId
leaf_type unit = id.Unit
leaf_type (bool b) = id.Bool
leaf_type (int n) = id.Int
leaf_type (char c) = id.Char
leaf_type (text s) = id.ImmutableString
leaf_type (blob bs) = id.Blob
leaf_type (host h) = host_type h

abbrev pub kind_type : Kind → TypeId
kind_type array = id.Array
kind_type (function f) = id.FnPtr

abbrev pub content_type : Content → TypeId
content_type (leaf l) = leaf_type l
content_type (branch k ts) = kind_type k
content_type (fields fs) = id.Map
content_type (holder c) = id.Shared

abbrev pub tree_type : Tree → TypeId
tree_type (node c g m) = content_type c

abbrev pub type_name : TypeId → List ℕ
type_name id.Unit = codes "()"
type_name id.Bool = codes "bool"
type_name id.Char = codes "char"
type_name id.Int = codes "i64"
type_name id.U8 = codes "u8"
type_name id.U16 = codes "u16"
type_name id.U32 = codes "u32"
type_name id.U64 = codes "u64"
type_name id.U128 = codes "u128"
type_name id.I8 = codes "i8"
type_name id.I16 = codes "i16"
type_name id.I32 = codes "i32"
type_name id.I128 = codes "i128"
type_name id.String = codes "string"
type_name id.ImmutableString = codes "string"
type_name id.Array = codes "array"
type_name id.Blob = codes "blob"
type_name id.Map = codes "map"
type_name id.FnPtr = codes "Fn"
type_name id.ExclusiveRange = codes "core::ops::range::Range<i64>"
type_name id.InclusiveRange = codes "core::ops::range::RangeInclusive<i64>"
type_name id.Dynamic = codes "Dynamic"
type_name id.Shared = codes "<shared>"

-- whether two types are the same
abbrev pub is_type : TypeId → TypeId → Bool
is_type a b = sameb type_id.the_type a b

-- whether a type has a constructor: not `String`, `Dynamic` or `Shared`
abbrev pub is_content_type : TypeId → Bool
is_content_type id.String = false
is_content_type id.Dynamic = false
is_content_type id.Shared = false
is_content_type _ = true

-- whether a type is one of the host's
abbrev pub is_host_type : TypeId → Bool
is_host_type id.U8 = true
is_host_type id.U16 = true
is_host_type id.U32 = true
is_host_type id.U64 = true
is_host_type id.U128 = true
is_host_type id.I8 = true
is_host_type id.I16 = true
is_host_type id.I32 = true
is_host_type id.I128 = true
is_host_type id.ExclusiveRange = true
is_host_type id.InclusiveRange = true
is_host_type _ = false

-- the content of a value, if it is of this type
abbrev pub typed_content : TypeId → Tree → Option Content
typed_content k t = if is_type k (tree_type t) then Some (content_of t) else None

-- the host value, if it is of this type
abbrev pub host_at : TypeId → Host → Option Host
host_at k h = if is_type k (host_type h) then Some h else None
