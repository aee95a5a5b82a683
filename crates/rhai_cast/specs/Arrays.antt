-- The items of an array, or the bytes of a blob, as values of one type.
use Rattle.std.specs.Prelude.{◌≡◌, ℕ, Bool, true, ◌||◌, List, [], ◌∷◌, map, Option, Some, None, option_map, is_some}
use Rattle.rhai_value.specs.declared.value.host.Host.TheVariants as host_kind
use Rattle.rhai_value.specs.declared.value.into.IntoError.{IntoError}
use Rattle.rhai_value.specs.declared.value.into.IntoError.TheVariants.{Mismatch, Memory}
use Rattle.rhai_value.specs.declared.cells.store.Cell.{Cell}
use Rattle.rhai_value.specs.declared.value.type_id.TypeId.{TypeId}
use Rattle.rhai_value.specs.declared.value.type_id.TypeId.TheVariants as id
use Rattle.rhai_value.specs.End.{End, end, held_part, flattened, end_name, array_moved}
use Rattle.rhai_value.specs.Parts.{array_of, blob_of}
use Rattle.rhai_value.specs.Tree.{Tree, Trees, no_trees, tree_then, fresh, host}
use Rattle.rhai_value.specs.Types.{is_host_type, tree_type, type_name}
use Rattle.rhai_variant.specs.Reads.{read}

-- a result with one more item in front, if both exist
abbrev pub with_front : Option Tree → Option (List Tree) → Option (List Tree)
with_front None xs = None
with_front (Some x) xs = option_map (λ ys. x ∷ ys) xs

-- the flat items read as the type, if each can be
abbrev pub read_all : TypeId → List Cell → Trees → Option (List Tree)
read_all k s no_trees = Some []
read_all k s (tree_then t ts) = with_front (read k (flattened s t)) (read_all k s ts)

-- the type of the first item that can't be read, if there is one: for a holder `Shared`
abbrev pub unread_or : Option Tree → Tree → TypeId → TypeId
unread_or None t later = tree_type t
unread_or (Some x) t later = later

abbrev pub first_unread : TypeId → List Cell → Trees → TypeId
first_unread k s no_trees = id.Shared
first_unread k s (tree_then t ts) = unread_or (read k (flattened s t)) t (first_unread k s ts)

-- whether the values of a type are copied bitwise, without an allocation: those of leaves other than texts and blobs
abbrev pub is_plain : TypeId → Bool
is_plain id.Unit = true
is_plain id.Bool = true
is_plain id.Char = true
is_plain id.Int = true
is_plain k = is_host_type k

-- Why not each item is read: one can't be, and the name is that of the first such; or an allocation
-- failed, and there are items.
abbrev pub IsUnread : TypeId → IntoError → List Cell → Trees → Type 0
IsUnread k (Mismatch name) s ts = (read_all k s ts ≡ None) × (name.now ≡ type_name (first_unread k s ts))
IsUnread k (Memory refused) s ts = ¬ ts ≡ no_trees

-- a byte as a value
abbrev pub byte_tree : ℕ → Tree
byte_tree b = fresh (host (host_kind.U8 b))

-- the held bytes, if the type is that of a byte
abbrev pub bytes_at : TypeId → End → Option (List Tree)
bytes_at id.U8 e = option_map (map byte_tree) (held_part blob_of e)
bytes_at k e = None

-- the items of an array, its own or copies of those in a cell, as values of the type; otherwise the bytes
abbrev pub typed_items : TypeId → List Cell → Option Trees → End → Option (List Tree)
typed_items k s (Some ts) e = read_all k s ts
typed_items k s None e = bytes_at k e

abbrev pub typed_array : TypeId → List Cell → Tree → Option (List Tree)
typed_array k s t = typed_items k s (array_moved s t) (end s [] t)

-- the name of what doesn't fit: of the first item that can't be read, or of the held type if that isn't an array
abbrev pub unfit_name : TypeId → List Cell → Option Trees → End → List ℕ
unfit_name k s (Some ts) e = type_name (first_unread k s ts)
unfit_name k s None e = end_name e

-- Why there is no array of values of this type: the items, or the held value, don't fit, and the
-- name is that of what doesn't; or an allocation failed, and there is an array or a blob, but
-- neither an own array without items nor an empty blob.
abbrev pub IsNoArray : TypeId → IntoError → List Cell → Tree → Type 0
IsNoArray k (Mismatch name) s t = (typed_array k s t ≡ None) × (name.now ≡ unfit_name k s (array_moved s t) (end s [] t))
IsNoArray k (Memory refused) s t =
    (is_some (array_moved s t) || is_some (bytes_at k (end s [] t)) ≡ true) × ¬ array_of t ≡ Some no_trees × ¬ bytes_at k (end s [] t) ≡ Some []
