-- Steps down into a value: an item of an array, the value of a map's key; the value there, and the
-- whole after a write there.
use Rattle.std.specs.Prelude.{ℕ, suc, ℤ, pos, negsuc, ◌-◌, nat_lt, List, length, slice_index_or, slice_set, Option, Some, None, Result, Ok, Err, if◌then◌else◌}
use Rattle.std.specs.Str.{bytes_eq, chars}
use Rattle.rhai_value.specs.declared.places.step.Step.{Step}
use Rattle.rhai_value.specs.declared.places.step.Step.TheVariants.{Index, Key}
use Rattle.rhai_value.specs.declared.places.step.PlaceErrorKind.{PlaceErrorKind}
use Rattle.rhai_value.specs.declared.places.step.PlaceErrorKind.TheVariants.{OtherType, NoItem, NoKey}
use Rattle.rhai_value.specs.declared.value.type_id.TypeId.{TypeId}
use Rattle.rhai_value.specs.Tree.{Tree, fields, fresh, unit, Fields, no_fields, field_then}
use Rattle.rhai_value.specs.Items.{field_at, items_of, with_items}
use Rattle.rhai_value.specs.Parts.{map_of, with_content}
use Rattle.rhai_value.specs.Types.{tree_type}

-- the place of an item in a list of this length, if there is one; a negative index counts from the end
abbrev pub item_place : ℕ → ℤ → Option ℕ
item_place length (pos i) = if nat_lt i length then Some i else None
item_place length (negsuc i) = if nat_lt i length then Some (length - suc i) else None

-- the item at an index, or the error that the list has none
abbrev pub placed_item : List Tree → Option ℕ → Result Tree PlaceErrorKind
placed_item xs None = Err (NoItem (length xs))
placed_item xs (Some k) = Ok (slice_index_or xs k (fresh unit))

-- the item of an array; for another type the error with that type
abbrev pub indexed : ℤ → TypeId → Option (List Tree) → Result Tree PlaceErrorKind
indexed i other None = Err (OtherType other)
indexed i other (Some xs) = placed_item xs (item_place (length xs) i)

-- the value at a key
abbrev pub keyed_value : Option Tree → Result Tree PlaceErrorKind
keyed_value None = Err NoKey
keyed_value (Some t) = Ok t

-- the value of a map at a key, given as characters; for another type the error with that type
abbrev pub keyed : List ℕ → TypeId → Option Fields → Result Tree PlaceErrorKind
keyed k other None = Err (OtherType other)
keyed k other (Some fs) = keyed_value (field_at k fs)

-- the value one step down
abbrev pub item_at : Step → Tree → Result Tree PlaceErrorKind
item_at (Index i) t = indexed i (tree_type t) (items_of t)
item_at (Key k) t = keyed (chars k.now) (tree_type t) (map_of t)

-- the list with w at an index, if that is within it
abbrev pub with_placed : List Tree → Option ℕ → Tree → List Tree
with_placed xs None w = xs
with_placed xs (Some k) w = slice_set xs k w

-- the fields with w as the value of an existing key; both keys are characters
abbrev pub with_field : List ℕ → Tree → Fields → Fields
with_field k w no_fields = no_fields
with_field k w (field_then j t fs) = if bytes_eq k j then field_then j w fs else field_then j t (with_field k w fs)

-- the value t with that item replaced by w
abbrev pub with_indexed : ℤ → Tree → Tree → Option (List Tree) → Tree
with_indexed i w t None = t
with_indexed i w t (Some xs) = with_items (with_placed xs (item_place (length xs) i) w) t

-- the value t with w at that key
abbrev pub with_keyed : List ℕ → Tree → Tree → Option Fields → Tree
with_keyed k w t None = t
with_keyed k w t (Some fs) = with_content (fields (with_field k w fs)) t

-- the value with w one step down; everything else is unchanged
abbrev pub with_item : Step → Tree → Tree → Tree
with_item (Index i) t w = with_indexed i w t (items_of t)
with_item (Key k) t w = with_keyed (chars k.now) w t (map_of t)
