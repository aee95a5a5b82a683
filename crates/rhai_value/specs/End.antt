-- Where a chain of holders ends, and the first content of a value; the held value, the state after
-- a write there, flat values, and parts moved out.
use Rattle.std.specs.Prelude.{ℕ, List, Option, Some, None, option_and_then, slice_get, Bool, false, option_map, ◌<◌, true, length, [], unwrap_or, ◌≡◌, is_some}
use Rattle.rhai_value.specs.declared.cells.chain.Site.{Site}
use Rattle.rhai_value.specs.declared.cells.chain.Site.TheVariants.{Here, InCell}
use Rattle.rhai_value.specs.declared.cells.store.Cell.{Cell}
use Rattle.rhai_value.specs.Tree.{Tree, node, holder, mode_of, is_constant, copy, Trees, copy_trees}
use Rattle.rhai_value.specs.Store.{put, at}
use Rattle.rhai_value.specs.Types.{tree_type, type_name}
use Rattle.rhai_value.specs.Walk.{Visit, entered, barred, revisited, walk}
use Rattle.std.specs.Option.{option_or, option_map_or}
use Rattle.rhai_value.specs.declared.value.into.IntoError.{IntoError}
use Rattle.rhai_value.specs.declared.value.into.IntoError.TheVariants.{Mismatch, Memory}
use Rattle.rhai_value.specs.Parts.{array_of}
use Rattle.rhai_value.specs.declared.value.type_id.TypeId.{TypeId}
use Rattle.rhai_value.specs.declared.value.type_id.TypeId.TheVariants as id

-- A value that isn't a holder is held: it is the chain's first value, or in the cell visited last.
-- A holder is stuck if its cell is marked or not in the store. The chain closes if a cell occurs a
-- second time.
pub data End : Type 0 where
  held : Site → Tree → End
  stuck : Tree → End
  closed : End

-- the end at a holder
abbrev pub end_at : Tree → Visit End → End
end_at t (entered e) = e
end_at t barred = stuck t
end_at t revisited = closed

-- the end from a value at this site, given where each holder's cell leads
abbrev pub end_from : Site → (ℕ → Visit End) → Tree → End
end_from site go (node (holder c) g m) = end_at (node (holder c) g m) (go c)
end_from site go t = held site t

-- the site in a chain that visited this cell last, if any
abbrev pub site_after : Option ℕ → Site
site_after None = Here
site_after (Some c) = InCell c

-- the same on a walk, with the cell visited last first
abbrev pub end_of : List ℕ → (ℕ → Visit End) → Tree → End
end_of path go t = end_from (site_after (slice_get path 0)) go t

-- the end of the chain from a value, with these cells visited
unfoldable pub end : List Cell → List ℕ → Tree → End
end s path t = walk end_of s path t

-- the held value
abbrev pub held_in : End → Option Tree
held_in (held site t) = Some t
held_in (stuck t) = None
held_in closed = None

-- its site, if there is one
abbrev pub site_of : End → Option Site
site_of (held site t) = Some site
site_of (stuck t) = None
site_of closed = None

-- the part of the held value
abbrev pub held_part : {A : Type 0} → (Tree → Option A) → End → Option A
held_part part e = option_and_then part (held_in e)

-- a value, and a store, after f was applied to the held value at the end of the value's chain
abbrev pub value_after : (Tree → Tree) → End → Tree → Tree
value_after f (held Here v) t = f v
value_after f (held (InCell c) v) t = t
value_after f (stuck v) t = t
value_after f closed t = t

abbrev pub store_after : (Tree → Tree) → End → List Cell → List Cell
store_after f (held Here v) s = s
store_after f (held (InCell c) v) s = put s c (f v)
store_after f (stuck v) s = s
store_after f closed s = s

-- the type of an optional value; `Shared` if there is none
abbrev pub type_of : Option Tree → TypeId
type_of o = option_map_or tree_type o id.Shared

-- the held type
abbrev pub end_type : End → TypeId
end_type e = type_of (held_in e)

-- the name of the held type
abbrev pub end_name : End → List ℕ
end_name e = type_name (end_type e)

-- the value itself if it isn't a holder; for a holder the content of its cell, if that is an unmarked cell of the store
abbrev pub first : List Cell → Tree → Option Tree
first s (node (holder c) g m) = at s c
first s t = Some t

-- its site, if there is one
abbrev pub first_site : List Cell → Tree → Option Site
first_site s (node (holder c) g m) = option_map (λ x. InCell c) (at s c)
first_site s t = Some Here

-- a value, and a store, after w was written over the first content
abbrev pub value_with_first : Tree → Tree → Tree
value_with_first w (node (holder c) g m) = node (holder c) g m
value_with_first w t = w

abbrev pub store_with_first : Tree → List Cell → Tree → List Cell
store_with_first w s (node (holder c) g m) = put s c w
store_with_first w s t = s

-- whether the first content is a constant
abbrev pub constant_in : Option Tree → Bool
constant_in o = option_map_or (λ t. is_constant (mode_of t)) o false

-- the cell of a site, if it is in a cell
abbrev pub site_cell : Option Site → Option ℕ
site_cell None = None
site_cell (Some Here) = None
site_cell (Some (InCell c)) = Some c

-- the cell of a value's first content: that of a holder, if it is an unmarked cell of the store
abbrev pub first_cell : List Cell → Tree → Option ℕ
first_cell s t = site_cell (first_site s t)

-- the cell of a held value
abbrev pub held_cell : End → Option ℕ
held_cell e = site_cell (site_of e)

-- a site in a cell is in a cell of the store
abbrev pub IsWithin : List Cell → Option Site → Type 0
IsWithin s None = Unit {0}
IsWithin s (Some Here) = Unit {0}
IsWithin s (Some (InCell c)) = c < length s

-- the value at an end that isn't closed
abbrev pub value_ahead : End → Option Tree
value_ahead (held site v) = Some v
value_ahead (stuck v) = Some v
value_ahead closed = None

-- the copy of the held value, of the holder at which the chain is stuck, or of the value itself if it closes
abbrev pub flat : List Cell → Tree → Tree
flat s t = copy (unwrap_or (value_ahead (end s [] t)) t)

-- The flattened form of a holder, given its cell's content, its chain's end, and itself: itself,
-- modes kept, if the cell is marked or not in the store, or the chain closes; otherwise the copy of
-- the value at the end.
abbrev pub flattened_holder : Option Tree → End → Tree → Tree
flattened_holder None e t = t
flattened_holder (Some x) (held site v) t = copy v
flattened_holder (Some x) (stuck v) t = copy v
flattened_holder (Some x) closed t = t

-- the same for any value; one that isn't a holder is unchanged
abbrev pub flattened : List Cell → Tree → Tree
flattened s (node (holder c) g m) = flattened_holder (at s c) (end s [] (node (holder c) g m)) (node (holder c) g m)
flattened s t = t

-- the own items of an array, or otherwise copies of the held items
abbrev pub array_moved : List Cell → Tree → Option Trees
array_moved s t = option_or (array_of t) (option_map copy_trees (held_part array_of (end s [] t)))

-- why a part isn't moved out: it isn't held, and the name is that of the held type; or it is held,
-- and an allocation failed
abbrev pub IsWhyNot : {A : Type 0} → IntoError → (Tree → Option A) → End → Type 0
IsWhyNot (Mismatch name) part e = (held_part part e ≡ None) × (name.now ≡ end_name e)
IsWhyNot (Memory refused) part e = is_some (held_part part e) ≡ true
