-- Casts of a value in a store to a Rust type, in terms of reading that value as the type.
use Rattle.std.specs.Prelude.{◌≡◌, ℕ, Bool, true, List, [], Option, Some, None, option_and_then, is_some, if◌then◌else◌}
use Rattle.std.specs.Borrow.{MutBor, GName, Fml, RattleType}
use mathlib.Core.Option as maybe
use Rattle.rhai_value.specs.declared.parts.in_store.InStore.{InStore}
use Rattle.rhai_value.specs.declared.cells.store.Cell.{Cell}
use Rattle.rhai_value.specs.declared.value.type_id.TypeId.{TypeId}
use Rattle.rhai_value.specs.declared.value.type_id.TypeId.TheVariants as id
use Rattle.rhai_value.specs.End.{End, end, held_in, held_cell, first, first_cell, flattened, end_type}
use Rattle.rhai_value.specs.Lent.{LendsFrom}
use Rattle.rhai_value.specs.Tree.{Tree, node, holder, TakesNoMemory, cell_of}
use Rattle.rhai_value.specs.Types.{is_type}
use Rattle.rhai_value.specs.Writes.{written, first_written}
use Rattle.rhai_variant.specs.declared.cast_error.CastError.{CastError}
use Rattle.rhai_variant.specs.declared.cast_error.CastError.TheVariants.{Mismatch, Memory}
use Rattle.rhai_variant.specs.Reads.{held_type, read, viewed, written_as}

-- Whether a value with this end is of this type: one that isn't a holder by its constructor, so
-- that a text is also a `String`; a holder by the exact held type.
abbrev pub is_of : TypeId → Tree → End → Bool
is_of k t e = is_type (if is_some (cell_of t) then k else held_type k) (end_type e)

-- whether a value with this end can be cast: to `Dynamic` any value, otherwise one that holds the
-- type, a text for `String`
abbrev pub is_castable : TypeId → End → Bool
is_castable id.Dynamic e = true
is_castable k e = is_type (held_type k) (end_type e)

-- the result of such a cast: for `Dynamic` the value itself, otherwise the flattened value read as the type
abbrev pub cast_whole : TypeId → List Cell → Tree → Option Tree
cast_whole id.Dynamic s t = Some t
cast_whole k s t = read k (flattened s t)

-- Why a value isn't cast by move: the flattened value, which the error has, can't be read as the
-- type; or an allocation failed, and the error has the original value. An allocation is needed for
-- a `String` read from a text, and for a copy out of a cell.
abbrev pub IsNotCast : TypeId → CastError → List Cell → Tree → Type 0
IsNotCast k (Mismatch d) s t = (d ≡ flattened s t) × (read k (flattened s t) ≡ None)
IsNotCast k (Memory d) s t = (d ≡ t) × (cell_of t ≡ None → is_type k id.String ≡ true) × (TakesNoMemory (flattened s t) → is_type k id.String ≡ true) × (cell_of t ≡ None → is_some (read k t) ≡ true)

-- the borrowed value: for `Dynamic` the first content, otherwise the held value read as the type
abbrev pub locked : TypeId → List Cell → Tree → Option Tree
locked id.Dynamic s t = first s t
locked k s t = option_and_then (viewed k) (held_in (end s [] t))

-- a value in its store after w was written through the mutable borrow
abbrev pub lock_written : TypeId → InStore → Tree → InStore
lock_written id.Dynamic h w = first_written h w
lock_written k h w = written h (written_as k w)

-- the value and its store are separate sources of the borrow named n: both end as the last value
-- behind the reference determines, and unchanged if there is no name
abbrev pub LendsLock : (T : RattleType) → TypeId → (T.Denot → Tree) → MutBor Tree → MutBor (List Cell) → maybe.Option GName → Fml
LendsLock T k tree v s n = LendsFrom T v s n (λ w. (lock_written k (record { value = v; store = s }) (tree w)).value.now) (λ w. (lock_written k (record { value = v; store = s }) (tree w)).store.now)

-- the cell of the borrowed value: for `Dynamic` that of the first content, otherwise that of the held value
abbrev pub lock_cell : TypeId → List Cell → Tree → Option ℕ
lock_cell id.Dynamic s t = first_cell s t
lock_cell k s t = held_cell (end s [] t)

-- the value's own content as the type, if it isn't a holder
abbrev pub own_viewed : TypeId → Tree → Option Tree
own_viewed k (node (holder c) g m) = None
own_viewed k t = viewed k t
