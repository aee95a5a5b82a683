-- The state of a value and its store after a mutable borrow from one or the other.
use Rattle.std.specs.Prelude.{◌≡◌, ℕ, List, [], Option, Some, None, slice_get, option_map, option_and_then, is_some, true, IfSome}
use Rattle.std.specs.Borrow.{MutBor, GName, Fml, RattleType, fsep, follows_if}
use mathlib.Core.Option as maybe
use Rattle.rhai_value.specs.declared.cells.store.Cell.{Cell}
use Rattle.rhai_value.specs.contracts.value.dynamic.Dynamic as dynamic
use Rattle.rhai_value.specs.contracts.cells.store.Store as store
use Rattle.rhai_value.specs.Tree.{Tree, cell_of}
use Rattle.rhai_value.specs.Store.{at, put}
use Rattle.rhai_value.specs.End.{end, value_after, store_after, value_with_first, store_with_first}

-- The name of the borrow, if the value itself, which isn't a holder, is its source; and if the store is.
abbrev pub own_lent : Option ℕ → maybe.Option GName → maybe.Option GName
own_lent None n = n
own_lent (Some c) n = maybe.none

abbrev pub far_lent : Option ℕ → maybe.Option GName → maybe.Option GName
far_lent None n = maybe.none
far_lent (Some c) n = n

-- The source of the borrow named n ends as F, or G, of the last value behind the reference, and the
-- other is unchanged; without a name both are unchanged.
abbrev pub LendsFrom : (T : RattleType) → MutBor Tree → MutBor (List Cell) → maybe.Option GName → (T.Denot → Tree) → (T.Denot → List Cell) → Fml
LendsFrom T v s n F G = fsep (follows_if dynamic.the_row T v.ghost_name (own_lent (cell_of v.now) n) F v.now) (follows_if store.the_row T s.ghost_name (far_lent (cell_of v.now) n) G s.now)

-- The held value, or a part of it, is borrowed: value and store end as after f w was applied to the held value.
abbrev pub LendsHeld : (T : RattleType) → MutBor Tree → MutBor (List Cell) → maybe.Option GName → (T.Denot → Tree → Tree) → Fml
LendsHeld T v s n f = LendsFrom T v s n (λ w. value_after (f w) (end s.now [] v.now) v.now) (λ w. store_after (f w) (end s.now [] v.now) s.now)

-- The first content is borrowed.
abbrev pub LendsFirst : MutBor Tree → MutBor (List Cell) → maybe.Option GName → Fml
LendsFirst v s n = LendsFrom dynamic.the_row v s n (λ w. value_with_first w v.now) (λ w. store_with_first w s.now v.now)

-- the reference to a value that isn't a holder
abbrev pub own_at : Option ℕ → MutBor Tree → Option (MutBor Tree)
own_at None v = Some v
own_at (Some c) v = None

abbrev pub own_ref : MutBor Tree → Option (MutBor Tree)
own_ref v = own_at (cell_of v.now) v

abbrev pub either_of : {A : Type 0} → Option A → Option A → Option A
either_of (Some x) o = Some x
either_of None o = o

-- a cell given by a site is in the store and not marked
abbrev pub IsOpen : List Cell → Option ℕ → Type 0
IsOpen s o = IfSome o (λ c. is_some (at s c) ≡ true)

-- the content of a cell, and a store after w was written there
abbrev pub content_in : Option ℕ → List Cell → Option Tree
content_in o s = option_and_then (λ c. option_map (λ x. x.content) (slice_get s c)) o

abbrev pub put_in : Option ℕ → List Cell → Tree → List Cell
put_in None s w = s
put_in (Some c) s w = put s c w

-- a store after f was applied to the content of a cell
abbrev pub edited : ℕ → (Tree → Tree) → Option Tree → List Cell → List Cell
edited c f None s = s
edited c f (Some t) s = put s c (f t)

abbrev pub edit_in : Option ℕ → (Tree → Tree) → List Cell → List Cell
edit_in None f s = s
edit_in (Some c) f s = edited c f (content_in (Some c) s) s
