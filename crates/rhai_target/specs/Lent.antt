-- The state of a target and the store after a mutable borrow from one or the other.
use Rattle.std.specs.Prelude.{ℕ, List, [], Option, Some, None, option_and_then}
use Rattle.std.specs.Borrow.{MutBor, GName, Fml, RattleType, fsep, follows_if}
use mathlib.Core.Option as maybe
use mir.Syntax.{named}
use Rattle.rhai_value.specs.declared.cells.store.Cell.{Cell}
use Rattle.rhai_value.specs.contracts.value.dynamic.Dynamic as dynamic
use Rattle.rhai_value.specs.contracts.cells.store.Store as store
use Rattle.rhai_value.specs.Tree.{Tree}
use Rattle.rhai_value.specs.Store.{content_at}
use Rattle.rhai_target.specs.contracts.target.Target as target
use Rattle.rhai_target.specs.declared.target.Target.{Target}
use Rattle.rhai_target.specs.declared.target.Target.TheVariants.{RefMut, SharedValue, TempValue, Bit, BitField, BlobByte, StringChar, StringSlice}
use Rattle.rhai_target.specs.Target.{mark_in, with_value, put_marked}

-- the type, at the second lifetime of a method's signature
abbrev pub target_row : RattleType
target_row = target.the_row (record { mir = named 1; lft = [] })

-- The name of the borrow, if the target itself, which has no mark, is its source; and if the store is.
abbrev pub own_name : Option ℕ → GName → maybe.Option GName
own_name None n = maybe.some n
own_name (Some c) n = maybe.none

abbrev pub far_name : Option ℕ → GName → maybe.Option GName
far_name None n = maybe.none
far_name (Some c) n = maybe.some n

-- The source of the borrow named n ends as the last value behind the reference determines, and the other is unchanged.
abbrev pub LendsTarget : MutBor Target → MutBor (List Cell) → GName → Fml
LendsTarget t s n = fsep (follows_if target_row dynamic.the_row t.ghost_name (own_name (mark_in t.now) n) (λ w. with_value w t.now) t.now)
    (follows_if store.the_row dynamic.the_row s.ghost_name (far_name (mark_in t.now) n) (λ w. put_marked (mark_in t.now) w s.now) s.now)

-- the target's own working value, and the content of the cell that it has marked
abbrev pub own_value : Target → Option Tree
own_value (RefMut r) = Some r.now
own_value (SharedValue c v) = None
own_value (TempValue v) = Some v
own_value (Bit r v place) = Some v
own_value (BitField r v mask shift) = Some v
own_value (BlobByte r v index) = Some v
own_value (StringChar r v index) = Some v
own_value (StringSlice r v start end exclusive) = Some v

abbrev pub marked_value : Option ℕ → List Cell → Option Tree
marked_value o s = option_and_then (λ c. content_at s c) o

abbrev pub either_of : {A : Type 0} → Option A → Option A → Option A
either_of (Some x) o = Some x
either_of None o = o
