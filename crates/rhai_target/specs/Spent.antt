-- The value behind the reference in a consumed target.
use Rattle.std.specs.Prelude.{Option, Some, None, Result, Ok, Err}
use Rattle.std.specs.Borrow.{MutBor, Fml, ftrue, follows_if}
use Rattle.std.specs.Option.{ghost_name_of}
use Rattle.rhai_value.specs.contracts.value.dynamic.Dynamic as dynamic
use Rattle.rhai_value.specs.Tree.{Tree}
use Rattle.rhai_target.specs.declared.target.Target.{Target}
use Rattle.rhai_target.specs.declared.target.Target.TheVariants.{RefMut, SharedValue, TempValue, Bit, BitField, BlobByte, StringChar, StringSlice}

-- the reference in a target: to the value that it refers to, or to the source of its part
abbrev pub source_of : Target → Option (MutBor Tree)
source_of (RefMut r) = Some r
source_of (SharedValue c v) = None
source_of (TempValue v) = None
source_of (Bit r v place) = Some r
source_of (BitField r v mask shift) = Some r
source_of (BlobByte r v index) = Some r
source_of (StringChar r v index) = Some r
source_of (StringSlice r v start end exclusive) = Some r

-- The value behind a reference ends as that behind the returned one; if none is returned, it ends unchanged.
abbrev pub Leaves : Option (MutBor Tree) → Option (MutBor Tree) → Fml
Leaves None kept = ftrue
Leaves (Some r) kept = follows_if dynamic.the_row dynamic.the_row r.ghost_name (ghost_name_of kept) (λ w. w) r.now

abbrev pub LeavesSource : Target → Option (MutBor Tree) → Fml
LeavesSource t kept = Leaves (source_of t) kept

-- the reference in the returned target, where one is returned only after an `Err`
abbrev pub kept_on_err : {A : Type 0} → Result A Target → Option (MutBor Tree)
kept_on_err (Ok x) = None
kept_on_err (Err t) = source_of t

-- the same where a target is always returned
abbrev pub kept_in : Result Target Target → Option (MutBor Tree)
kept_in (Ok t) = source_of t
kept_in (Err t) = source_of t

-- the released reference: the one of the two that isn't returned
abbrev pub let_go : Option (MutBor Tree) → Option (MutBor Tree) → Option (MutBor Tree)
let_go o None = o
let_go o (Some r) = None
