-- The state after a part of a value was written through a reference.
use Rattle.std.specs.Prelude.{[]}
use mir.Syntax.{named}
use denote.RattleType.{RattleType}
use Rattle.std.specs.Borrow.{u8}
use Rattle.rhai_value.specs.Tree.{Tree}
use Rattle.rhai_value.specs.End.{End, end, value_after, store_after, value_with_first, store_with_first}
use Rattle.rhai_value.specs.contracts.value.dynamic.Dynamic as dynamic
use Rattle.rhai_value.specs.contracts.parts.in_store.InStore as in_store
use Rattle.std.specs.contracts.alloc.Global as global
use Rattle.std.specs.contracts.vec.Vec as vec
use Rattle.std.specs.contracts.impls.GlobalAllocator.TheImpl.{ghosts}
use Rattle.rhai_value.specs.declared.parts.in_store.InStore.{InStore}

-- a value in its store, after f is applied to the held value
abbrev pub written_at : End → InStore → (Tree → Tree) → InStore
written_at e h f = record { value = record (h.value) { now = value_after f e h.value.now }; store = record (h.store) { now = store_after f e h.store.now } }

abbrev pub written : InStore → (Tree → Tree) → InStore
written h f = written_at (end h.store.now [] h.value.now) h f

-- the same after w is written over the first content
abbrev pub first_written : InStore → Tree → InStore
first_written h w = record { value = record (h.value) { now = value_with_first w h.value.now }; store = record (h.store) { now = store_with_first w h.store.now h.value.now } }

-- the type, at the second lifetime of a method's signature
abbrev pub in_store_row : RattleType
in_store_row = in_store.the_row (record { mir = named 1; lft = [] })

-- the types of an array's items and of a blob's bytes
abbrev pub blob_row : RattleType
blob_row = vec.the_row u8 global.the_row ghosts

abbrev pub array_row : RattleType
array_row = vec.the_row dynamic.the_row global.the_row ghosts
