-- The state after the value in a slot was written through a reference.
use Rattle.std.specs.Prelude.{[]}
use Rattle.std.specs.Vec.{with_item}
use mir.Syntax.{named}
use denote.RattleType.{RattleType}
use Rattle.rhai_value.specs.Tree.{Tree}
use Rattle.rhai_scope.specs.Entry.{with_value as holding}
use Rattle.rhai_scope.specs.Lookup.{changed_at}
use Rattle.rhai_run.specs.contracts.slots.Slots as places
use Rattle.rhai_run.specs.declared.slots.Slots.{Slots}
use Rattle.rhai_run.specs.declared.slot.Slot.{Slot}
use Rattle.rhai_run.specs.declared.slot.Slot.TheVariants as slot

-- hand and scope after a value was written there
abbrev pub placed_in : Slots → Slot → Tree → Slots
placed_in h (slot.Hand i) t = record { hand = record (h.hand) { now = with_item h.hand.now i t }; scope = h.scope }
placed_in h (slot.Entry k) t = record { hand = h.hand; scope = record (h.scope) { now = changed_at (holding t) h.scope.now k } }

-- the type, at the second lifetime of a method's signature
abbrev pub places_row : RattleType
places_row = places.the_row (record { mir = named 1; lft = [] })
