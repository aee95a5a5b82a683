-- The names that a host has passed, and places.
use Rattle.std.specs.Prelude.{ℕ, List, Option, Some, Bool, true, false, option_map}
use Rattle.slab.specs.Slab.{Slab, get}
use Rattle.rhai_host.specs.declared.handle.kept.Kept.{Kept}
use Rattle.rhai_run.specs.declared.command.Place.{Place}
use Rattle.rhai_run.specs.declared.command.Place.TheVariants as place

-- the name of a number, as its characters
abbrev pub name_at : Kept → ℕ → Option (List ℕ)
name_at k number = get k.names number

-- a place: a position in the hand, or the entry of the name of a number
abbrev pub place_in : Slab (List ℕ) → Bool → ℕ → Option Place
place_in names false at = Some (place.Hand at)
place_in names true at = option_map (λ name. place.Entry name) (get names at)

abbrev pub place_at : Kept → Bool → ℕ → Option Place
place_at k is_entry at = place_in k.names is_entry at
