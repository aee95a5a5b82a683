-- The items of a scope's iterators.
use Rattle.std.specs.Prelude.{◌≡◌, ℕ, Bool, List, [], ◌∷◌, map, reverse, Option, MatchOption, IfOk, IsOk}
use Rattle.std.specs.Borrow.{Bor}
use Rattle.std.specs.Str.{chars}
use Rattle.std.specs.declared.alloc.AllocError.{AllocError}
use Rattle.std.specs.declared.result.Result.{Result}
use Rattle.smallvec.specs.SmallVec.{SmallVec}
use Rattle.rhai_value.specs.declared.cells.store.Cell.{Cell}
use Rattle.rhai_value.specs.Tree.{Tree, TakesNoMemory}
use Rattle.rhai_value.specs.End.{first, flat, constant_in}
use Rattle.rhai_scope.specs.Entry.{Entry}
use Rattle.rhai_scope.specs.declared.iter.Iter.{Iter}
use Rattle.rhai_scope.specs.declared.iter.IterRaw.{IterRaw}

-- the entry moved out
abbrev pub moved_entry : List ℕ × Tree × SmallVec (List ℕ) → Entry
moved_entry p = record { name = p.0; value = p.1; aliases = p.2.items }

-- the borrowed entry
abbrev pub lent_entry : Bor (List ℕ) × Bor Tree × Bor (List (List ℕ)) → Entry
lent_entry p = record { name = chars p.0.now; value = p.1.now; aliases = p.2.now }

-- a name, whether it is a constant, and a value
abbrev pub Named : Type 0
Named = List ℕ × Bool × Tree

-- an entry, where a holder is a constant if its cell's content is; the value itself, or flat
abbrev pub shown_raw : List Cell → Entry → Named
shown_raw s e = (e.name, constant_in (first s e.value), e.value)

abbrev pub shown_flat : List Cell → Entry → Named
shown_flat s e = (e.name, constant_in (first s e.value), flat s e.value)

-- the flat values of all entries, in order
abbrev pub flat_values : List Cell → List Entry → List Tree
flat_values s es = map (λ e. flat s e.value) es

-- the item
abbrev pub given_raw : Bor (List ℕ) × Bool × Bor Tree → Named
given_raw p = (chars p.0.now, p.1, p.2.now)

abbrev pub given_flat : Bor (List ℕ) × Bool × Tree → Named
given_flat p = (chars p.0.now, p.1, p.2)

-- the remaining items: from the first entry to the last, and from the last to the first
abbrev pub flat_left : Iter → List Named
flat_left it = map (shown_flat it.store.now) it.rest

abbrev pub raw_left : IterRaw → List Named
raw_left it = map (shown_raw it.store.now) (reverse it.rest)

-- A call returned the first of the remaining items, unless an allocation failed, which it can't for
-- a value whose copy needs none, and left the others; or nothing remained.
abbrev pub GivesFlat : Iter → Option (Result (Bor (List ℕ) × Bool × Tree) AllocError) → Iter → Type 0
GivesFlat s r t = MatchOption r ((flat_left s ≡ []) × (flat_left t ≡ [])) (λ x. (y : Named) × (flat_left s ≡ y ∷ flat_left t) × IfOk x (λ p. given_flat p ≡ y) × (TakesNoMemory y.2 → IsOk x))
