-- Entries that are equal up to a renaming of cells.
use Rattle.std.specs.Prelude.{◌≡◌, ℕ, Bool, List}
use Rattle.std.specs.List.{AllZip}
use Rattle.rhai_value.specs.Relation.{Renaming, Related}
use Rattle.rhai_value.specs.Tree.{Tree}
use Rattle.rhai_scope.specs.Entry.{Entry}

-- the same name and aliases, and related values
abbrev pub RelatedEntry : Renaming → Entry → Entry → Type 0
RelatedEntry r e f = (e.name ≡ f.name) × (e.aliases ≡ f.aliases) × Related r e.value f.value

-- item by item
abbrev pub RelatedEntries : Renaming → List Entry → List Entry → Type 0
RelatedEntries r = AllZip (RelatedEntry r)

-- f and g map related entries to related entries
abbrev pub RespectEntries : Renaming → (Entry → Entry) → (Entry → Entry) → Type 0
RespectEntries r f g = (e h : Entry) → RelatedEntry r e h → RelatedEntry r (f e) (g h)

-- the same name and related values, and the same for triples with a flag
abbrev pub RelatedPair : Renaming → List ℕ × Tree → List ℕ × Tree → Type 0
RelatedPair r x y = (x.0 ≡ y.0) × Related r x.1 y.1

abbrev pub RelatedNamed : Renaming → List ℕ × Bool × Tree → List ℕ × Bool × Tree → Type 0
RelatedNamed r x y = (x.0 ≡ y.0) × (x.1 ≡ y.1) × Related r x.2 y.2
