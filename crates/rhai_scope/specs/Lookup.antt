-- Names in a scope: an entry hides earlier ones of its name.
use Rattle.std.specs.Prelude.{◌≡◌, ℕ, suc, nat_eq, Bool, if◌then◌else◌, List, [], ◌∷◌, ◌++◌, drop, slice_get, Option, Some, None, MatchOption, option_map, option_and_then}
use Rattle.std.specs.Cmp.Lexicographic.{pointwise}
use Rattle.rhai_value.specs.Tree.{Tree}
use Rattle.rhai_scope.specs.Entry.{Entry, is_constant_entry, with_value}
pub use Rattle.rhai_value.specs.Store.{changed_at}

-- the position of the last entry of a name, given that in the later entries, counted from the first entry
abbrev pub later_or_here : Option ℕ → Bool → Option ℕ
later_or_here (Some k) here = Some (suc k)
later_or_here None here = if here then Some 0 else None

-- the greatest position of the name
abbrev pub last_position : List ℕ → List Entry → Option ℕ
last_position name [] = None
last_position name (e ∷ es) = later_or_here (last_position name es) (pointwise nat_eq e.name name)

-- the position of the last entry of the name, ignoring the first n; none if no other one has the name
abbrev pub IsLastBehind : ℕ → List ℕ → List Entry → Option ℕ → Type 0
IsLastBehind n name es o = MatchOption o (last_position name (drop n es) ≡ None) (λ i. last_position name es ≡ Some i)

-- the last entry of the name
abbrev pub last_entry : List ℕ → List Entry → Option Entry
last_entry name es = option_and_then (slice_get es) (last_position name es)

-- its value
abbrev pub value_named : List ℕ → List Entry → Option Tree
value_named name es = option_map (λ e. e.value) (last_entry name es)

-- its aliases
abbrev pub aliases_named : List ℕ → List Entry → Option (List (List ℕ))
aliases_named name es = option_map (λ e. e.aliases) (last_entry name es)

-- the position, unless that entry's own value is a constant
abbrev pub unless_constant : ℕ → Entry → Option ℕ
unless_constant k e = if is_constant_entry e then None else Some k

abbrev pub writable_position : List ℕ → List Entry → Option ℕ
writable_position name es = option_and_then (λ k. option_and_then (unless_constant k) (slice_get es k)) (last_position name es)

-- the value at a position, if there is one
abbrev pub value_at : List Entry → Option ℕ → Option Tree
value_at es o = option_map (λ e. e.value) (option_and_then (slice_get es) o)

-- the entries with the one at a position changed, if there is one
abbrev pub changed_if : (Entry → Entry) → List Entry → Option ℕ → List Entry
changed_if f es None = es
changed_if f es (Some i) = changed_at f es i

-- the entries with the last one of the name changed, if there is one
abbrev pub changed_named : (Entry → Entry) → List ℕ → List Entry → List Entry
changed_named f name es = changed_if f es (last_position name es)

-- the entries with another value at a position, if there is one
abbrev pub with_value_at : List Entry → Option ℕ → Tree → List Entry
with_value_at es o t = changed_if (with_value t) es o

-- an entry, unless there is a later one of its name
abbrev pub unless_later : Option ℕ → Entry → List Entry
unless_later None e = e ∷ []
unless_later (Some k) e = []

-- the last entry of each name, the newest first
abbrev pub visible : List Entry → List Entry
visible [] = []
visible (e ∷ es) = visible es ++ unless_later (last_position e.name es) e
