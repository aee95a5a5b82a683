-- The places of each name.
use Rattle.std.specs.Prelude.{◌≡◌, ℕ, ◌-◌, nat_eq, nat_lt, Bool, false, not, if◌then◌else◌, List, [], ◌∷◌, ◌++◌, length, take, map, slice_get, option_and_then, Option, Some, None}
use Rattle.std.specs.BTreeMap.{get_by_text}
use Rattle.std.specs.Cmp.Lexicographic.{pointwise}
use Rattle.std.specs.List.{filter}
use Rattle.std.specs.Str.{IsUtf8, bytes_eq, chars}
use Rattle.rhai_value.specs.Reach.{trues_from}
use Rattle.rhai_scope.specs.NameFilter.{passes}
use Rattle.rhai_scope.specs.declared.name_index.NameIndex.{NameIndex}

-- ---- the list of a name

-- the list of a text, if there is one
abbrev pub listed : NameIndex → List ℕ → Option (List ℕ)
listed p text = get_by_text p.lists text

-- each indexed text passes the filter
abbrev pub AllPass : NameIndex → Type 0
AllPass p = (q : List ℕ) → passes p.filter q ≡ false → listed p q ≡ None

-- the list of this text is changed by f, and no other list is
abbrev pub Relists : (Option (List ℕ) → Option (List ℕ)) → List ℕ → (List ℕ → Option (List ℕ)) → (List ℕ → Option (List ℕ)) → Type 0
Relists f text old new = (q : List ℕ) → new q ≡ (if bytes_eq text q then f (old q) else old q)

-- an empty list isn't kept
abbrev pub unless_empty : List ℕ → Option (List ℕ)
unless_empty [] = None
unless_empty (p ∷ ps) = Some (p ∷ ps)

-- the last item of a list
abbrev pub last_item : List ℕ → Option ℕ
last_item ps = slice_get ps (length ps - 1)

-- a list with one more place at its end
abbrev pub with_place : ℕ → Option (List ℕ) → Option (List ℕ)
with_place p None = Some (p ∷ [])
with_place p (Some ps) = Some (ps ++ p ∷ [])

-- a list shortened by f, or none if nothing is left
abbrev pub shortened : (List ℕ → List ℕ) → Option (List ℕ) → Option (List ℕ)
shortened f o = option_and_then (λ ps. unless_empty (f ps)) o

-- all but the last, and all but one place
abbrev pub front : List ℕ → List ℕ
front ps = take (length ps - 1) ps

abbrev pub others : ℕ → List ℕ → List ℕ
others place ps = filter (λ p. not (nat_eq p place)) ps

-- a place after another one is removed: those behind it move down by one
abbrev pub lowered : ℕ → ℕ → ℕ
lowered place p = if nat_lt place p then p - 1 else p

-- ---- the lists of all names

-- Each text has exactly the places of that name by `stands`, ascending, and no list is empty; and
-- each listed text passes.
pub record Lists (p : NameIndex) (stands : List ℕ → List Bool) : Type 0 where
  pub pass : AllPass p
  pub places : (text : List ℕ) → IsUtf8 text → listed p text ≡ unless_empty (trues_from 0 (stands (chars text)))

-- which of some names are this one
abbrev pub are_named : List (List ℕ) → List ℕ → List Bool
are_named ns name = map (λ n. pointwise nat_eq n name) ns

-- the same with a place between them that has no name
abbrev pub with_gap : List (List ℕ) → List (List ℕ) → List ℕ → List Bool
with_gap ms ns name = are_named ms name ++ false ∷ are_named ns name

-- the places of these names
abbrev pub ListsNames : NameIndex → List (List ℕ) → Type 0
ListsNames p ns = Lists p (are_named ns)
