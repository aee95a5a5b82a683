-- Aliases, and adding one to an entry.
use Rattle.std.specs.Prelude.{ℕ, nat_eq, if◌then◌else◌, List, [], ◌∷◌, ◌++◌, Option, Some, None}
use Rattle.std.specs.Cmp.Lexicographic.{pointwise}
use Rattle.std.specs.List.{list_any}
use Rattle.rhai_scope.specs.Entry.{Entry}

-- no text is the empty name
abbrev pub alias_of : Option (List ℕ) → List ℕ
alias_of None = []
alias_of (Some name) = name

-- an empty alias means the name itself
abbrev pub meant_alias : List ℕ → List ℕ → List ℕ
meant_alias name [] = name
meant_alias name (c ∷ cs) = c ∷ cs

-- aliases with one more at their end, unless it is one of them
abbrev pub with_alias : List ℕ → List (List ℕ) → List (List ℕ)
with_alias a bs = if list_any (pointwise nat_eq a) bs then bs else bs ++ a ∷ []

-- the entry with one more alias
abbrev pub aliased : List ℕ → Entry → Entry
aliased a e = record e { aliases = with_alias a e.aliases }
