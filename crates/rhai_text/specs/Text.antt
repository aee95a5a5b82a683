-- The results of the edits. A text is the list of its characters, and a character is its code.
use Rattle.std.specs.Prelude.{ℕ, zero, suc, ◌+◌, ◌-◌, Bool, not, List, [], ◌∷◌, ◌++◌, length, take, drop, nat_eq, if◌then◌else◌}
use Rattle.std.specs.List.{starts_with, filter}

-- `minus`, in at most this many steps, of which one for each character suffices; the pattern is not empty
abbrev pub minus_within : ℕ → List ℕ → List ℕ → List ℕ
minus_within zero text pattern = text
minus_within (suc steps) [] pattern = []
minus_within (suc steps) (c ∷ cs) pattern =
    if starts_with nat_eq (c ∷ cs) pattern
    then minus_within steps (drop (length pattern) (c ∷ cs)) pattern
    else c ∷ minus_within steps cs pattern

-- the text without the pattern, which is searched from left to right: if the text begins with it,
-- the result is that for the rest after it; otherwise the first character is kept. The empty
-- pattern removes nothing.
abbrev pub minus : List ℕ → List ℕ → List ℕ
minus text [] = text
minus text (p ∷ ps) = minus_within (length text) text (p ∷ ps)

-- the text without that character
abbrev pub minus_char : List ℕ → ℕ → List ℕ
minus_char text character = filter (λ c. not (nat_eq c character)) text

-- the first `start` characters, then the slice, then all characters from `end` on, or after `end`
-- if the end is inclusive. A place past the text means its end; if `end` is before `start`, the
-- characters between them occur twice.
abbrev pub with_slice : List ℕ → ℕ → ℕ → Bool → List ℕ → List ℕ
with_slice text start end exclusive slice = take start text ++ (slice ++ drop (if exclusive then end else end + 1) text)

-- the characters of a slice, whose end is one further if it is inclusive; none if it ends before it starts
abbrev pub slice_of : List ℕ → ℕ → ℕ → Bool → List ℕ
slice_of text start end exclusive = take ((if exclusive then end else end + 1) - start) (drop start text)
