-- Texts split at a separator, or into words. A text is its UTF-8 bytes; the parts are characters.
use Rattle.std.specs.Prelude.{◌≡◌, ◌<◌, ◌⊎◌, ◌-◌, ℕ, zero, suc, ℤ, pos, negsuc, Bool, true, false, List, [], ◌∷◌, ◌++◌, length, map, take, drop, reverse, Option, Some, None, option_map, if◌then◌else◌}
use Rattle.std.specs.Char.{is_whitespace, is_not_whitespace}
use Rattle.std.specs.Str.{chars, NoCharPasses, EmptyOrStartsWithPassing}
use Rattle.std.specs.Str.Pattern.{FindsText, RFindsText, SplitsAroundMatch}
use Rattle.rhai_value.specs.Tree as tree
use Rattle.rhai_packs.specs.declared.texts.cuts.Side.{Side}
use Rattle.rhai_packs.specs.declared.texts.cuts.Side.TheVariants.{Front, Back}

-- a part is cut off a text: in front of the first occurrence of the separator, or behind the last
abbrev pub IsCutOff : Side → List ℕ → List ℕ → List ℕ → List ℕ → Type 0
IsCutOff Front separator text part rest = SplitsAroundMatch (FindsText separator) text part rest
IsCutOff Back separator text part rest = SplitsAroundMatch (RFindsText separator) text rest part

-- whether no cut is left, if there is a limit, and one less
abbrev pub is_spent : Option ℕ → Bool
is_spent None = false
is_spent (Some zero) = true
is_spent (Some (suc n)) = false

abbrev pub one_less : Option ℕ → Option ℕ
one_less most = option_map (λ n. n - 1) most

-- Parts are cut off one after another, with a limit at most so many; the last part is what is left,
-- once no cut is left or no separator. The separator isn't empty.
abbrev pub AreCutOff : Side → List ℕ → Option ℕ → List ℕ → List (List ℕ) → Type 0
AreCutOff side separator most text [] = ⊥
AreCutOff side separator most text (part ∷ parts) =
    (((is_spent most ≡ true) ⊎ FindsText separator text None) × (part ≡ chars text) × (parts ≡ []))
    ⊎ ((is_spent most ≡ false) × ((off : List ℕ) × (rest : List ℕ) × IsCutOff side separator text off rest × (part ≡ chars off) × AreCutOff side separator (one_less most) rest parts))

-- the characters as read from a side, and a part that was read from it
abbrev pub read_from : Side → List ℕ → List ℕ
read_from Front cs = cs
read_from Back cs = reverse cs

-- nothing, the first n characters on their own, and the others together
abbrev pub singled : Side → ℕ → List ℕ → List (List ℕ)
singled side n cs = [] ∷ (map (λ c. c ∷ []) (take n (read_from side cs)) ++ read_from side (drop n (read_from side cs)) ∷ [])

-- how many of this many characters are parts of their own
abbrev pub single_count : Option ℕ → ℕ → ℕ
single_count None count = count
single_count (Some n) count = n - 1

-- an empty separator occurs before each character and at the end
abbrev pub cut_everywhere : Side → Option ℕ → List ℕ → List (List ℕ)
cut_everywhere side most cs = if is_spent most then cs ∷ [] else singled side (single_count most (length cs)) cs

-- the parts of a text, for any separator
abbrev pub AreParts : Side → List ℕ → Option ℕ → List ℕ → List (List ℕ) → Type 0
AreParts side [] most text parts = parts ≡ cut_everywhere side most (chars text)
AreParts side (b ∷ bs) most text parts = AreCutOff side (b ∷ bs) most text parts

-- the number of cuts into at most so many parts; there is always one part
abbrev pub cuts_into : ℤ → ℕ
cuts_into (pos n) = n - 1
cuts_into (negsuc n) = 0

-- the words of a text: its longest runs of characters that aren't white space
abbrev pub AreWords : List ℕ → List (List ℕ) → Type 0
AreWords text [] = NoCharPasses is_not_whitespace text
AreWords text (word ∷ words) = (gap : List ℕ) × (run : List ℕ) × (rest : List ℕ)
    × (text ≡ gap ++ (run ++ rest)) × (0 < length run) × NoCharPasses is_not_whitespace gap × NoCharPasses is_whitespace run
    × ((more : List ℕ) × EmptyOrStartsWithPassing is_whitespace rest more) × (word ≡ chars run) × AreWords rest words

-- an array of texts for which P holds
abbrev pub AreTextsOf : (List (List ℕ) → Type 0) → List tree.Tree → Type 0
AreTextsOf P items = (all : List (List ℕ)) × P all × (items ≡ map (λ t. tree.fresh (tree.text t)) all)
