-- Texts cut at a separator.
use Rattle.std.proofs.Common.{◌≡◌, ◌<◌, ◌≤◌, ◌-◌, length, length-drop, take, drop, reverse, if◌then◌else◌, arith, false, true, ℕ, Option, List, [], ◌∷◌, ◌++◌, inr, refl, sym, subst, append_assoc, ap, ◌∙◌, map}
use Rattle.std.proofs.lemmas.List.{length-reverse, map-append, reverse-append, reverse-reverse, take-append-drop, take_at}
use Rattle.std.proofs.lemmas.Str.{IsUtf8-append, IsUtf8-drop, IsUtf8-take, IsCharBoundary-from_drop}
use Rattle.std.specs.Char.{is_whitespace, is_not_whitespace}
use Rattle.std.specs.Str.{chars, EmptyOrStartsWithPassing, IsCharBoundary, IsUtf8, NoCharPasses}
use Rattle.rhai_value.specs.Tree.{Tree}
use Rattle.rhai_packs.specs.Splits.{AreCutOff, AreParts, AreTextsOf, AreWords, IsCutOff, cut_everywhere, is_spent, one_less, read_from, single_count, singled}
use Rattle.rhai_packs.specs.declared.texts.cuts.Side.{Side}
use Rattle.rhai_packs.specs.declared.texts.cuts.Side.TheVariants.{Front, Back}

-- one more part is cut off
pub more_cut : (side : Side) (sep : List ℕ) (most left : Option ℕ) (text rest off next : List ℕ) (done : List (List ℕ))
    → ((others : List (List ℕ)) → AreCutOff side sep left rest others → AreCutOff side sep most text (done ++ others))
    → is_spent left ≡ false → IsCutOff side sep rest off next
    → (others : List (List ℕ)) → AreCutOff side sep (one_less left) next others → AreCutOff side sep most text ((done ++ chars off ∷ []) ++ others)
more_cut side sep most left text rest off next done more some cut others cuts =
    subst (AreCutOff side sep most text) (sym (append_assoc done (chars off ∷ []) others)) (more (chars off ∷ others) (inr (some, (off, next, cut, refl, cuts))))

-- one more word
pub more_words : (text rest run next : List ℕ) (done : List (List ℕ))
    → ((others : List (List ℕ)) → AreWords rest others → AreWords text (done ++ others))
    → (gap : List ℕ) × (rest ≡ gap ++ (run ++ next)) × (0 < length run) × NoCharPasses is_not_whitespace gap × NoCharPasses is_whitespace run × ((m : List ℕ) × EmptyOrStartsWithPassing is_whitespace next m)
    → (others : List (List ℕ)) → AreWords next others → AreWords text ((done ++ chars run ∷ []) ++ others)
more_words text rest run next done more step others words =
    subst (AreWords text) (sym (append_assoc done (chars run ∷ []) others)) (more (chars run ∷ others) (step.0, run, next, step.1, step.2, step.3, step.4, step.5, refl, words))

-- the parts between separators that aren't empty
pub parts_between : (side : Side) (sep : List ℕ) (most : Option ℕ) (text : List ℕ) (items : List Tree) → 0 < length sep → AreTextsOf (AreCutOff side sep most text) items → AreTextsOf (AreParts side sep most text) items
parts_between side [] most text items h all = absurd (omega (arith, h))
parts_between side (b ∷ bs) most text items h all = all

-- one more item
pub made_more : {A : Type 0} (f : List ℕ → A) (items news : List A) (done : List (List ℕ)) (x : List ℕ) → items ≡ map f done → news ≡ items ++ f x ∷ [] → news ≡ map f (done ++ x ∷ [])
made_more f items news done x made pushed = pushed ∙ ap (λ xs. xs ++ f x ∷ []) made ∙ sym (map-append f done (x ∷ []))

-- the rest is UTF-8
pub rest_spelled : (side : Side) (sep text off rest : List ℕ) → IsUtf8 sep → IsUtf8 text → IsCutOff side sep text off rest → IsUtf8 rest
rest_spelled Front sep text off rest v u s =
    let at = s.2.1 in
    subst IsUtf8 (sym s.4) (IsUtf8-drop text s.1 u (subst (IsCharBoundary text) (sym at.ends) at.after))
rest_spelled Back sep text off rest v u s =
    let at = s.2.1 in
    let behind : IsUtf8 (drop s.1 text) = IsUtf8-drop text s.1 u (subst (IsCharBoundary text) (sym at.ends) at.after) in
    let within : s.0 ≤ length text = omega (arith, s.5, s.7) in
    let on : IsCharBoundary text s.0 = IsCharBoundary-from_drop text s.0 within (subst IsUtf8 (sym at.split) (IsUtf8-append sep (drop s.1 text) v behind)) in
    subst IsUtf8 (sym s.3) (IsUtf8-take text s.0 u on)

-- the text without its last characters
pub last_dropped : (n : ℕ) (cs : List ℕ) → take (length cs - n) cs ≡ reverse (drop n (reverse cs))
last_dropped n cs =
    let back = reverse cs in
    let halves : cs ≡ reverse (drop n back) ++ reverse (take n back) =
    sym (reverse-reverse cs) ∙ ap reverse (sym (take-append-drop n back)) ∙ reverse-append (take n back) (drop n back) in
    let long : length (reverse (drop n back)) ≡ length cs - n = length-reverse (drop n back) ∙ length-drop n back ∙ ap (λ l. l - n) (length-reverse cs) in
    ap (take (length cs - n)) halves ∙ take_at (reverse (drop n back)) (reverse (take n back)) (length cs - n) long

ones : {A : Type 0} (f : List ℕ → A) (cs : List ℕ) → map (λ c. f (c ∷ [])) cs ≡ map f (map (λ c. c ∷ []) cs)
ones f [] = refl
ones f (c ∷ cs) = ap (λ xs. f (c ∷ []) ∷ xs) (ones f cs)

-- nothing, some characters on their own, and the others
pub singles_made : {A : Type 0} (f : List ℕ → A) (side : Side) (n : ℕ) (cs singles : List ℕ) (items news : List A) (rest : List ℕ)
    → items ≡ f [] ∷ map (λ c. f (c ∷ [])) singles → singles ≡ take n (read_from side cs) → rest ≡ read_from side (drop n (read_from side cs))
    → news ≡ items ++ f rest ∷ [] → news ≡ map f (singled side n cs)
singles_made f side n cs singles items news rest made taken left pushed =
    pushed ∙ ap (λ xs. xs ++ f rest ∷ []) (made ∙ ap (λ xs. f [] ∷ xs) (ones f singles))
    ∙ ap (λ xs. f [] ∷ xs) (sym (map-append f (map (λ c. c ∷ []) singles) (rest ∷ [])))
    ∙ ap (λ xs. f [] ∷ map f (map (λ c. c ∷ []) xs ++ rest ∷ [])) taken
    ∙ ap (λ r. f [] ∷ map f (map (λ c. c ∷ []) (take n (read_from side cs)) ++ r ∷ [])) left

-- every way to cut at an empty separator
pub whole_made : {A : Type 0} (f : List ℕ → A) (side : Side) (most : Option ℕ) (cs : List ℕ) (items : List A) → is_spent most ≡ true → items ≡ f cs ∷ [] → items ≡ map f (cut_everywhere side most cs)
whole_made f side most cs items spent made = made ∙ sym (ap (λ b. map f (if b then cs ∷ [] else singled side (single_count most (length cs)) cs)) spent)

pub cut_made : {A : Type 0} (f : List ℕ → A) (side : Side) (most : Option ℕ) (cs : List ℕ) (items : List A) → is_spent most ≡ false → items ≡ map f (singled side (single_count most (length cs)) cs) → items ≡ map f (cut_everywhere side most cs)
cut_made f side most cs items some made = made ∙ sym (ap (λ b. map f (if b then cs ∷ [] else singled side (single_count most (length cs)) cs)) some)
