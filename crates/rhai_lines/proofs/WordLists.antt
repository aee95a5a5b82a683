-- The remaining words, one after another.
use Rattle.std.proofs.Common.{◌≡◌, ℕ, suc, ◌+◌, ◌<◌, ◌≤◌, Bool, true, false, nat_lt, if◌then◌else◌, List, [], ◌∷◌, ◌++◌, length, Option, Some, None, is_some, option_map, option_and_then, refl, sym, ap, ap₂, ◌∙◌, arith, append_assoc, length-drop, Err, IsSomeAnd}
use Rattle.std.specs.List.{slice_split, position_or_len, after_first}
use Rattle.std.proofs.lemmas.Bool.{false≢true}
use Rattle.std.proofs.lemmas.Bool.Decides.{nat_tests}
use Rattle.std.proofs.lemmas.List.{take_all}
use Rattle.std.proofs.lemmas.List.Elements.{All-from_get_or}
use Rattle.std.proofs.lemmas.List.Splits.{slice_split_first, slice_split_none}
use Rattle.std.proofs.lemmas.List.Sums.{fails_before_first}
use Rattle.rhai_lines.specs.Words.{Left, is_space, word_of, left_of, words_of}
use Rattle.rhai_lines.specs.Arguments.{each_of}
use Rattle.rhai_lines.specs.Memory.{first_says}
use Rattle.rhai_lines.specs.Cursor.{Yields, LacksItems}
use Rattle.rhai_lines.specs.declared.words.NoCommand.{NoCommand}
use Rattle.rhai_lines.specs.declared.words.NoCommand.TheVariants.{BadLine, Memory}

-- the length of the rest
abbrev pub left_len : Left → ℕ
left_len None = 0
left_len (Some text) = suc (length text)

pub left-shorter : (text : List ℕ) → left_len (left_of text) < left_len (Some text)
left-shorter text =
    let p = position_or_len is_space text in
    let d = length-drop (p + 1) text in
    elim (nat_lt p (length text)) as (λ t. nat_lt p (length text) ≡ t → left_len (if t then Some (after_first is_space text) else None) < suc (length text)) [
      | true ↦ λ e. grind (arith, nat_tests)
      | false ↦ λ e. omega arith
    ] refl

one_word : (text : List ℕ) → nat_lt (position_or_len is_space text) (length text) ≡ false → slice_split is_space text ≡ word_of text ∷ []
one_word text e =
    let l : length text ≤ position_or_len is_space text = grind (arith, nat_tests) in
    slice_split_none is_space text (All-from_get_or (λ b. is_space b ≡ false) text 0 (λ i h. fails_before_first is_space text i 0 (omega arith)))
    ∙ ap (λ word. word ∷ []) (sym (take_all (position_or_len is_space text) text l))

pub words_of-cons : (text : List ℕ) → words_of (Some text) ≡ word_of text ∷ words_of (left_of text)
words_of-cons text =
    let p = position_or_len is_space text in
    elim (nat_lt p (length text)) as (λ t. nat_lt p (length text) ≡ t → slice_split is_space text ≡ word_of text ∷ words_of (if t then Some (after_first is_space text) else None)) [
      | true ↦ λ e. slice_split_first is_space text 0 (grind (arith, nat_tests))
      | false ↦ one_word text
    ] refl

-- the value of the next word precedes those of the words after it
said-cons : {A : Type 0} (says : List ℕ → Option A) (left next : Left) (text word : List ℕ) (a : A) → left ≡ Some text → word ≡ word_of text → next ≡ left_of text → says word ≡ Some a → each_of says (words_of left) ≡ option_map (λ more. a ∷ more) (each_of says (words_of next))
said-cons says left next text word a l w n e =
    ap (λ x. each_of says (words_of x)) l ∙ ap (each_of says) (words_of-cons text) ∙ sym (ap₂ (λ x y. option_and_then (λ a. option_map (λ more. a ∷ more) (each_of says (words_of y))) (says x)) w n)
    ∙ ap (option_and_then (λ a. option_map (λ more. a ∷ more) (each_of says (words_of next)))) e

found-more : {A : Type 0} (found : List A) (a : A) (o : Option (List A)) → option_map (λ more. found ++ more) (option_map (λ more. a ∷ more) o) ≡ option_map (λ more. (found ++ a ∷ []) ++ more) o
found-more found a None = refl
found-more found a (Some more) = ap Some (sym (append_assoc found (a ∷ []) more))

-- A loop iteration over the words: the values found so far, and then those of the remaining words, are those of all.
pub found-next : {A : Type 0} (says : List ℕ → Option A) (all : Option (List A)) (left next : Left) (text word : List ℕ) (a : A) (found now : List A) → all ≡ option_map (λ more. found ++ more) (each_of says (words_of left)) → left ≡ Some text → word ≡ word_of text → next ≡ left_of text → says word ≡ Some a → now ≡ found ++ a ∷ [] → all ≡ option_map (λ more. now ++ more) (each_of says (words_of next))
found-next says all left next text word a found now k l w n e m =
    k ∙ ap (option_map (λ more. found ++ more)) (said-cons says left next text word a l w n e) ∙ found-more found a (each_of says (words_of next))
    ∙ ap (λ x. option_map (λ more. x ++ more) (each_of says (words_of next))) (sym m)

-- if a word has no value, the list has none
pub found-none : {A : Type 0} (says : List ℕ → Option A) (all : Option (List A)) (left : Left) (text word : List ℕ) (found : List A) → all ≡ option_map (λ more. found ++ more) (each_of says (words_of left)) → left ≡ Some text → word ≡ word_of text → says word ≡ None → all ≡ None
found-none says all left text word found k l w e =
    k ∙ ap (λ x. option_map (λ more. found ++ more) (each_of says (words_of x))) l ∙ ap (λ words. option_map (λ more. found ++ more) (each_of says words)) (words_of-cons text)
    ∙ ap (λ x. option_map (λ more. found ++ more) (option_and_then (λ a. option_map (λ more. a ∷ more) (each_of says (words_of (left_of text)))) (says x))) (sym w)
    ∙ ap (λ o. option_map (λ more. found ++ more) (option_and_then (λ a. option_map (λ more. a ∷ more) (each_of says (words_of (left_of text)))) o)) e

-- If a word had a value, the first one had.
pub first-said : {A : Type 0} (says : List ℕ → Option A) (all left : Left) (text word : List ℕ) → (first_says says all ≡ false → left ≡ all) → left ≡ Some text → word ≡ word_of text → is_some (says word) ≡ true → first_says says all ≡ true
first-said says all left text word h l w e = by (first_says says all) refl
  where
    by : (t : Bool) → first_says says all ≡ t → first_says says all ≡ true
    by true t = t
    by false t = ap (first_says says) (sym (h t) ∙ l) ∙ ap (λ x. is_some (says x)) (sym w) ∙ e

said-some : {A : Type 0} (o : Option A) → IsSomeAnd o (λ a. true ≡ true) → is_some o ≡ true
said-some None h = absurd h
said-some (Some a) h = refl

-- why a list ends at a word
pub lacks : {A : Type 0} (says : List ℕ → Option A) (e : NoCommand) (all left : Left) (text word : List ℕ) (found : List A) → each_of says (words_of all) ≡ option_map (λ more. found ++ more) (each_of says (words_of left)) → (first_says says all ≡ false → left ≡ all) → left ≡ Some text → word ≡ word_of text → Yields (Err e) (says word) (λ a. true) → LacksItems e says all
lacks says BadLine all left text word found k h l w y = found-none says (each_of says (words_of all)) left text word found k l w y
lacks says Memory all left text word found k h l w y = first-said says all left text word h l w (said-some (says word) y)

pub lacks-room : {A : Type 0} (says : List ℕ → Option A) (a : A) (all left : Left) (text word : List ℕ) → (first_says says all ≡ false → left ≡ all) → left ≡ Some text → word ≡ word_of text → says word ≡ Some a → first_says says all ≡ true
lacks-room says a all left text word h l w e = first-said says all left text word h l w (ap is_some e)

-- a loop iteration: the first word had a value
pub first-kept : {A : Type 0} (says : List ℕ → Option A) (a : A) (all left next : Left) (text word : List ℕ) → (first_says says all ≡ false → left ≡ all) → left ≡ Some text → word ≡ word_of text → says word ≡ Some a → first_says says all ≡ false → next ≡ all
first-kept says a all left next text word h l w e n = absurd (false≢true (sym n ∙ lacks-room says a all left text word h l w e))
