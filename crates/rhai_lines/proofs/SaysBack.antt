-- A word written for a value is read as the value, and the rest after it is unchanged.
use Rattle.std.proofs.Common.{◌≡◌, ℕ, ◌+◌, suc, ◌<◌, Bool, true, false, ◌&&◌, ◌||◌, nat_eq, nat_lt, if◌then◌else◌, cond, length, List, [], ◌∷◌, ◌++◌, length-append, Option, Some, None, option_map, take, drop, refl, sym, ap, ap₂, ◌∙◌, append-nil, arith}
use Rattle.std.specs.List.{list_all, position_or_len, AllByRecursion}
use Rattle.std.specs.Str.{IsUtf8, IsAscii}
use Rattle.std.proofs.Math.Seq.{take-append_seam, drop-append-add}
use Rattle.std.proofs.lemmas.Bool.Decides.{nat_tests}
use Rattle.std.proofs.lemmas.List.Recursion.{is_position_or_len}
use Rattle.std.proofs.lemmas.List.Elements.{All-from_recursion}
use Rattle.std.proofs.lemmas.List.Folds.{list_any-append}
use Rattle.std.proofs.lemmas.Str.{IsUtf8-from_ascii, IsUtf8-append}
use Rattle.std.proofs.lemmas.Str.Ascii.{IsAscii-from_all}
use Rattle.rhai_lines.specs.Words.{Left, is_space, word_of, left_of, next_word, named}
use Rattle.rhai_lines.specs.Vocabulary.{Word, reads}
use Rattle.rhai_lines.specs.Spelling.{spells, behind, called, has_feed}

-- a byte of an ASCII word: above the space (32), and below 128
abbrev pub is_graphic : ℕ → Bool
is_graphic b = nat_lt 32 b && nat_lt b 128

abbrev pub graphic : List ℕ → Bool
graphic w = list_all is_graphic w

pub both : (s t : Bool) → (s && t) ≡ true → (s ≡ true) × (t ≡ true)
both true t e = (refl, e)
both false t e = cc

pub the_same : {A : Type 0} {a b : A} → Some a ≡ Some b → a ≡ b
the_same e = cc

no_space : (b : ℕ) → is_graphic b ≡ true → is_space b ≡ false
no_space b e = grind (arith, nat_tests)

no_feed : (b : ℕ) → is_graphic b ≡ true → nat_eq b 10 ≡ false
no_feed b e = grind (arith, nat_tests)

below_128 : (b : ℕ) → is_graphic b ≡ true → b < 128
below_128 b e = grind (arith, nat_tests)

pub graphic_no_feed : (w : List ℕ) → graphic w ≡ true → has_feed w ≡ false
graphic_no_feed [] e = refl
graphic_no_feed (b ∷ bs) e = let h = both (is_graphic b) (graphic bs) e in ap₂ (λ s t. s || t) (no_feed b h.0) (graphic_no_feed bs h.1)

each_below : (w : List ℕ) → graphic w ≡ true → AllByRecursion (λ b. b < 128) w
each_below [] e = tt
each_below (b ∷ bs) e = let h = both (is_graphic b) (graphic bs) e in (below_128 b h.0, each_below bs h.1)

pub graphic_ascii : (w : List ℕ) → graphic w ≡ true → IsAscii w
graphic_ascii w e = IsAscii-from_all w (All-from_recursion (λ b. b < 128) w (each_below w e))

pub graphic_utf8 : (w : List ℕ) → graphic w ≡ true → IsUtf8 w
graphic_utf8 w e = IsUtf8-from_ascii w (graphic_ascii w e)

-- if such a word precedes the rest, it is split off there
abbrev at_space : List ℕ → ℕ
at_space [] = 0
at_space (b ∷ bs) = cond (is_space b) 0 (1 + at_space bs)

ends_at : (w : List ℕ) (left : Left) → graphic w ≡ true → at_space (w ++ behind left) ≡ length w
ends_at [] None e = refl
ends_at [] (Some t) e = refl
ends_at (b ∷ bs) left e =
    let h = both (is_graphic b) (graphic bs) e in
    ap₂ (λ s n. cond s 0 (1 + n)) (no_space b h.0) (ends_at bs left h.1) ∙ one_more (length bs)
  where
    one_more : (n : ℕ) → 1 + n ≡ suc n
    one_more n = omega arith

space_at : (w : List ℕ) (left : Left) → graphic w ≡ true → position_or_len is_space (w ++ behind left) ≡ length w
space_at w left e = sym (is_position_or_len at_space is_space refl (λ x xs. refl) (w ++ behind left)) ∙ ends_at w left e

pub word_is : (w : List ℕ) (left : Left) → graphic w ≡ true → word_of (w ++ behind left) ≡ w
word_is w left e = ap (λ n. take n (w ++ behind left)) (space_at w left e) ∙ take-append_seam w (behind left)

pub left_is : (w : List ℕ) (left : Left) → graphic w ≡ true → left_of (w ++ behind left) ≡ left
left_is w None e =
    ap (λ n. if nat_lt n (length (w ++ [])) then Some (drop (n + 1) (w ++ [])) else None) (space_at w None e)
    ∙ ap (λ t. if t then Some (drop (length w + 1) (w ++ [])) else None) (not_below w)
  where
    not_below : (w : List ℕ) → nat_lt (length w) (length (w ++ [])) ≡ false
    not_below w = let l : length (w ++ []) ≡ length w = ap length (append-nil w) in grind (arith, nat_tests, l)
left_is w (Some t) e =
    ap (λ n. if nat_lt n (length (w ++ 32 ∷ t)) then Some (drop (n + 1) (w ++ 32 ∷ t)) else None) (space_at w (Some t) e)
    ∙ ap (λ b. if b then Some (drop (length w + 1) (w ++ 32 ∷ t)) else None) (is_below w)
    ∙ ap Some (dropped w)
  where
    is_below : (w : List ℕ) → nat_lt (length w) (length (w ++ 32 ∷ t)) ≡ true
    is_below w = let l : length (w ++ 32 ∷ t) ≡ length w + suc (length t) = length-append w (32 ∷ t) in grind (arith, nat_tests, l)

    dropped : (w : List ℕ) → drop (length w + 1) (w ++ 32 ∷ t) ≡ t
    dropped w = drop-append-add w (32 ∷ t) 1

pub next_is : {A : Type 0} (says : List ℕ → Option A) (a : A) (w : List ℕ) (left : Left) → graphic w ≡ true → says w ≡ Some a → next_word says (Some (w ++ behind left)) ≡ Some (a, left)
next_is says a w left g e =
    ap₂ (λ x y. option_map (λ b. (b, y)) (says x)) (word_is w left g) (left_is w left g) ∙ ap (option_map (λ b. (b, left))) e

-- The words of a value are read as it, wherever they are.
pub record SaysBack {A : Type 0} (word : Word A) (a : A) (w : List ℕ) : Type 0 where
  pub back : (left : Left) → reads word (Some (w ++ behind left)) ≡ Some (a, left)
  pub fits : (has_feed w ≡ false) × IsUtf8 w

abbrev pub Back : {A : Type 0} → Word A → Type 0
Back {A} word = (a : A) (w : List ℕ) → spells word a ≡ Some w → SaysBack word a w

-- a single word with the value
pub one_back : {A : Type 0} (word : Word A) (says : List ℕ → Option A) (a : A) (w : List ℕ) → ((left : Left) → reads word left ≡ next_word says left) → graphic w ≡ true → says w ≡ Some a → SaysBack word a w
one_back word says a w is g e = record { back = λ left. is (Some (w ++ behind left)) ∙ next_is says a w left g e; fits = (graphic_no_feed w g, graphic_utf8 w g) }

-- ---- tables

-- each row is found by its name, which is a word
abbrev pub named_so : {A : Type 0} → (A → A → Bool) → Option A → A → Bool
named_so same None a = false
named_so same (Some b) a = same b a

so_named : {A : Type 0} (same : A → A → Bool) → ((a b : A) → same a b ≡ true → a ≡ b) → (o : Option A) (a : A) → named_so same o a ≡ true → o ≡ Some a
so_named same is_same None a e = cc
so_named same is_same (Some b) a e = ap Some (is_same b a e)

abbrev pub is_sound : {A : Type 0} → (A → A → Bool) → List (List ℕ × A) → List (List ℕ × A) → Bool
is_sound same table rows = list_all (λ row. named_so same (named table row.0) row.1 && graphic row.0) rows

pub called_back : {A : Type 0} (same : A → A → Bool) (is_same : (a b : A) → same a b ≡ true → a ≡ b) (table rows : List (List ℕ × A)) (a : A) (w : List ℕ) → is_sound same table rows ≡ true → called same rows a ≡ Some w → (named table w ≡ Some a) × (graphic w ≡ true)
called_back same is_same table [] a w s e = cc
called_back same is_same table (row ∷ rows) a w s e =
    let h = both (named_so same (named table row.0) row.1 && graphic row.0) (is_sound same table rows) s in
    by (same a row.1) refl (both (named_so same (named table row.0) row.1) (graphic row.0) h.0) (called_back same is_same table rows a w h.1)
  where
    by : (t : Bool) → same a row.1 ≡ t → (named_so same (named table row.0) row.1 ≡ true) × (graphic row.0 ≡ true) → (called same rows a ≡ Some w → (named table w ≡ Some a) × (graphic w ≡ true)) → (named table w ≡ Some a) × (graphic w ≡ true)
    by true f k r =
        let is : row.0 ≡ w = the_same (sym (ap (λ x. if x then Some row.0 else called same rows a) f) ∙ e) in
        (ap (named table) (sym is) ∙ so_named same is_same (named table row.0) row.1 k.0 ∙ ap Some (sym (is_same a row.1 f)), ap graphic (sym is) ∙ k.1)
    by false f k r = r (sym (ap (λ x. if x then Some row.0 else called same rows a) f) ∙ e)

-- consecutive texts, and with a space between them
space_utf8 : IsUtf8 (32 ∷ [])
space_utf8 = IsUtf8-from_ascii (32 ∷ []) (IsAscii-from_all (32 ∷ []) (All-from_recursion (λ b. b < 128) (32 ∷ []) (omega arith, tt)))

pub utf8_behind : (front w : List ℕ) → IsUtf8 front → IsUtf8 w → IsUtf8 (front ++ 32 ∷ w)
utf8_behind front w f h = IsUtf8-append front (32 ∷ w) f (IsUtf8-append (32 ∷ []) w space_utf8 h)

pub has_feed_append : (xs ys : List ℕ) → has_feed xs ≡ false → has_feed ys ≡ false → has_feed (xs ++ ys) ≡ false
has_feed_append xs ys f h = list_any-append (λ b. nat_eq b 10) xs ys ∙ ap₂ (λ s t. s || t) f h
