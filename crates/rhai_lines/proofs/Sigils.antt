-- Words with a mark before a name: places and flagged names.
use Rattle.std.proofs.Common.{◌≡◌, ℕ, pos, ◌==◌, ◌&&◌, nat_lt, length, option_and_then, subst, Bool, true, false, if◌then◌else◌, List, [], ◌∷◌, Option, Some, None, option_map, IsSomeAnd, refl, sym, ap, ◌∙◌, arith}
use Rattle.std.proofs.lemmas.Bool.Decides.{nat_tests}
use Rattle.std.specs.Char.{is_ascii_digit}
use Rattle.std.specs.List.{list_all}
use Rattle.std.specs.Str.Parse.{digits_value}
use Rattle.std.specs.Str.{IsUtf8}
use Rattle.std.proofs.lemmas.Str.{IsUtf8-from_ascii}
use Rattle.rhai_run.specs.declared.command.Place.TheVariants as place
use Rattle.rhai_lines.specs.Numbers.{as_unsigned, unsigned_of, whole_number_of}
use Rattle.rhai_lines.specs.Vocabulary.{place_of}
use Rattle.rhai_lines.specs.Memory.{names_entry}
use Rattle.rhai_lines.specs.Words.{is_name, is_name_byte, name_of}
use Rattle.rhai_lines.specs.Arguments.{flagged_of}
use Rattle.rhai_lines.proofs.Names.{name_is_ascii, no_name}

-- a place after an at sign, and one that is a number
pub place_behind : (word name : List ℕ) → word ≡ 64 ∷ name → place_of word ≡ option_map place.Entry (name_of name)
place_behind word name e = ap place_of e

pub no_digits : (bs : List ℕ) → whole_number_of (64 ∷ bs) ≡ None
no_digits bs = by (nat_lt 0 (length (64 ∷ bs)))
  where
    by : (t : Bool) → (if t && list_all is_ascii_digit (64 ∷ bs) then Some (digits_value 10 (64 ∷ bs)) else None) ≡ None
    by true = refl
    by false = refl

pub place_alone : (word : List ℕ) → ((name : List ℕ) → word ≡ 64 ∷ name → is_name name ≡ false) → place_of word ≡ option_map place.Hand (unsigned_of 64 word)
place_alone [] h = refl
place_alone (b ∷ bs) h = by (b == 64) refl
  where
    by : (t : Bool) → (b == 64) ≡ t → place_of (b ∷ bs) ≡ option_map place.Hand (unsigned_of 64 (b ∷ bs))
    by true e =
        let same : b ≡ 64 = grind (arith, nat_tests, e) in
        let none : place_of (64 ∷ bs) ≡ None = ap (option_map place.Entry) (no_name bs (h bs (ap (λ c. c ∷ bs) same))) in
        subst (λ c. place_of (c ∷ bs) ≡ option_map place.Hand (unsigned_of 64 (c ∷ bs))) (sym same) (none ∙ sym (ap (λ o. option_map place.Hand (option_and_then (as_unsigned 64) (option_map pos o))) (no_digits bs)))
    by false e = ap (λ t. if t then option_map place.Entry (name_of bs) else option_map place.Hand (unsigned_of 64 (b ∷ bs))) e

-- reading a place that is the name of an entry allocates
entry_takes : (o : Option (List ℕ)) → IsSomeAnd o (λ n. true ≡ true) → IsSomeAnd (option_map place.Entry o) (λ p. names_entry p ≡ true)
entry_takes None h = h
entry_takes (Some n) h = refl

pub place_takes : (word name : List ℕ) → word ≡ 64 ∷ name → IsSomeAnd (name_of name) (λ n. true ≡ true) → IsSomeAnd (place_of word) (λ p. names_entry p ≡ true)
place_takes word name e h = rw e (entry_takes (name_of name) h)

-- a name with its flag, and one without
pub flagged_behind : (word name : List ℕ) → word ≡ 33 ∷ name → flagged_of word ≡ option_map (λ n. (n, true)) (name_of name)
flagged_behind word name e = ap flagged_of e

pub no_mark : (bs : List ℕ) → is_name (33 ∷ bs) ≡ false
no_mark bs = by (nat_lt 0 (length (33 ∷ bs)))
  where
    by : (t : Bool) → (t && list_all is_name_byte (33 ∷ bs)) ≡ false
    by true = refl
    by false = refl

pub flagged_alone : (word : List ℕ) → ((name : List ℕ) → word ≡ 33 ∷ name → is_name name ≡ false) → flagged_of word ≡ option_map (λ n. (n, false)) (name_of word)
flagged_alone [] h = refl
flagged_alone (b ∷ bs) h = by (b == 33) refl
  where
    by : (t : Bool) → (b == 33) ≡ t → flagged_of (b ∷ bs) ≡ option_map (λ n. (n, false)) (name_of (b ∷ bs))
    by true e =
        let same : b ≡ 33 = grind (arith, nat_tests, e) in
        let none : flagged_of (33 ∷ bs) ≡ None = ap (option_map (λ n. (n, true))) (no_name bs (h bs (ap (λ c. c ∷ bs) same))) in
        subst (λ c. flagged_of (c ∷ bs) ≡ option_map (λ n. (n, false)) (name_of (c ∷ bs))) (sym same) (none ∙ sym (ap (option_map (λ n. (n, false))) (no_name (33 ∷ bs) (no_mark bs))))
    by false e = ap (λ t. if t then option_map (λ n. (n, true)) (name_of bs) else option_map (λ n. (n, false)) (name_of (b ∷ bs))) e

pub mapped_takes : {A B : Type 0} (f : A → B) (o : Option A) → IsSomeAnd o (λ a. true ≡ true) → IsSomeAnd (option_map f o) (λ b. true ≡ true)
mapped_takes f None h = h
mapped_takes f (Some a) h = refl

pub flagged_takes : (word name : List ℕ) (t : Bool) → flagged_of word ≡ option_map (λ n. (n, t)) (name_of name) → IsSomeAnd (name_of name) (λ n. true ≡ true) → IsSomeAnd (flagged_of word) (λ p. true ≡ true)
flagged_takes word name t e h = rw e (mapped_takes (λ n. (n, t)) (name_of name) h)

-- bytes that aren't UTF-8 are no name
pub name_is_text : (word : List ℕ) → (IsUtf8 word → ⊥) → is_name word ≡ false
name_is_text word n = by (is_name word) refl
  where
    by : (t : Bool) → is_name word ≡ t → is_name word ≡ false
    by true e = absurd (n (IsUtf8-from_ascii word (name_is_ascii word e)))
    by false e = e

-- the text after a mark is unique
tail_is : (b c : ℕ) (bs cs : List ℕ) → b ∷ bs ≡ c ∷ cs → bs ≡ cs
tail_is b c bs cs e = cc

pub no_name_behind : (word name : List ℕ) (b : ℕ) → word ≡ b ∷ name → is_name name ≡ false → (other : List ℕ) → word ≡ b ∷ other → is_name other ≡ false
no_name_behind word name b e h other f = ap is_name (tail_is b b other name (sym f ∙ e)) ∙ h
