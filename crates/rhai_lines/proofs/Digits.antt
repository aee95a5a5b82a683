-- The number given by digits, with a number before them.
use Rattle.std.proofs.Common.{◌≡◌, ℕ, ◌+◌, ◌*◌, ◌^◌, ◌<◌, ◌≤◌, true, false, if◌then◌else◌, List, [], ◌∷◌, length, get_or, drop, drop-cons, add-one, ◌&&◌, Option, Some, None, option_and_then, refl, sym, ap, ◌∙◌, arith}
use Rattle.std.specs.List.{list_all}
use Rattle.std.specs.Char.{digit_value, is_ascii_digit}
use Rattle.std.specs.Str.Parse.{digits_value_after}
use Rattle.std.proofs.lemmas.Bool.Decides.{nat_tests}
use Rattle.std.proofs.lemmas.List.{drop_all}
use Rattle.rhai_lines.specs.Numbers.{below, whole_number_of}

-- the number of the digits ds after n
abbrev pub number_after : ℕ → List ℕ → Option ℕ
number_after n ds = if list_all is_ascii_digit ds then Some (digits_value_after 10 n ds) else None

grows : (n : ℕ) (ds : List ℕ) → n ≤ digits_value_after 10 n ds
grows n [] = omega arith
grows n (d ∷ ds) = let h = grows (n * 10 + digit_value d) ds in omega arith

-- further digits never make a number that is too great small again
pub too_great : (n : ℕ) (ds : List ℕ) → 2 ^ 128 ≤ n → option_and_then (below 128) (number_after n ds) ≡ None
too_great n ds h =
    let k = grows n ds in
    elim (list_all is_ascii_digit ds) as (λ t. option_and_then (below 128) (if t then Some (digits_value_after 10 n ds) else None) ≡ None) [
      | true ↦ grind (arith, nat_tests)
      | false ↦ refl
    ]

pub number_after-drop : (n i : ℕ) (ds : List ℕ) → i < length ds → is_ascii_digit (get_or ds i 0) ≡ true → number_after n (drop i ds) ≡ number_after (n * 10 + digit_value (get_or ds i 0)) (drop (i + 1) ds)
number_after-drop n i ds l e =
    let d = get_or ds i 0 in
    ap (number_after n) (drop-cons ds i 0 l ∙ ap (λ k. d ∷ drop k ds) (sym (add-one i)))
    ∙ ap (λ t. if t && list_all is_ascii_digit (drop (i + 1) ds) then Some (digits_value_after 10 (n * 10 + digit_value d) (drop (i + 1) ds)) else None) e

pub too_great_at : (n i : ℕ) (ds : List ℕ) → whole_number_of ds ≡ number_after n (drop i ds) → i < length ds → is_ascii_digit (get_or ds i 0) ≡ true → 2 ^ 128 ≤ n * 10 + digit_value (get_or ds i 0) → option_and_then (below 128) (whole_number_of ds) ≡ None
too_great_at n i ds h l e g =
    ap (option_and_then (below 128)) (h ∙ number_after-drop n i ds l e) ∙ too_great (n * 10 + digit_value (get_or ds i 0)) (drop (i + 1) ds) g

small : (n : ℕ) → n < 2 ^ 128 → below 128 n ≡ Some n
small n h = grind (arith, nat_tests)

pub all_read : (n i : ℕ) (ds : List ℕ) → whole_number_of ds ≡ number_after n (drop i ds) → length ds ≤ i → n < 2 ^ 128 → option_and_then (below 128) (whole_number_of ds) ≡ Some n
all_read n i ds h l k = ap (option_and_then (below 128)) (h ∙ ap (number_after n) (drop_all i ds l)) ∙ small n k
