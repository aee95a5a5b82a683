-- Appending texts to a text.
use Rattle.std.proofs.Common.{◌≡◌, ◌++◌, ◌&&◌, ◌<◌, ◌≤◌, ◌/◌, ◌%◌, ◌^◌, ℤ, pos, negsuc, ◌∷◌, [], zero, suc, Bool, true, false, cond, List, ℕ, Result, Ok, Err, OnOk, is_ok, refl, ap, sym, ◌∙◌, subst, append_assoc, arith}
use Rattle.std.specs.Prelude.{nat_lt}
use Rattle.std.specs.List.{list_all}
use Rattle.std.specs.Fmt.{decimal, digit_glyph, signed_decimal}
use Rattle.std.specs.Str.{chars, IsUtf8, IsAscii}
use Rattle.std.proofs.lemmas.Bool.Decides.{nat_tests}
use Rattle.std.proofs.lemmas.Fmt.{IsAscii-decimal_wide, decimal_step}
pub use Rattle.std.proofs.lemmas.Fmt.{decimal_digit}
use Rattle.std.proofs.lemmas.Str.{chars-append, chars-IsAscii}
use lib.IntN.{nat_abs}
use lib.Signed.{le_z, mag}
use Rattle.rhai_show.specs.Leaves.{hex_digits}

-- a text is appended, and one in ASCII
pub pushed_chars : {A E : Type 0} (r : Result A E) (new old text : List ℕ) → IsUtf8 old → new ≡ cond (is_ok r) (old ++ text) old → OnOk r (chars new ≡ chars old ++ chars text)
pushed_chars (Ok x) new old text utf8 e = ap chars e ∙ chars-append old text utf8
pushed_chars (Err x) new old text utf8 e = tt

pub pushed_ascii : {A E : Type 0} (r : Result A E) (new old text : List ℕ) → IsUtf8 old → IsAscii text → OnOk r (new ≡ old ++ text) → OnOk r (chars new ≡ chars old ++ text)
pushed_ascii (Ok x) new old text utf8 ascii e = ap chars e ∙ chars-append old text utf8 ∙ ap (λ t. chars old ++ t) (chars-IsAscii text ascii)
pushed_ascii (Err x) new old text utf8 ascii e = tt

-- the appended text equals the expected one
pub added_as : {A E : Type 0} (r : Result A E) (new old text wanted : List ℕ) → text ≡ wanted → OnOk r (new ≡ old ++ text) → OnOk r (new ≡ old ++ wanted)
added_as r new old text wanted e h = subst (λ x. OnOk r (new ≡ old ++ x)) e h

-- a text is appended in two parts
pub added_twice : {A E : Type 0} (r : Result A E) (new mid old first second wanted : List ℕ) → mid ≡ old ++ first → first ++ second ≡ wanted → OnOk r (new ≡ mid ++ second) → OnOk r (new ≡ old ++ wanted)
added_twice r new mid old first second wanted e f h = subst (λ x. OnOk r (new ≡ x)) (ap (λ x. x ++ second) e ∙ append_assoc old first second ∙ ap (λ x. old ++ x) f) h

-- one more part is appended
pub added_more : (new mid old first second : List ℕ) → mid ≡ old ++ first → new ≡ mid ++ second → new ≡ old ++ (first ++ second)
added_more new mid old first second e f = f ∙ ap (λ x. x ++ second) e ∙ append_assoc old first second

both : (a b : Bool) → a && b ≡ true → (a ≡ true) × (b ≡ true)
both true b e = (refl, e)
both false b e = cc

abbrev pub is_plain : List ℕ → Bool
is_plain bs = list_all (λ b. nat_lt b 128) bs

plain_ascii : (bs : List ℕ) → is_plain bs ≡ true → IsAscii bs
plain_ascii [] e i = omega arith
plain_ascii (b ∷ bs) e zero = let h : nat_lt b 128 ≡ true = (both (nat_lt b 128) (is_plain bs) e).0 in grind (arith, nat_tests)
plain_ascii (b ∷ bs) e (suc i) = plain_ascii bs (both (nat_lt b 128) (is_plain bs) e).1 i

-- the characters of a fixed text
pub fixed : (bs : List ℕ) → is_plain bs ≡ true → chars bs ≡ bs
fixed bs e = chars-IsAscii bs (plain_ascii bs e)

-- a fixed text is appended
pub added_fixed : (new old bs : List ℕ) → is_plain bs ≡ true → new ≡ old ++ chars bs → new ≡ old ++ bs
added_fixed new old bs e h = h ∙ ap (λ x. old ++ x) (fixed bs e)

-- hexadecimal digits are ASCII
digit_ascii : (d : ℕ) → d < 16 → digit_glyph false d < 128
digit_ascii d h = grind (arith, nat_tests)

pub IsAscii-hex : (b : ℕ) → b < 256 → IsAscii (hex_digits b)
IsAscii-hex b h zero = digit_ascii (b / 16) (omega arith)
IsAscii-hex b h (suc zero) = digit_ascii (b % 16) (omega arith)
IsAscii-hex b h (suc (suc i)) = omega arith

-- decimals of up to 128 bits are ASCII
IsAscii-minus : (bs : List ℕ) → IsAscii bs → IsAscii (45 ∷ bs)
IsAscii-minus bs h zero = omega arith
IsAscii-minus bs h (suc i) = h i

pub IsAscii-signed_wide : (z : ℤ) → mag z < 2 ^ 127 → IsAscii (signed_decimal z)
IsAscii-signed_wide (pos n) h = IsAscii-decimal_wide n (omega arith)
IsAscii-signed_wide (negsuc n) h = IsAscii-minus (decimal (suc n)) (IsAscii-decimal_wide (suc n) (omega arith))

-- a text between two fixed ones
pub enclosed : {A E : Type 0} (r : Result A E) (new mid start old opens inner ends : List ℕ) → is_plain opens ≡ true → is_plain ends ≡ true
    → start ≡ old ++ chars opens → mid ≡ start ++ inner → OnOk r (new ≡ mid ++ chars ends) → OnOk r (new ≡ old ++ (opens ++ inner ++ ends))
enclosed r new mid start old opens inner ends p q e f =
    added_twice r new mid old (opens ++ inner) (chars ends) (opens ++ inner ++ ends) (added_more mid start old opens inner (added_fixed start old opens p e) f) (ap (λ x. opens ++ inner ++ x) (fixed ends q))

-- the digits of a number are those of its quotient by ten, and the last
pub two_digits : (n : ℕ) → 10 ≤ n → n < 2 ^ 64 → decimal (n / 10) ++ decimal (n % 10) ≡ decimal n
two_digits n lo hi = ap (λ ds. decimal (n / 10) ++ ds) (decimal_digit (n % 10) (omega arith)) ∙ sym (decimal_step n lo hi)

-- an int that isn't negative has the digits of a number
pub digits_of : (z : ℤ) → le_z (pos 0) z ≡ true → decimal (nat_abs z) ≡ signed_decimal z
digits_of (pos n) h = refl
digits_of (negsuc n) h = cc
