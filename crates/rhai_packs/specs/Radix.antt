-- Ints parsed in a radix.
use Rattle.std.specs.Prelude.{ℕ, ◌≤◌, cond, ℤ, pos, negsuc, List, unsigned_abs}
use Rattle.std.specs.Str.Parse.{IsParseIntError, error_kind, starts_with_minus, without_leading_sign}
use Rattle.std.specs.declared.num.IntErrorKind.TheVariants.{NegOverflow, PosOverflow}
use Rattle.rhai_packs.specs.declared.ints.ParseRadixError.{ParseRadixError}
use Rattle.rhai_packs.specs.declared.ints.ParseRadixError.TheVariants.{InvalidRadix, InvalidText}

-- the number is a radix: 2 to 36
abbrev pub IsRadix : ℤ → Type 0
IsRadix (pos n) = (2 ≤ n) × (n ≤ 36)
IsRadix (negsuc n) = ⊥

-- why the text isn't an int in this radix
abbrev pub IsUnread : ℤ → List ℕ → ParseRadixError → Type 0
IsUnread radix text InvalidRadix = ¬ (IsRadix radix)
IsUnread radix text (InvalidText e) = IsRadix radix
    × IsParseIntError (unsigned_abs radix) text (without_leading_sign text) (cond (starts_with_minus text) NegOverflow PosOverflow) (error_kind e)
