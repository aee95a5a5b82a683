-- Limits on sizes, and why a value doesn't grow.
use Rattle.std.specs.Prelude.{◌≡◌, ℕ, ◌+◌, Bool, true, false, ◌||◌, nat_eq, nat_le, Result, Ok, Err}
use Rattle.rhai_text.specs.declared.error.EvalAltResult.{EvalAltResult}
use Rattle.rhai_text.specs.declared.error.EvalAltResult.TheVariants.{ErrorMismatchDataType, ErrorDataRace, ErrorArithmetic, ErrorDataTooLarge, ErrorMemory}
use Rattle.rhai_text.specs.declared.error.SizeKind.{SizeKind}
use Rattle.rhai_text.specs.declared.position.Position.{Position}

-- whether a length is allowed: a limit of 0 means none, and a length equal to the limit is allowed
abbrev pub is_allowed : ℕ → ℕ → Bool
is_allowed limit n = nat_eq limit 0 || nat_le n limit

abbrev pub no_place : Position
no_place = record { line = 0; position = 0 }

-- why a growth fails: the limit forbids it, or the limit allows it and the allocation failed
abbrev pub IsRefusal : SizeKind → Bool → EvalAltResult → Type 0
IsRefusal k allowed (ErrorDataTooLarge j p) = (allowed ≡ false) × (j ≡ k) × (p ≡ no_place)
IsRefusal k allowed (ErrorMemory e) = allowed ≡ true
IsRefusal k allowed (ErrorMismatchDataType wanted found p) = ⊥
IsRefusal k allowed (ErrorDataRace p) = ⊥
IsRefusal k allowed (ErrorArithmetic f p) = ⊥

-- A call succeeds if the limit allows it, and otherwise gives the error.
abbrev pub IsLimited : {A : Type 0} → SizeKind → Bool → Result A EvalAltResult → Type 0
IsLimited k allowed (Ok x) = allowed ≡ true
IsLimited k allowed (Err e) = IsRefusal k allowed e

-- whether a value of one length may grow by another; always if nothing is added
abbrev pub may_grow : ℕ → ℕ → ℕ → Bool
may_grow limit n more = nat_eq more 0 || is_allowed limit (n + more)
