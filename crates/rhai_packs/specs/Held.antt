-- Values of another type than the expected one, and failed allocations.
use Rattle.std.specs.Prelude.{◌≡◌, ℕ, List}
use Rattle.rhai_text.specs.declared.error.EvalAltResult.{EvalAltResult}
use Rattle.rhai_text.specs.declared.error.EvalAltResult.TheVariants.{ErrorMismatchDataType, ErrorDataRace, ErrorArithmetic, ErrorDataTooLarge, ErrorMemory}
use Rattle.rhai_value.specs.declared.value.type_id.TypeId.{TypeId}
use Rattle.rhai_value.specs.Types.{type_name}
use Rattle.rhai_packs.specs.Sizes.{no_place}

-- the error names the expected type and the held one
abbrev pub IsMismatch : TypeId → List ℕ → EvalAltResult → Type 0
IsMismatch wanted held (ErrorMismatchDataType w h p) = (w ≡ type_name wanted) × (h ≡ held) × (p ≡ no_place)
IsMismatch wanted held (ErrorDataTooLarge k p) = ⊥
IsMismatch wanted held (ErrorMemory e) = ⊥
IsMismatch wanted held (ErrorDataRace p) = ⊥
IsMismatch wanted held (ErrorArithmetic f p) = ⊥

-- the error is a failed allocation
abbrev pub IsMemory : EvalAltResult → Type 0
IsMemory (ErrorMemory e) = Unit {0}
IsMemory (ErrorMismatchDataType w h p) = ⊥
IsMemory (ErrorDataTooLarge k p) = ⊥
IsMemory (ErrorDataRace p) = ⊥
IsMemory (ErrorArithmetic f p) = ⊥
