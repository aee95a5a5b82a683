-- The position of an error in the script, and whether it is a failed allocation.
use Rattle.std.specs.Prelude.{Bool, true, false}
use Rattle.rhai_text.specs.declared.error.EvalAltResult.{EvalAltResult}
use Rattle.rhai_text.specs.declared.error.EvalAltResult.TheVariants.{ErrorArithmetic, ErrorDataTooLarge, ErrorMemory, ErrorDataRace, ErrorMismatchDataType}
use Rattle.rhai_text.specs.declared.position.Position.{Position}
use Rattle.rhai_text.specs.declared.position.TheConstants.Position as position

-- a failed allocation has no position
abbrev pub place_of : EvalAltResult → Position
place_of (ErrorMismatchDataType wanted found p) = p
place_of (ErrorDataRace p) = p
place_of (ErrorArithmetic fault p) = p
place_of (ErrorDataTooLarge size p) = p
place_of (ErrorMemory e) = position.NONE

-- the error at this position, if it has one
abbrev pub at_place : Position → EvalAltResult → EvalAltResult
at_place p (ErrorMismatchDataType wanted found q) = ErrorMismatchDataType wanted found p
at_place p (ErrorDataRace q) = ErrorDataRace p
at_place p (ErrorArithmetic fault q) = ErrorArithmetic fault p
at_place p (ErrorDataTooLarge size q) = ErrorDataTooLarge size p
at_place p (ErrorMemory e) = ErrorMemory e

-- whether an allocation failed; every other error is due to the script
abbrev pub is_memory : EvalAltResult → Bool
is_memory (ErrorMismatchDataType wanted found p) = false
is_memory (ErrorDataRace p) = false
is_memory (ErrorArithmetic fault p) = false
is_memory (ErrorDataTooLarge size p) = false
is_memory (ErrorMemory e) = true
