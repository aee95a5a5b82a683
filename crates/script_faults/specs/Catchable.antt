-- Which faults a script may catch, and which one is a failed allocation.
use Rattle.std.specs.Prelude.{Bool, true, false}
use Rattle.rhai_text.specs.declared.error.EvalAltResult.{EvalAltResult}
use Rattle.rhai_text.specs.declared.error.EvalAltResult.TheVariants.{ErrorMismatchDataType, ErrorDataRace, ErrorArithmetic, ErrorDataTooLarge, ErrorMemory}
use Rattle.rhai_text.specs.Error.{is_memory}
use Rattle.script_faults.specs.declared.faults.FaultKind.{FaultKind}
use Rattle.script_faults.specs.declared.faults.FaultKind.TheVariants.{Layer, UnknownName, UnboundThis, UnknownFunction, NoOperator, NoParts, OutOfRange, NoKey, TooFar, Constant, NoNumber, NoRadix, NoStep, Thrown, TooManyOperations, TooManyEntries, TooMuchOutput, TooMuchMemory, TooManyCalls}

-- neither a size over its limit nor a failed allocation
abbrev pub is_error_catchable : EvalAltResult → Bool
is_error_catchable (ErrorMismatchDataType wanted found p) = true
is_error_catchable (ErrorDataRace p) = true
is_error_catchable (ErrorArithmetic fault p) = true
is_error_catchable (ErrorDataTooLarge size p) = false
is_error_catchable (ErrorMemory e) = false

abbrev pub is_want_of_memory : FaultKind → Bool
is_want_of_memory (Layer e) = is_memory e
is_want_of_memory (UnknownName name) = false
is_want_of_memory UnboundThis = false
is_want_of_memory (UnknownFunction name count) = false
is_want_of_memory (NoOperator op first second) = false
is_want_of_memory (NoParts found) = false
is_want_of_memory (OutOfRange index count) = false
is_want_of_memory NoKey = false
is_want_of_memory TooFar = false
is_want_of_memory Constant = false
is_want_of_memory NoNumber = false
is_want_of_memory NoRadix = false
is_want_of_memory NoStep = false
is_want_of_memory (Thrown value) = false
is_want_of_memory TooManyOperations = false
is_want_of_memory TooManyEntries = false
is_want_of_memory TooMuchOutput = false
is_want_of_memory TooMuchMemory = false
is_want_of_memory TooManyCalls = false

-- limits of a run and failed allocations end it, whatever the script says
abbrev pub is_catchable : FaultKind → Bool
is_catchable (Layer e) = is_error_catchable e
is_catchable (UnknownName name) = true
is_catchable UnboundThis = true
is_catchable (UnknownFunction name count) = true
is_catchable (NoOperator op first second) = true
is_catchable (NoParts found) = true
is_catchable (OutOfRange index count) = true
is_catchable NoKey = true
is_catchable TooFar = true
is_catchable Constant = true
is_catchable NoNumber = true
is_catchable NoRadix = true
is_catchable NoStep = true
is_catchable (Thrown value) = true
is_catchable TooManyOperations = false
is_catchable TooManyEntries = false
is_catchable TooMuchOutput = false
is_catchable TooMuchMemory = false
is_catchable TooManyCalls = false
