-- The names of types as scripts see them, and the fault that names two.
use Rattle.std.specs.Prelude.{ℕ, List, codes, nat_eq, if◌then◌else◌}
use Rattle.std.specs.Cmp.Lexicographic.{pointwise}
use Rattle.rhai_text.specs.declared.error.EvalAltResult.TheVariants.{ErrorMismatchDataType}
use Rattle.rhai_text.specs.declared.position.TheConstants.Position as position
use Rattle.rhai_value.specs.Types.{type_name}
use Rattle.rhai_value.specs.declared.value.type_id.TypeId.TheVariants as id
use Rattle.script_faults.specs.declared.faults.FaultKind.{FaultKind}
use Rattle.script_faults.specs.declared.faults.FaultKind.TheVariants.{Layer}

-- those of ranges are short
abbrev pub short_name : List ℕ → List ℕ
short_name name = if pointwise nat_eq name (type_name id.ExclusiveRange) then codes "range" else (if pointwise nat_eq name (type_name id.InclusiveRange) then codes "range=" else name)

-- a value of another type than the one that was wanted
abbrev pub mismatched : List ℕ → List ℕ → FaultKind
mismatched wanted found = Layer (ErrorMismatchDataType wanted (short_name found) position.NONE)
