-- Walks that are refused.
use Rattle.std.specs.Prelude.{◌≡◌, ◌≢◌, ◌⊎◌, true}
use Rattle.rhai_text.specs.declared.error.EvalAltResult.TheVariants.{ErrorDataTooLarge}
use Rattle.rhai_text.specs.declared.error.SizeKind.TheVariants.{Items}
use Rattle.rhai_text.specs.declared.limits.Limits.{Limits}
use Rattle.rhai_text.specs.declared.position.TheConstants.Position as position
use Rattle.script_faults.specs.Catchable.{is_want_of_memory}
use Rattle.script_faults.specs.declared.faults.FaultKind.{FaultKind}
use Rattle.script_faults.specs.declared.faults.FaultKind.TheVariants.{Layer}

-- A walk would visit more values than an array may have items, if that has a limit, or an allocation failed.
abbrev pub IsRefusedWalk : Limits → FaultKind → Type 0
IsRefusedWalk l e = ((e ≡ Layer (ErrorDataTooLarge Items position.NONE)) × (l.items ≢ 0)) ⊎ (is_want_of_memory e ≡ true)
