-- Why a value can't be read as a type.
use Rattle.std.specs.Prelude.{◌≡◌, true, None, is_some}
use Rattle.rhai_value.specs.declared.value.type_id.TypeId.{TypeId}
use Rattle.rhai_value.specs.declared.value.type_id.TypeId.TheVariants as id
use Rattle.rhai_value.specs.Tree.{Tree}
use Rattle.rhai_value.specs.Types.{is_type}
use Rattle.rhai_variant.specs.declared.cast_error.CastError.{CastError}
use Rattle.rhai_variant.specs.declared.cast_error.CastError.TheVariants.{Mismatch, Memory}
use Rattle.rhai_variant.specs.Reads.{read}

-- The error has the value. It can't be read as the type; or a text is read, and an allocation for a `String` failed.
abbrev pub IsRefused : TypeId → CastError → Tree → Type 0
IsRefused k (Mismatch d) t = (d ≡ t) × (read k t ≡ None)
IsRefused k (Memory d) t = (d ≡ t) × (is_type k id.String ≡ true) × (is_some (read k t) ≡ true)
