use Rattle.std.specs.Prelude.{ℕ, Option, Some, None}
use Rattle.script_code.specs.declared.meaning.Meaning.{Meaning}
use Rattle.script_code.specs.declared.meaning.Meaning.TheVariants.{Host}

-- the number of the host function that a name means, if it means one
abbrev pub host_number : Meaning → Option ℕ
host_number (Host number) = Some number
host_number _ = None
