-- The bytes of a text.
use Rattle.std.specs.Prelude.{ℕ, List}
use Rattle.rhai_text.specs.declared.text_bytes.TextBytes.{TextBytes}
use Rattle.rhai_text.specs.declared.text_bytes.TextBytes.TheVariants.{Short, Long}

-- they are the same wherever they are stored
abbrev pub text_bytes : TextBytes → List ℕ
text_bytes (Short t) = t.bytes
text_bytes (Long t) = t
