-- What operations cost: one pays for four values, or for 64 bytes.
use Rattle.std.specs.Prelude.{ℕ, ◌+◌, ◌/◌, ◌-◌, ◌^◌, Bool, true, false, List, length, min, nat_eq, if◌then◌else◌}
use Rattle.std.specs.Str.{encode_utf8_all}
use Rattle.rhai_value.specs.Tree.{Tree, node, leaf, branch, fields, holder}

-- a count that stops at the largest number of 64 bits
abbrev pub capped : ℕ → ℕ
capped n = min n (2 ^ 64 - 1)

-- a walk over a text's characters: over its bytes, and over its characters too unless it is ASCII
abbrev pub text_cost : List ℕ → ℕ
text_cost s = if nat_eq (length s) (length (encode_utf8_all s)) then length (encode_utf8_all s) / 64 else length (encode_utf8_all s) / 64 + length (encode_utf8_all s) / 4

-- whether a value contains other values
abbrev pub has_parts : Tree → Bool
has_parts (node (leaf l) g m) = false
has_parts (node (branch k ts) g m) = true
has_parts (node (fields fs) g m) = true
has_parts (node (holder c) g m) = false
