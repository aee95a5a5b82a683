-- The printed form of values without children.
use Rattle.std.specs.Prelude.{ℕ, suc, ◌/◌, ◌%◌, ◌^◌, ◌-◌, ℤ, pos, Bool, true, false, ◌==◌, ◌&&◌, nat_lt, if◌then◌else◌, List, [], ◌∷◌, ◌++◌, codes}
use Rattle.std.specs.Fmt.{decimal, signed_decimal, digit_glyph}
use Rattle.std.specs.Ordering.{int_eq}
use Rattle.rhai_text.specs.Quote.{quoted_text, quoted_char}
use Rattle.rhai_value.specs.declared.value.host.Host.{Host}
use Rattle.rhai_value.specs.declared.value.host.Host.TheVariants as host_kind
use Rattle.rhai_value.specs.Tree.{Leaf, unit, bool, int, char, text, blob, host}
use Rattle.rhai_show.specs.declared.form.Form.{Form}
use Rattle.rhai_show.specs.declared.form.Form.TheVariants.{Display, Inner, Debug}

-- a boolean's name
abbrev pub bool_text : Bool → List ℕ
bool_text true = codes "true"
bool_text false = codes "false"

-- the first in Debug, otherwise the second
abbrev pub in_debug : Form → List ℕ → List ℕ → List ℕ
in_debug Display quoted plain = plain
in_debug Inner quoted plain = plain
in_debug Debug quoted plain = quoted

-- two lower-case hexadecimal digits
abbrev pub hex_digits : ℕ → List ℕ
hex_digits b = digit_glyph false (b / 16) ∷ digit_glyph false (b % 16) ∷ []

-- a space before byte 8, 16, 24 and so on, counted from 0
abbrev pub space_before : ℕ → List ℕ
space_before i = if nat_lt 0 i && i % 8 == 0 then codes " " else []

-- the bytes from byte i on
abbrev pub bytes_from : ℕ → List ℕ → List ℕ
bytes_from i [] = []
bytes_from i (b ∷ bs) = space_before i ++ hex_digits b ++ bytes_from (suc i) bs

abbrev pub blob_printed : List ℕ → List ℕ
blob_printed bs = codes "[" ++ bytes_from 0 bs ++ codes "]"

-- the end of a range, omitted if it is the greatest integer
abbrev pub end_printed : ℤ → List ℕ
end_printed n = if int_eq n (pos (2 ^ 63 - 1)) then [] else signed_decimal n

-- numbers are plain decimal
abbrev pub host_printed : Host → List ℕ
host_printed (host_kind.U8 n) = decimal n
host_printed (host_kind.U16 n) = decimal n
host_printed (host_kind.U32 n) = decimal n
host_printed (host_kind.U64 n) = decimal n
host_printed (host_kind.U128 n) = decimal n
host_printed (host_kind.I8 n) = signed_decimal n
host_printed (host_kind.I16 n) = signed_decimal n
host_printed (host_kind.I32 n) = signed_decimal n
host_printed (host_kind.I128 n) = signed_decimal n
host_printed (host_kind.ExclusiveRange r) = signed_decimal r.start ++ codes ".." ++ end_printed r.end
host_printed (host_kind.InclusiveRange r) = signed_decimal r.start ++ codes "..=" ++ end_printed r.end

-- Unit prints nothing except in Debug; numbers are plain decimal; characters and texts are printed
-- as they are, and quoted in Debug.
abbrev pub leaf_printed : Form → Leaf → List ℕ
leaf_printed form unit = in_debug form (codes "()") []
leaf_printed form (bool b) = bool_text b
leaf_printed form (int n) = signed_decimal n
leaf_printed form (char c) = in_debug form (quoted_char c) (c ∷ [])
leaf_printed form (text s) = in_debug form (quoted_text s) s
leaf_printed form (blob bs) = blob_printed bs
leaf_printed form (host h) = host_printed h
