-- How a text or a character is quoted. `quote` is the code of the quotation mark, which is 34 for `"` and 39 for `'`.
use Rattle.std.specs.Prelude.{◌≡◌, ℕ, ◌||◌, ◌==◌, List, [], ◌∷◌, ◌++◌, if◌then◌else◌}
use Rattle.std.specs.Char.{is_ascii_control}
use Rattle.std.specs.Char.Escape.{backslash, escape_unicode}
use Rattle.std.specs.List.{flat_map}

-- The escaped form of a character: NUL, tab, LF, CR and the backslash as `\0`, `\t`, `\n`, `\r` and
-- `\\`, the quotation mark with a backslash before it, other characters below U+0020 and U+007F as
-- `\u{..}` with their code in lower-case hexadecimal, and all others unescaped.
abbrev pub escaped : ℕ → ℕ → List ℕ
escaped quote c =
    if c == 0 then backslash ∷ 48 ∷ []
    else (if c == 9 then backslash ∷ 116 ∷ []
    else (if c == 10 then backslash ∷ 110 ∷ []
    else (if c == 13 then backslash ∷ 114 ∷ []
    else (if c == backslash || c == quote then backslash ∷ c ∷ []
    else (if is_ascii_control c then escape_unicode c else c ∷ [])))))

-- a quoted text
abbrev pub quoted : ℕ → List ℕ → List ℕ
quoted quote text = quote ∷ (flat_map (escaped quote) text ++ (quote ∷ []))

abbrev pub quoted_text : List ℕ → List ℕ
quoted_text text = quoted 34 text

abbrev pub quoted_char : ℕ → List ℕ
quoted_char character = quoted 39 (character ∷ [])

-- old is a prefix of new
abbrev pub Extends : List ℕ → List ℕ → Type 0
Extends old new = (more : List ℕ) × (new ≡ old ++ more)
