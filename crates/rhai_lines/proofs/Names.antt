-- A name is ASCII, so its bytes are its characters.
use Rattle.std.proofs.Common.{◌≡◌, ℕ, true, false, ◌&&◌, if◌then◌else◌, nat_lt, List, [], ◌∷◌, length, Some, None, refl, sym, ap, ap₂, ◌∙◌, arith}
use Rattle.std.specs.List.{list_all}
use Rattle.std.specs.Str.{chars, IsAscii}
use Rattle.std.proofs.lemmas.Bool.Decides.{nat_tests}
use Rattle.std.proofs.lemmas.Str.{chars-IsAscii}
use Rattle.rhai_lines.specs.Words.{is_name_byte, is_name, name_of}
use Rattle.rhai_lines.proofs.SaysBack.{graphic, is_graphic, both, graphic_ascii}

pub name_graphic : (w : List ℕ) → list_all is_name_byte w ≡ true → graphic w ≡ true
name_graphic [] e = refl
name_graphic (b ∷ bs) e =
    let h = both (is_name_byte b) (list_all is_name_byte bs) e in
    ap₂ (λ s t. s && t) (each b h.0) (name_graphic bs h.1)
  where
    each : (b : ℕ) → is_name_byte b ≡ true → is_graphic b ≡ true
    each b e = grind (arith, nat_tests)

pub name_is_ascii : (word : List ℕ) → is_name word ≡ true → IsAscii word
name_is_ascii word e = graphic_ascii word (name_graphic word (both (nat_lt 0 (length word)) (list_all is_name_byte word) e).1)

pub name_chars : (word : List ℕ) → is_name word ≡ true → name_of word ≡ Some (chars word)
name_chars word e = ap (λ t. if t then Some word else None) e ∙ ap Some (sym (chars-IsAscii word (name_is_ascii word e)))

pub no_name : (word : List ℕ) → is_name word ≡ false → name_of word ≡ None
no_name word e = ap (λ t. if t then Some word else None) e
