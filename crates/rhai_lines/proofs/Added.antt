-- Appending bytes to a line.
use Rattle.std.proofs.Common.{◌≡◌, ℕ, Bool, true, false, if◌then◌else◌, List, ◌++◌, Option, Some, None, option_map, Result, Ok, Err, encode_utf8_all, refl, sym, ap, ◌∙◌, append_assoc}
use Rattle.std.specs.Str.{chars}
use Rattle.std.specs.declared.alloc.AllocError.{AllocError}
use Rattle.std.proofs.lemmas.Str.{chars-IsAscii, encodes-chars, IsUtf8-from_ascii}
use Rattle.rhai_lines.specs.Words.{is_name, name_of}
use Rattle.rhai_lines.specs.Cursor.{Adds}
use Rattle.rhai_lines.proofs.Names.{name_is_ascii}

-- something fixed is appended, and then the bytes of a value
pub added_behind : (r : Result Bool AllocError) (front : List ℕ) (said : Option (List ℕ)) (old mid new : List ℕ) → mid ≡ old ++ front → Adds r said mid new → Adds r (option_map (λ w. front ++ w) said) old new
added_behind (Ok true) front None old mid new e h = absurd h
added_behind (Ok true) front (Some w) old mid new e h = h ∙ ap (λ x. x ++ w) e ∙ append_assoc old front w
added_behind (Ok false) front None old mid new e h = refl
added_behind (Ok false) front (Some w) old mid new e h = cc
added_behind (Err x) front said old mid new e h = tt

-- a name is its own bytes
bytes_of_name : (name : List ℕ) → is_name name ≡ true → encode_utf8_all name ≡ name
bytes_of_name name e = let a = name_is_ascii name e in ap encode_utf8_all (sym (chars-IsAscii name a)) ∙ encodes-chars name (IsUtf8-from_ascii name a)

pub name_by_bytes : (name bytes : List ℕ) → chars bytes ≡ name → bytes ≡ encode_utf8_all name → name_of name ≡ name_of bytes
name_by_bytes name bytes c b = by (is_name bytes) (is_name name) refl refl
  where
    by : (s t : Bool) → is_name bytes ≡ s → is_name name ≡ t → name_of name ≡ name_of bytes
    by true t e f = ap name_of (sym c ∙ chars-IsAscii bytes (name_is_ascii bytes e))
    by false true e f = ap name_of (sym (b ∙ bytes_of_name name f))
    by false false e f = ap (λ t. if t then Some name else None) f ∙ sym (ap (λ t. if t then Some bytes else None) e)
