-- Bytes that are a text, and those that are not.
use Rattle.std.proofs.Common.{◌≡◌, ℕ, List, Some, None, refl, sym, ap, ◌∙◌}
use Rattle.std.specs.Str.{IsUtf8, chars}
use Rattle.std.proofs.lemmas.Bool.{false_from_ne_true}
use Rattle.std.proofs.lemmas.Str.{IsUtf8-from_is_utf8, is_utf8-from_IsUtf8}
use Rattle.rhai_host.specs.Numbers.{text_of}

pub is_text : (bytes : List ℕ) → IsUtf8 bytes → text_of bytes ≡ Some (chars bytes)
is_text bytes h = rw (is_utf8-from_IsUtf8 bytes h) refl

pub is_named : (bytes text name : List ℕ) → text ≡ bytes → IsUtf8 bytes → name ≡ chars text → Some name ≡ text_of bytes
is_named bytes text name e h n = ap Some (n ∙ ap chars e) ∙ sym (is_text bytes h)

pub is_no_text : (bytes : List ℕ) → (IsUtf8 bytes → ⊥) → None ≡ text_of bytes
is_no_text bytes h = rw (false_from_ne_true _ (λ e. h (IsUtf8-from_is_utf8 bytes e))) refl
