-- The storage of a key's bytes.
use Rattle.std.specs.Prelude.{◌≡◌, ℕ, ◌≤◌, List, take, length, slice_index_or, string_bytes, ⊤}
use Rattle.std.specs.Str.{IsUtf8}
use Rattle.rhai_value.specs.declared.map.key.KeyForm.{KeyForm}
use Rattle.rhai_value.specs.declared.map.key.KeyForm.TheVariants.{Short, Long}

abbrev pub key_bytes : KeyForm → List ℕ
key_bytes (Short n bs) = take n bs
key_bytes (Long s) = string_bytes s

-- n bytes of a text, padded with zeros
pub record IsShort (n : ℕ) (bs : List ℕ) : Type 0 where
  pub within : n ≤ 30
  pub long : length bs ≡ 30
  pub text : ∥ IsUtf8 (take n bs) ∥₁
  pub zeros : (i : ℕ) → n ≤ i → slice_index_or bs i 0 ≡ 0

abbrev pub IsKey : KeyForm → Type 0
IsKey (Short n bs) = IsShort n bs
IsKey (Long s) = ⊤
