-- Flags of items, and the unflagged items.
use Rattle.std.proofs.Common.{◌≡◌, ◌<◌, ◌↔◌, ◌+◌, ◌-◌, ℕ, Bool, false, List, [], ◌∷◌, ◌++◌, length, slice_index_or, IsTrue, ⊎_elim, sym, ◌∙◌, subst, arith}
use Rattle.std.proofs.lemmas.Bool.{cases_lt}
use Rattle.std.proofs.lemmas.List.{get_or_append_left, get_or_at, get_or_default}
use Rattle.rhai_value.specs.declared.cells.store.Cell.{Cell}
use Rattle.rhai_value.specs.Tree.{Tree}
use Rattle.rhai_packs.specs.Repeats.{IsRepeat}
use Rattle.rhai_packs.specs.Same.{AreSame}

-- one more flag
pub each_more : (P : ℕ → Type 0) (fs : List Bool) (n : ℕ) (b : Bool) → length fs ≡ n → ((j : ℕ) → j < n → IsTrue (slice_index_or fs j false) ↔ P j) → IsTrue b ↔ P n
    → (j : ℕ) → j < n + 1 → IsTrue (slice_index_or (fs ++ b ∷ []) j false) ↔ P j
each_more P fs n b len each last j within =
    ⊎_elim (λ less. subst (λ c. IsTrue c ↔ P j) (sym (get_or_append_left fs (b ∷ []) false j (omega (arith, less, len)))) (each j less))
    (λ more. let same : j ≡ n = omega (arith, more, within) in
    subst (λ k. IsTrue (slice_index_or (fs ++ b ∷ []) k false) ↔ P k) (sym same) (subst (λ c. IsTrue c ↔ P n) (sym (get_or_at fs b [] false n len)) last))
    (cases_lt j n)

-- the item at an index equals the one before it
pub repeat_is : (s : List Cell) (xs : List Tree) (i : ℕ) (x y : Tree) (b : Bool) → (i ≡ 0 → ⊥) → i < length xs → x ≡ slice_index_or xs (i - 1) x → y ≡ slice_index_or xs i y
    → IsTrue b ↔ AreSame s x y → IsTrue b ↔ IsRepeat s xs i
repeat_is s xs i x y b behind within at_x at_y h = (
  λ t. (
    omega (arith, behind),
    λ d.
        subst (λ u. AreSame s u (slice_index_or xs i d)) (at_x ∙ get_or_default xs (i - 1) x d (omega (arith, within)))
        (subst (AreSame s x) (at_y ∙ get_or_default xs i y d within) (h.0 t)),
  ),
  λ k. h.1 (subst (λ u. AreSame s u y) (sym at_x) (subst (AreSame s (slice_index_or xs (i - 1) x)) (get_or_default xs i x y within ∙ sym at_y) (k.1 x))),
)
