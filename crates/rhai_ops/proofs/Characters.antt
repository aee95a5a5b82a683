-- Comparisons of texts, and of characters, which agree with those of their texts.
use Rattle.std.proofs.Common.{◌≡◌, ℕ, ℤ, nat_eq, List, [], ◌∷◌, Option, Some, None, refl, ap}
use Rattle.std.proofs.lemmas.Map.Text.{is_eq-slice_cmp}
use Rattle.std.specs.Cmp.Lexicographic.{pointwise}
use Rattle.std.specs.Ordering.{nat_cmp, ordering_then}
use Rattle.std.specs.declared.cmp.Ordering.{Ordering}
use Rattle.std.specs.declared.cmp.Ordering.TheVariants as order
use Rattle.rhai_text.specs.declared.limits.Limits.{Limits}
use Rattle.rhai_text.specs.declared.token.Token.{Token}
use Rattle.rhai_text.specs.declared.token.Token.TheVariants as op
use Rattle.rhai_value.specs.declared.value.access_mode.AccessMode.{AccessMode}
use Rattle.rhai_value.specs.declared.cells.store.Cell.{Cell}
use Rattle.rhai_value.specs.Tree.{Tree, node, leaf, char, text}
use Rattle.rhai_value.specs.Parts.{char_of, text_of}
use Rattle.rhai_ops.specs.declared.builtin.FnBuiltin.TheVariants as row
use Rattle.rhai_ops.specs.Numbers.{compared}
use Rattle.rhai_ops.specs.Outcome.{bool_answer, both}
use Rattle.rhai_ops.specs.Results.{part, outcome, text_order}
use Rattle.rhai_ops.proofs.Suited.{own_part}

-- texts are equal if the order says so
pub equal_by_order : (v w : List ℕ) → compared op.EqualsTo (text_order v w) ≡ Some (pointwise nat_eq v w)
equal_by_order v w = ap Some (is_eq-slice_cmp v w)

-- no comparison reads the limits
abbrev l : Limits
l = record { text = 0; items = 0 }

module _ (t : Token) (s : List Cell) where
  pub first_as_text : (c : ℕ) (g : ℤ) (m : AccessMode) (y : Tree) → outcome (row.CharTextCompare t) l s (node (leaf (char c)) g m) y ≡ outcome (row.TextCompare t) l s (node (leaf (text (c ∷ []))) g m) y
  first_as_text c g m y = rw (own_part char_of s (char c) g m, own_part text_of s (text (c ∷ [])) g m) refl

  pub second_as_text : (x : Tree) (d : ℕ) (g : ℤ) (m : AccessMode) → outcome (row.TextCharCompare t) l s x (node (leaf (char d)) g m) ≡ outcome (row.TextCompare t) l s x (node (leaf (text (d ∷ []))) g m)
  second_as_text x d g m = rw (own_part char_of s (char d) g m, own_part text_of s (text (d ∷ [])) g m) (with_first (part text_of s x))
    where
      with_first : (o : Option (List ℕ)) → both (λ v e. bool_answer (compared t (text_order v (e ∷ [])))) o (Some d) ≡ both (λ v w. bool_answer (compared t (text_order v w))) o (Some (d ∷ []))
      with_first (Some v) = refl
      with_first None = refl

  one_order : (o : Ordering) → o ≡ ordering_then o order.Equal
  one_order order.Less = refl
  one_order order.Equal = refl
  one_order order.Greater = refl

  pub both_as_texts : (c d : ℕ) (g h : ℤ) (m n : AccessMode) → outcome (row.CharCompare t) l s (node (leaf (char c)) g m) (node (leaf (char d)) h n) ≡ outcome (row.TextCompare t) l s (node (leaf (text (c ∷ []))) g m) (node (leaf (text (d ∷ []))) h n)
  both_as_texts c d g h m n =
      rw (own_part char_of s (char c) g m, own_part text_of s (text (c ∷ [])) g m, own_part char_of s (char d) h n, own_part text_of s (text (d ∷ [])) h n)
      (ap (λ o. bool_answer (compared t o)) (one_order (nat_cmp c d)))
