-- The list of the cell numbers in a value.
use Rattle.std.proofs.Common.{◌≡◌, ℕ, ⊎_elim, List, [], ◌++◌, map, Contains, refl, sym, ap₂, subst, ◌∙◌}
use Rattle.std.proofs.lemmas.List.{map-append}
use Rattle.std.proofs.lemmas.List.Elements.{Contains-append_cases, Contains-append_left, Contains-append_right}
use Rattle.rhai_value.specs.Cells.{EachCell, EachInAll, EachInFields, renumbered, renumbered_all, renumbered_fields, cells_in, cells_in_all, cells_in_fields}
use Rattle.rhai_value.specs.Tree.{Tree}
use Rattle.rhai_value.proofs.Rising.{here, here_or_there, nothing_in}
use Rattle.rhai_value.proofs.Trees.{by_value}

-- those of a renumbered value
pub cells_renumbered : (f : ℕ → ℕ) (t : Tree) → cells_in (renumbered f t) ≡ map f (cells_in t)
cells_renumbered f = by_value (λ t. cells_in (renumbered f t) ≡ map f (cells_in t)) (λ ts. cells_in_all (renumbered_all f ts) ≡ map f (cells_in_all ts)) (λ fs. cells_in_fields (renumbered_fields f fs) ≡ map f (cells_in_fields fs))
    (λ l g m. refl) (λ k ts g m h. h) (λ fs g m h. h) (λ c g m. refl)
    refl (λ t ts p q. ap₂ ◌++◌ p q ∙ sym (map-append f (cells_in t) (cells_in_all ts)))
    refl (λ k t fs p q. ap₂ ◌++◌ p q ∙ sym (map-append f (cells_in t) (cells_in_fields fs)))

module _ (P : ℕ → Type 0) where
  abbrev OfAll : List ℕ → Type 0
  OfAll ns = (n : ℕ) → Contains ns n → P n

  -- a property of each number in the list holds of each number in the value
  pub each_in : (t : Tree) → ((n : ℕ) → Contains (cells_in t) n → P n) → EachCell P t
  each_in = by_value (λ t. OfAll (cells_in t) → EachCell P t) (λ ts. OfAll (cells_in_all ts) → EachInAll P ts) (λ fs. OfAll (cells_in_fields fs) → EachInFields P fs)
      (λ l g m h. tt) (λ k ts g m e h. e h) (λ fs g m e h. e h) (λ c g m h. h c (here c []))
      (λ h. tt) (λ t ts p q h. (p (λ n i. h n (Contains-append_left (cells_in t) (cells_in_all ts) n i)), q (λ n i. h n (Contains-append_right (cells_in t) (cells_in_all ts) n i))))
      (λ h. tt) (λ k t fs p q h. (p (λ n i. h n (Contains-append_left (cells_in t) (cells_in_fields fs) n i)), q (λ n i. h n (Contains-append_right (cells_in t) (cells_in_fields fs) n i))))

  of_both : (ms ns : List ℕ) → OfAll ms → OfAll ns → OfAll (ms ++ ns)
  of_both ms ns p q n h = ⊎_elim (p n) (q n) (Contains-append_cases ms ns n h)

  -- and conversely
  pub each_of : (t : Tree) → EachCell P t → (n : ℕ) → Contains (cells_in t) n → P n
  each_of = by_value (λ t. EachCell P t → OfAll (cells_in t)) (λ ts. EachInAll P ts → OfAll (cells_in_all ts)) (λ fs. EachInFields P fs → OfAll (cells_in_fields fs))
      (λ l g m e n h. absurd (nothing_in n h)) (λ k ts g m q e. q e) (λ fs g m q e. q e) (λ c g m e n h. ⊎_elim (λ is. subst P is e) (λ i. absurd (nothing_in n i)) (here_or_there c n [] h))
      (λ e n h. absurd (nothing_in n h)) (λ t ts p q e. of_both (cells_in t) (cells_in_all ts) (p e.0) (q e.1))
      (λ e n h. absurd (nothing_in n h)) (λ k t fs p q e. of_both (cells_in t) (cells_in_fields fs) (p e.0) (q e.1))
