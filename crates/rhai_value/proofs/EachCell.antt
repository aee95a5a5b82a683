-- The cell numbers in values, and in related ones.
use Rattle.std.proofs.Common.{◌≡◌, ℕ, true, refl}
use Rattle.rhai_value.specs.Cells.{EachCell, EachInAll, EachInFields, renumbered, renumbered_all, renumbered_fields}
use Rattle.rhai_value.specs.Relation.{Renaming, paired, Related, AllRelated, RelatedFields}
use Rattle.rhai_value.specs.Tree.{Tree}
use Rattle.rhai_value.proofs.SameTrees.{by_related}
use Rattle.rhai_value.proofs.Trees.{by_value}

module _ (P Q : ℕ → Type 0) where
  -- the property of each number may be weakened
  pub each_weaker : ((c : ℕ) → P c → Q c) → (t : Tree) → EachCell P t → EachCell Q t
  each_weaker weaker = by_value (λ t. EachCell P t → EachCell Q t) (λ ts. EachInAll P ts → EachInAll Q ts) (λ fs. EachInFields P fs → EachInFields Q fs)
      (λ l g m h. tt) (λ k ts g m h. h) (λ fs g m h. h) (λ c g m. weaker c) (λ h. tt) (λ t ts p q h. (p h.0, q h.1)) (λ h. tt) (λ k t fs p q h. (p h.0, q h.1))

  -- the property of the new numbers
  pub each_renumbered : (f : ℕ → ℕ) → ((c : ℕ) → P c → Q (f c)) → (t : Tree) → EachCell P t → EachCell Q (renumbered f t)
  each_renumbered f there = by_value (λ t. EachCell P t → EachCell Q (renumbered f t)) (λ ts. EachInAll P ts → EachInAll Q (renumbered_all f ts)) (λ fs. EachInFields P fs → EachInFields Q (renumbered_fields f fs))
      (λ l g m h. tt) (λ k ts g m h. h) (λ fs g m h. h) (λ c g m. there c) (λ h. tt) (λ t ts p q h. (p h.0, q h.1)) (λ h. tt) (λ k t fs p q h. (p h.0, q h.1))

module _ (P : ℕ → Type 0) (r : Renaming) where
  -- a value is related to itself if each of its cells is paired with itself
  pub related_self : ((c : ℕ) → P c → paired r c c ≡ true) → (t : Tree) → EachCell P t → Related r t t
  related_self pairs = by_value (λ t. EachCell P t → Related r t t) (λ ts. EachInAll P ts → AllRelated r ts ts) (λ fs. EachInFields P fs → RelatedFields r fs fs)
      (λ l g m h. (refl, refl, refl)) (λ k ts g m all h. ((refl, all h), refl, refl)) (λ fs g m all h. (all h, refl, refl)) (λ c g m h. (pairs c h, refl, refl))
      (λ h. tt) (λ t ts p q h. (p h.0, q h.1)) (λ h. tt) (λ k t fs p q h. (refl, p h.0, q h.1))

  -- and to the renumbered value, if each cell is paired with its new number
  pub related_renumbered : (f : ℕ → ℕ) → ((c : ℕ) → P c → paired r c (f c) ≡ true) → (t : Tree) → EachCell P t → Related r t (renumbered f t)
  related_renumbered f pairs = by_value (λ t. EachCell P t → Related r t (renumbered f t)) (λ ts. EachInAll P ts → AllRelated r ts (renumbered_all f ts)) (λ fs. EachInFields P fs → RelatedFields r fs (renumbered_fields f fs))
      (λ l g m h. (refl, refl, refl)) (λ k ts g m all h. ((refl, all h), refl, refl)) (λ fs g m all h. (all h, refl, refl)) (λ c g m h. (pairs c h, refl, refl))
      (λ h. tt) (λ t ts p q h. (p h.0, q h.1)) (λ h. tt) (λ k t fs p q h. (refl, p h.0, q h.1))

  -- the cells of a related value are those of pairs
  pub each_paired : ((c d : ℕ) → paired r c d ≡ true → P c) → (t u : Tree) → Related r t u → EachCell P t
  each_paired own = by_related r (λ t u. EachCell P t) (λ ts us. EachInAll P ts) (λ fs hs. EachInFields P fs)
      (λ l g m. tt) (λ k ts us g m e h. h) (λ fs hs g m e h. h) (λ c d g m p. own c d p) tt (λ t u ts us p q. (p, q)) tt (λ k t u fs hs p q. (p, q))
