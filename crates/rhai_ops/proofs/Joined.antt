-- Texts appended to texts: if one is empty no limit is tested.
use Rattle.std.proofs.Common.{◌≡◌, List, ℕ, [], ◌∷◌, ◌++◌, refl, sym, ap}
use Rattle.std.proofs.lemmas.List.{append-nil}
use Rattle.rhai_text.specs.declared.limits.Limits.{Limits}
use Rattle.rhai_value.specs.Tree.{fresh, text}
use Rattle.rhai_ops.specs.Outcome.{answers, limited_text}
use Rattle.rhai_ops.specs.Results.{joined_texts}

pub none_behind : (l : Limits) (v : List ℕ) → joined_texts l v [] ≡ answers (fresh (text (v ++ [])))
none_behind l v = ap (λ w. answers (fresh (text w))) (sym (append-nil v))

pub behind_none : (l : Limits) (w : List ℕ) → joined_texts l [] w ≡ answers (fresh (text w))
behind_none l [] = refl
behind_none l (d ∷ w) = refl

pub both_some : (l : Limits) (v w : List ℕ) → (v ≡ [] → ⊥) → (w ≡ [] → ⊥) → joined_texts l v w ≡ limited_text l (v ++ w)
both_some l [] w h k = absurd (h refl)
both_some l (c ∷ v) [] h k = absurd (k refl)
both_some l (c ∷ v) (d ∷ w) h k = refl
