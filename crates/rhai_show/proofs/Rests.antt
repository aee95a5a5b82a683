-- The frames of a walk, the innermost first.
use Rattle.std.proofs.Common.{◌≡◌, ℕ, suc, ◌+◌, ◌*◌, ◌<◌, ◌≤◌, List, [], ◌∷◌, ◌++◌, reverse, ap, ◌∙◌, arith}
use Rattle.std.proofs.lemmas.List.{reverse-append}
use Rattle.rhai_value.specs.declared.cells.store.Cell.{Cell}
use Rattle.rhai_value.specs.Tree.{Tree}
use Rattle.rhai_show.specs.Rests.{closed_by, rest_weight, Level}
use Rattle.rhai_show.specs.Weights.{weight}

-- the work for all of them
abbrev pub weight_left : List Cell → List ℕ → List Level → ℕ
weight_left s path [] = 0
weight_left s path (l ∷ ls) = (2 * rest_weight (weight s path) l.1 + 1) + weight_left s (closed_by l.0 path) ls

-- the last of a list is the first from its end
pub reversed : {A : Type 0} (xs ys : List A) (x : A) → ys ≡ xs ++ x ∷ [] → reverse ys ≡ x ∷ reverse xs
reversed xs ys x e = ap reverse e ∙ reverse-append xs (x ∷ [])

-- less work is left after entering a value whose children take no more than the value
pub lighter : (s : List Cell) (path next : List ℕ) (l k : Level) (ls : List Level) (t : Tree) → k.0 ≡ l.0 → suc (weight s path t) + rest_weight (weight s path) k.1 ≡ rest_weight (weight s path) l.1
    → (child : Level) → closed_by child.0 next ≡ path → rest_weight (weight s next) child.1 ≤ weight s path t → weight_left s next (child ∷ k ∷ ls) < weight_left s path (l ∷ ls)
lighter s path next l k ls t held taken child back less =
    let e = ap (λ p. weight_left s p (k ∷ ls)) back in
    let f = ap (λ b. weight_left s (closed_by b path) ls) held in
    omega arith
