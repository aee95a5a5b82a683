-- Lists that are equal from a place on.
use Rattle.std.proofs.Common.{◌≡◌, ℕ, ◌+◌, ◌-◌, ◌<◌, ◌≤◌, List, [], ◌∷◌, ◌++◌, length, take, drop, slice_index_or, slice_set, ap, sym, ◌∙◌, arith, length-drop}
use Rattle.std.proofs.lemmas.List.{drop-drop, drop-set-lt, get_or-drop, take_more}

pub same_next : {A : Type 0} (xs ys : List A) (p : ℕ) (d : A) → drop p xs ≡ drop p ys → slice_index_or xs p d ≡ slice_index_or ys p d
same_next xs ys p d e =
    let here : p + 0 ≡ p = omega arith in
    sym (get_or-drop p xs 0 d ∙ ap (λ n. slice_index_or xs n d) here) ∙ ap (λ zs. slice_index_or zs 0 d) e
    ∙ get_or-drop p ys 0 d ∙ ap (λ n. slice_index_or ys n d) here

pub same_rest : {A : Type 0} (xs ys : List A) (p : ℕ) (x : A) → drop p xs ≡ drop p ys → drop (p + 1) (slice_set xs p x) ≡ drop (p + 1) ys
same_rest xs ys p x e =
    drop-set-lt (p + 1) xs p x (omega arith) ∙ sym (drop-drop 1 p xs) ∙ ap (drop 1) e ∙ drop-drop 1 p ys

-- one more item of a part
pub part_more : {A : Type 0} (xs : List A) (s p : ℕ) (x : A) → s ≤ p → p < length xs → x ≡ slice_index_or xs p x
    → take (p + 1 - s) (drop s xs) ≡ take (p - s) (drop s xs) ++ x ∷ []
part_more xs s p x order within item =
    let next : p + 1 - s ≡ p - s + 1 = omega (arith, order) in
    let here : s + (p - s) ≡ p = omega (arith, order) in
    ap (λ n. take n (drop s xs)) next ∙ take_more (drop s xs) (p - s) x (omega (arith, order, within, length-drop s xs))
    ∙ ap (λ y. take (p - s) (drop s xs) ++ y ∷ []) (get_or-drop s xs (p - s) x ∙ ap (λ n. slice_index_or xs n x) here ∙ sym item)
