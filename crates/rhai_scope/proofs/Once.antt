-- Each name is visible once.
use Rattle.std.proofs.Common.{◌≡◌, ℕ, Bool, true, false, nat_eq, List, [], ◌∷◌, ◌++◌, map, Option, Some, None, refl, sym, subst}
use Rattle.std.proofs.lemmas.List.{map-append}
use Rattle.std.specs.List.{AllByRecursion, IsDistinct}
use Rattle.std.specs.Cmp.Lexicographic.{pointwise}
use Rattle.rhai_scope.specs.Entry.{Entry}
use Rattle.rhai_scope.specs.Lookup.{later_or_here, last_position, unless_later, visible}
use Rattle.std.proofs.lemmas.List.{append-nil}

abbrev pub names_of : List Entry → List (List ℕ)
names_of es = map (λ e. e.name) es

all_append : (P : List ℕ → Type 0) (xs ys : List (List ℕ)) → AllByRecursion P xs → AllByRecursion P ys → AllByRecursion P (xs ++ ys)
all_append P [] ys h k = k
all_append P (x ∷ xs) ys h k = (h.0, all_append P xs ys h.1 k)

-- neither there nor here
parts_none : (o : Option ℕ) (b : Bool) → later_or_here o b ≡ None → (o ≡ None) × (b ≡ false)
parts_none (Some k) b h = cc
parts_none None true h = cc
parts_none None false h = (refl, refl)

abbrev pub Others : List ℕ → List (List ℕ) → Type 0
Others n ks = AllByRecursion (λ k. pointwise nat_eq k n ≡ false) ks

others_unless : (n : List ℕ) (o : Option ℕ) (e : Entry) → pointwise nat_eq e.name n ≡ false → Others n (names_of (unless_later o e))
others_unless n None e h = (h, tt)
others_unless n (Some k) e h = tt

others : (n : List ℕ) (es : List Entry) → last_position n es ≡ None → Others n (names_of (visible es))
others n [] h = tt
others n (e ∷ es) h =
    let parts = parts_none (last_position n es) (pointwise nat_eq e.name n) h in
    let rest = unless_later (last_position e.name es) e in
    subst (Others n) (sym (map-append (λ x. x.name) (visible es) rest)) (all_append (λ k. pointwise nat_eq k n ≡ false) (names_of (visible es)) (names_of rest) (others n es parts.0) (others_unless n (last_position e.name es) e parts.1))

distinct_more : (xs : List (List ℕ)) (x : List ℕ) → IsDistinct (pointwise nat_eq) xs → Others x xs → IsDistinct (pointwise nat_eq) (xs ++ x ∷ [])
unfolding IsDistinct
distinct_more [] x h k = (tt, tt)
distinct_more (y ∷ xs) x h k = (all_append (λ z. pointwise nat_eq y z ≡ false) xs (x ∷ []) h.0 (k.0, tt), distinct_more xs x h.1 k.1)

no_names : IsDistinct (pointwise nat_eq) []
unfolding IsDistinct
no_names = tt

once_step : (es : List Entry) (e : Entry) (o : Option ℕ) → IsDistinct (pointwise nat_eq) (names_of (visible es)) → (o ≡ None → Others e.name (names_of (visible es)))
    → IsDistinct (pointwise nat_eq) (names_of (visible es ++ unless_later o e))
once_step es e None h k = subst (IsDistinct (pointwise nat_eq)) (sym (map-append (λ x. x.name) (visible es) (e ∷ []))) (distinct_more (names_of (visible es)) e.name h (k refl))
once_step es e (Some i) h k = subst (λ xs. IsDistinct (pointwise nat_eq) (names_of xs)) (sym (append-nil (visible es))) h

pub once : (es : List Entry) → IsDistinct (pointwise nat_eq) (map (λ e. e.name) (visible es))
once [] = no_names
once (e ∷ es) = once_step es e (last_position e.name es) (once es) (λ h. others e.name es h)
