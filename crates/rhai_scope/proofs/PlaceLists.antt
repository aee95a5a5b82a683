-- A list of places, whose last item is stored separately.
use Rattle.std.proofs.Common.{◌≡◌, ℕ, ◌-◌, Bool, true, false, not, nat_eq, if◌then◌else◌, List, [], ◌∷◌, ◌++◌, length, map, take, slice_get, Some, None, refl, sym, ap, ◌∙◌, arith}
use Rattle.std.proofs.lemmas.Bool.Decides.{nat_tests}
use Rattle.std.proofs.lemmas.List.{append-nil, length-append, map-append}
use Rattle.std.proofs.lemmas.List.Elements.{filter-append}
use Rattle.std.proofs.Math.Seq.{take-append_seam}
use Rattle.std.specs.Prelude.{◌≢◌}
use Rattle.rhai_scope.specs.NameIndex.{unless_empty, last_item, front, others, lowered}

before_last : (ps : List ℕ) (p : ℕ) → length (ps ++ p ∷ []) - 1 ≡ length ps
before_last ps p = let long = length-append ps (p ∷ []) in omega arith

get_last : (ps : List ℕ) (p : ℕ) → slice_get (ps ++ p ∷ []) (length ps) ≡ Some p
get_last [] p = refl
get_last (q ∷ ps) p = get_last ps p

pub last_apart : (ps : List ℕ) (p : ℕ) → Some p ≡ last_item (ps ++ p ∷ [])
last_apart ps p = sym (ap (slice_get (ps ++ p ∷ [])) (before_last ps p) ∙ get_last ps p)

front_apart : (ps : List ℕ) (p : ℕ) → front (ps ++ p ∷ []) ≡ ps
front_apart ps p = ap (λ n. take n (ps ++ p ∷ [])) (before_last ps p) ∙ take-append_seam ps (p ∷ [])

some_apart : (ps : List ℕ) (p : ℕ) → Some (ps ++ p ∷ []) ≡ unless_empty (ps ++ p ∷ [])
some_apart [] p = refl
some_apart (q ∷ ps) p = refl

-- the last place is removed, and one of the earlier ones is the last, or none is left
pub one_left : (ps qs : List ℕ) (p q : ℕ) → ps ≡ qs ++ q ∷ [] → Some (qs ++ q ∷ []) ≡ unless_empty (front (ps ++ p ∷ []))
one_left ps qs p q is = some_apart qs q ∙ ap unless_empty (sym is ∙ sym (front_apart ps p))

pub none_left : (ps : List ℕ) (p : ℕ) → length ps ≡ 0 → None ≡ unless_empty (front (ps ++ p ∷ []))
none_left [] p h = ap unless_empty (sym (front_apart [] p))
none_left (q ∷ ps) p h = absurd (omega (arith, h))

-- all but one place
others_apart : (place : ℕ) (ps : List ℕ) (p : ℕ) → others place (ps ++ p ∷ []) ≡ others place ps ++ others place (p ∷ [])
others_apart place ps p = filter-append (λ q. not (nat_eq q place)) ps (p ∷ [])

others_one : (place p : ℕ) (b : Bool) → nat_eq p place ≡ b → others place (p ∷ []) ≡ (if b then [] else p ∷ [])
others_one place p true h = rw h refl
others_one place p false h = rw h refl

same_place : (p place : ℕ) → p ≡ place → nat_eq p place ≡ true
same_place p place h = grind (arith, nat_tests)

other_place : (p place : ℕ) → (p ≢ place) → nat_eq p place ≡ false
other_place p place h = grind (arith, nat_tests)

module _ (place : ℕ) (ps qs : List ℕ) (p : ℕ) (is : qs ≡ others place ps) where
  pub last_goes : p ≡ place → front (qs ++ p ∷ []) ≡ others place (ps ++ p ∷ [])
  last_goes h =
      front_apart qs p ∙ is
      ∙ sym (others_apart place ps p ∙ ap (λ xs. others place ps ++ xs) (others_one place p true (same_place p place h)) ∙ append-nil (others place ps))

  pub last_stays : (p ≢ place) → Some (qs ++ p ∷ []) ≡ unless_empty (others place (ps ++ p ∷ []))
  last_stays h =
      some_apart qs p
      ∙ ap unless_empty (ap (λ xs. xs ++ p ∷ []) is ∙ sym (others_apart place ps p ∙ ap (λ xs. others place ps ++ xs) (others_one place p false (other_place p place h))))

-- places that move down by one
pub lowered_apart : (gone : ℕ) (ps : List ℕ) (p : ℕ) → map (lowered gone) ps ++ lowered gone p ∷ [] ≡ map (lowered gone) (ps ++ p ∷ [])
lowered_apart gone ps p = sym (map-append (lowered gone) ps (p ∷ []))
