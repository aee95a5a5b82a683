-- The indices of true around a gap.
use Rattle.std.proofs.Common.{◌≡◌, ℕ, suc, ◌+◌, ◌<◌, ◌≤◌, Bool, true, false, not, nat_eq, List, [], ◌∷◌, ◌++◌, length, map, refl, sym, ap, ap₂, ◌∙◌, arith}
use Rattle.std.proofs.lemmas.Bool.Decides.{nat_tests}
use Rattle.std.proofs.lemmas.List.{map-append}
use Rattle.std.proofs.lemmas.List.Elements.{filter-append}
use Rattle.rhai_value.specs.Reach.{trues_from}
use Rattle.rhai_value.proofs.ForCallers.{from_zero}
use Rattle.rhai_scope.specs.NameIndex.{others, lowered}

-- ---- a gap, left by a dropped place

apart_below : (i place : ℕ) → i < place → nat_eq i place ≡ false
apart_below i place h = grind (arith, nat_tests)

apart_above : (i place : ℕ) → place < i → nat_eq i place ≡ false
apart_above i place h = grind (arith, nat_tests)

others_before : (place i : ℕ) (bs : List Bool) → i + length bs ≤ place → others place (trues_from i bs) ≡ trues_from i bs
others_before place i [] h = refl
others_before place i (true ∷ bs) h = rw (apart_below i place (omega (arith, h))) (ap (λ ps. i ∷ ps) (others_before place (suc i) bs (omega (arith, h))))
others_before place i (false ∷ bs) h = others_before place (suc i) bs (omega (arith, h))

others_behind : (place i : ℕ) (bs : List Bool) → place < i → others place (trues_from i bs) ≡ trues_from i bs
others_behind place i [] h = refl
others_behind place i (true ∷ bs) h = rw (apart_above i place h) (ap (λ ps. i ∷ ps) (others_behind place (suc i) bs (omega (arith, h))))
others_behind place i (false ∷ bs) h = others_behind place (suc i) bs (omega (arith, h))

others_here : (place : ℕ) (ps : List ℕ) → others place (place ∷ ps) ≡ others place ps
others_here place ps = let same : nat_eq place place ≡ true = grind (arith, nat_tests) in rw same refl

pub gap_made : (bs cs : List Bool) → others (length bs) (trues_from 0 (bs ++ true ∷ cs)) ≡ trues_from 0 (bs ++ false ∷ cs)
gap_made bs cs =
    let place = length bs in
    ap (others place) (from_zero bs (true ∷ cs))
    ∙ filter-append (λ p. not (nat_eq p place)) (trues_from 0 bs) (place ∷ trues_from (suc place) cs)
    ∙ ap₂ ◌++◌ (others_before place 0 bs (omega arith)) (others_here place (trues_from (suc place) cs) ∙ others_behind place (suc place) cs (omega arith))
    ∙ sym (from_zero bs (false ∷ cs))

-- ---- closing it

stays : (place i : ℕ) → i < place → lowered place i ≡ i
stays place i h = grind (arith, nat_tests)

falls : (place i : ℕ) → place ≤ i → lowered place (suc i) ≡ i
falls place i h = grind (arith, nat_tests)

lowered_before : (place i : ℕ) (bs : List Bool) → i + length bs ≤ place → map (lowered place) (trues_from i bs) ≡ trues_from i bs
lowered_before place i [] h = refl
lowered_before place i (true ∷ bs) h = ap₂ ◌∷◌ (stays place i (omega (arith, h))) (lowered_before place (suc i) bs (omega (arith, h)))
lowered_before place i (false ∷ bs) h = lowered_before place (suc i) bs (omega (arith, h))

lowered_behind : (place i : ℕ) (bs : List Bool) → place ≤ i → map (lowered place) (trues_from (suc i) bs) ≡ trues_from i bs
lowered_behind place i [] h = refl
lowered_behind place i (true ∷ bs) h = ap₂ ◌∷◌ (falls place i h) (lowered_behind place (suc i) bs (omega (arith, h)))
lowered_behind place i (false ∷ bs) h = lowered_behind place (suc i) bs (omega (arith, h))

pub gap_closed : (bs cs : List Bool) → map (lowered (length bs)) (trues_from 0 (bs ++ false ∷ cs)) ≡ trues_from 0 (bs ++ cs)
gap_closed bs cs =
    let place = length bs in
    ap (map (lowered place)) (from_zero bs (false ∷ cs))
    ∙ map-append (lowered place) (trues_from 0 bs) (trues_from (suc place) cs)
    ∙ ap₂ ◌++◌ (lowered_before place 0 bs (omega arith)) (lowered_behind place place cs (omega arith))
    ∙ sym (from_zero bs cs)
