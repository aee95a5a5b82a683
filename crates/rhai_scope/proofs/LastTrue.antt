-- The last of the indices of true.
use Rattle.std.proofs.Common.{◌≡◌, ℕ, suc, ◌+◌, ◌-◌, Bool, true, false, List, [], ◌∷◌, length, slice_get, Option, Some, None, is_some, option_map, refl, sym, ap, ◌∙◌, arith}
use Rattle.std.proofs.lemmas.Bool.{false≢true}
use Rattle.rhai_scope.specs.Lookup.{later_or_here}
use Rattle.rhai_value.specs.Reach.{trues_from}
use Rattle.rhai_scope.specs.NameIndex.{last_item}

last_two : (p q : ℕ) (ps : List ℕ) → last_item (p ∷ q ∷ ps) ≡ last_item (q ∷ ps)
last_two p q ps =
    let one : length (p ∷ q ∷ ps) - 1 ≡ suc (length ps) = omega arith in
    let two : length ps ≡ length (q ∷ ps) - 1 = omega arith in
    ap (slice_get (p ∷ q ∷ ps)) one ∙ ap (slice_get (q ∷ ps)) two

last_some : (p : ℕ) (ps : List ℕ) → is_some (last_item (p ∷ ps)) ≡ true
last_some p [] = refl
last_some p (q ∷ ps) = ap is_some (last_two p q ps) ∙ last_some q ps

-- true here, and false here
last_here : (i : ℕ) (ps : List ℕ) (o : Option ℕ) → last_item ps ≡ option_map (λ k. suc i + k) o → last_item (i ∷ ps) ≡ option_map (λ k. i + k) (later_or_here o true)
last_here i [] None h = let here : i ≡ i + 0 = omega arith in ap Some here
last_here i [] (Some k) h = cc
last_here i (p ∷ ps) None h = absurd (false≢true (sym (ap is_some h) ∙ last_some p ps))
last_here i (p ∷ ps) (Some k) h = let more : suc i + k ≡ i + suc k = omega arith in last_two i p ps ∙ h ∙ ap Some more

last_later : (i : ℕ) (ps : List ℕ) (o : Option ℕ) → last_item ps ≡ option_map (λ k. suc i + k) o → last_item ps ≡ option_map (λ k. i + k) (later_or_here o false)
last_later i ps None h = h
last_later i ps (Some k) h = let more : suc i + k ≡ i + suc k = omega arith in h ∙ ap Some more

pub last_more : (i : ℕ) (b : Bool) (bs : List Bool) (o : Option ℕ) → last_item (trues_from (suc i) bs) ≡ option_map (λ k. suc i + k) o → last_item (trues_from i (b ∷ bs)) ≡ option_map (λ k. i + k) (later_or_here o b)
last_more i true bs o h = last_here i (trues_from (suc i) bs) o h
last_more i false bs o h = last_later i (trues_from (suc i) bs) o h
