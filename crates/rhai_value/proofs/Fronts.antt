-- Fronts compare as their texts do, if they differ.
use Rattle.std.proofs.Common.{◌≡◌, ℕ, zero, suc, ◌+◌, ◌*◌, ◌<◌, ◌≤◌, List, [], ◌∷◌, length, get_or, drop, Fits, w8, refl, ap, sym, subst, ◌∙◌, arith, Ordering, Less, Equal, Greater}
use Rattle.std.specs.Cmp.{ranks, nat_cmp_is}
use Rattle.std.specs.Cmp.Lexicographic.{slice_cmp, nat_list_cmp_total}
use Rattle.std.specs.Ordering.{nat_cmp, ordering_then, ordering_reverse, MatchOrdering}
use Rattle.std.specs.Int.{w64, from_be_bytes}

abbrev Bytes : List ℕ → Type 0
Bytes bs = (k : ℕ) → Fits w8 (get_or bs k 0)

later : (bs : List ℕ) → Bytes bs → Bytes (drop 1 bs)
later [] h = h
later (b ∷ bs) h = λ k. h (suc k)

-- the number spelled by n bytes after a, padded with zeros
abbrev spelt : ℕ → ℕ → List ℕ → ℕ
spelt zero a bs = a
spelt (suc n) a bs = spelt n (a * 256 + get_or bs 0 0) (drop 1 bs)

rises : (n a b : ℕ) (us vs : List ℕ) → Bytes us → a < b → spelt n a us < spelt n b vs
rises zero a b us vs h l = l
rises (suc n) a b us vs h l =
    let small : get_or us 0 0 < 256 = (h 0).fits in
    rises n (a * 256 + get_or us 0 0) (b * 256 + get_or vs 0 0) (drop 1 us) (drop 1 vs) (later us h) (omega (arith, small, l))

-- zeros spell the least number
least : (n a b : ℕ) (bs : List ℕ) → a ≤ b → spelt n a [] ≤ spelt n b bs
least zero a b bs l = l
least (suc n) a b bs l = least n (a * 256 + 0) (b * 256 + get_or bs 0 0) (drop 1 bs) (omega (arith, l))

below : (n a : ℕ) (us vs : List ℕ) → Bytes us → Bytes vs → spelt n a us < spelt n a vs → slice_cmp nat_cmp us vs ≡ Less
below zero a us vs g h l = absurd (omega (arith, l))
below (suc n) a [] [] g h l = below n (a * 256 + 0) [] [] g h l
below (suc n) a [] (v ∷ vs) g h l = refl
below (suc n) a (u ∷ us) [] g h l = absurd (omega (arith, l, least n (a * 256 + 0) (a * 256 + u) us (omega arith)))
below (suc n) a (u ∷ us) (v ∷ vs) g h l = by (below n (a * 256 + u) us vs (λ k. g (suc k)) (λ k. h (suc k))) (nat_cmp u v) refl (ranks u v)
  where
    by : (spelt n (a * 256 + u) us < spelt n (a * 256 + u) vs → slice_cmp nat_cmp us vs ≡ Less) → (r : Ordering) → nat_cmp u v ≡ r → MatchOrdering r (u < v) (u ≡ v) (v < u) → ordering_then (nat_cmp u v) (slice_cmp nat_cmp us vs) ≡ Less
    by rest Less e is = ap (λ r. ordering_then r (slice_cmp nat_cmp us vs)) e
    by rest Equal e is =
        let same : u ≡ v = is in
        ap (λ r. ordering_then r (slice_cmp nat_cmp us vs)) e ∙ rest (subst (λ w. spelt n (a * 256 + u) us < spelt n (a * 256 + w) vs) (sym same) l)
    by rest Greater e is =
        let over : v < u = is in
        absurd (omega (arith, l, rises n (a * 256 + v) (a * 256 + u) vs us (λ k. h (suc k)) (omega (arith, over))))

fronts : (bs : List ℕ) → from_be_bytes w64 bs ≡ spelt 8 0 bs
fronts [] = omega arith
fronts (a ∷ []) = omega arith
fronts (a ∷ b ∷ []) = omega arith
fronts (a ∷ b ∷ c ∷ []) = omega arith
fronts (a ∷ b ∷ c ∷ d ∷ []) = omega arith
fronts (a ∷ b ∷ c ∷ d ∷ e ∷ []) = omega arith
fronts (a ∷ b ∷ c ∷ d ∷ e ∷ f ∷ []) = omega arith
fronts (a ∷ b ∷ c ∷ d ∷ e ∷ f ∷ g ∷ []) = omega arith
fronts (a ∷ b ∷ c ∷ d ∷ e ∷ f ∷ g ∷ h ∷ rest) = omega arith

-- a text with a lesser front is less
pub front_below : (us vs : List ℕ) → Bytes us → Bytes vs → from_be_bytes w64 us < from_be_bytes w64 vs → slice_cmp nat_cmp us vs ≡ Less
front_below us vs g h l = below 8 0 us vs g h (omega (arith, l, fronts us, fronts vs))

pub front_above : (us vs : List ℕ) → Bytes us → Bytes vs → from_be_bytes w64 vs < from_be_bytes w64 us → slice_cmp nat_cmp us vs ≡ Greater
front_above us vs g h l = nat_list_cmp_total.antisymm us vs ∙ ap ordering_reverse (front_below vs us h g l)

-- ---- short texts with the same front

-- r is the order of a and b
abbrev Ranks : Ordering → ℕ → ℕ → Type 0
Ranks r a b = MatchOrdering r (a < b) (a ≡ b) (b < a)

up : (r : Ordering) (a b : ℕ) → Ranks r a b → Ranks r (suc a) (suc b)
up Less a b h = omega (arith, h)
up Equal a b h = ap suc h
up Greater a b h = omega (arith, h)

alike : (n a : ℕ) (us vs : List ℕ) → length us ≤ n → length vs ≤ n → Bytes us → Bytes vs → spelt n a us ≡ spelt n a vs → Ranks (slice_cmp nat_cmp us vs) (length us) (length vs)
alike n a [] [] p q g h e = refl
alike n a [] (v ∷ vs) p q g h e = omega arith
alike n a (u ∷ us) [] p q g h e = omega arith
alike zero a (u ∷ us) (v ∷ vs) p q g h e = absurd (omega (arith, p))
alike (suc n) a (u ∷ us) (v ∷ vs) p q g h e = by (alike n (a * 256 + u) us vs (omega (arith, p)) (omega (arith, q)) (λ k. g (suc k)) (λ k. h (suc k))) (nat_cmp u v) refl (ranks u v)
  where
    by : (spelt n (a * 256 + u) us ≡ spelt n (a * 256 + u) vs → Ranks (slice_cmp nat_cmp us vs) (length us) (length vs)) → (r : Ordering) → nat_cmp u v ≡ r → MatchOrdering r (u < v) (u ≡ v) (v < u)
        → Ranks (ordering_then (nat_cmp u v) (slice_cmp nat_cmp us vs)) (suc (length us)) (suc (length vs))
    by rest Less is l =
        let under : u < v = l in
        absurd (omega (arith, e, rises n (a * 256 + u) (a * 256 + v) us vs (λ k. g (suc k)) (omega (arith, under))))
    by rest Equal is l =
        let same : u ≡ v = l in
        let told = rest (subst (λ w. spelt n (a * 256 + u) us ≡ spelt n (a * 256 + w) vs) (sym same) e) in
        subst (λ r. Ranks (ordering_then r (slice_cmp nat_cmp us vs)) (suc (length us)) (suc (length vs))) (sym is) (up (slice_cmp nat_cmp us vs) (length us) (length vs) told)
    by rest Greater is l =
        let over : v < u = l in
        absurd (omega (arith, e, rises n (a * 256 + v) (a * 256 + u) vs us (λ k. h (suc k)) (omega (arith, over))))

-- texts of at most eight bytes with the same front compare as their lengths do
pub short_alike : (us vs : List ℕ) → length us ≤ 8 → length vs ≤ 8 → Bytes us → Bytes vs → from_be_bytes w64 us ≡ from_be_bytes w64 vs → slice_cmp nat_cmp us vs ≡ nat_cmp (length us) (length vs)
short_alike us vs p q g h e = nat_cmp_is (length us) (length vs) (slice_cmp nat_cmp us vs) (alike 8 0 us vs p q g h (sym (fronts us) ∙ e ∙ fronts vs))
