-- The first occurrences of numbers in a list.
use Rattle.std.proofs.Common.{◌≡◌, ℕ, zero, suc, ◌<◌, ◌≤◌, ◌↔◌, ◌⊎◌, ⊎_elim, inl, inr, nat_eq, nat_lt, not, ◌&&◌, Bool, true, false, cond, true≢false, List, [], ◌∷◌, ◌++◌, length, get_or, set, replicate, Contains, refl, sym, ap, ap₂, subst, ◌∙◌, arith, append_assoc, append-nil, length-set}
use Rattle.std.proofs.lemmas.Bool.{cases_eq}
use Rattle.std.proofs.lemmas.Bool.Decides.{nat_tests}
use Rattle.std.proofs.lemmas.List.{get_or_past, get_or-replicate, get_or-set_same, get_or-set_other, length-replicate}
use Rattle.std.proofs.lemmas.List.Elements.{All-contains, All-from_recursion}
use Rattle.std.specs.List.{AllByRecursion, AllZip, IsDistinct, filter}
use Rattle.rhai_value.specs.Meetings.{Meeting, met, all_met, unmet}
use Rattle.rhai_value.specs.Order.{firsts}
use Rattle.rhai_value.specs.Relation.{Renaming, paired, IsOneToOne}
use Rattle.rhai_value.proofs.Rising.{here, there, here_or_there, nothing_in}

-- ---- filtered lists

filter_twice : (p q r : ℕ → Bool) → ((k : ℕ) → r k ≡ q k && p k) → (xs : List ℕ) → filter p (filter q xs) ≡ filter r xs
filter_twice p q r h [] = refl
filter_twice p q r h (x ∷ xs) = by (q x) (p x) (r x) refl refl (h x) (filter_twice p q r h xs)
  where
    by : (a b c : Bool) → q x ≡ a → p x ≡ b → c ≡ q x && p x → filter p (filter q xs) ≡ filter r xs → filter p (cond a (x ∷ filter q xs) (filter q xs)) ≡ cond c (x ∷ filter r xs) (filter r xs)
    by true true c e f g rest = let is : c ≡ true = g ∙ ap₂ ◌&&◌ e f in rw (is, f) (ap (λ ys. x ∷ ys) rest)
    by true false c e f g rest = let is : c ≡ false = g ∙ ap₂ ◌&&◌ e f in rw (is, f) rest
    by false b c e f g rest = let is : c ≡ false = g ∙ ap₂ ◌&&◌ e f in rw is rest

filter_all : (p : ℕ → Bool) (xs : List ℕ) → AllByRecursion (λ x. p x ≡ true) xs → filter p xs ≡ xs
filter_all p [] h = refl
filter_all p (x ∷ xs) h = rw (h.0) (ap (λ ys. x ∷ ys) (filter_all p xs h.1))

module _ (P : ℕ → Type 0) (p : ℕ → Bool) where
  all_filter : (xs : List ℕ) → AllByRecursion P xs → AllByRecursion P (filter p xs)
  all_filter [] h = tt
  all_filter (x ∷ xs) h = by (p x) (all_filter xs h.1)
    where
      by : (b : Bool) → AllByRecursion P (filter p xs) → AllByRecursion P (cond b (x ∷ filter p xs) (filter p xs))
      by true rest = (h.0, rest)
      by false rest = rest

all_passed : (p : ℕ → Bool) (xs : List ℕ) → AllByRecursion (λ x. p x ≡ true) (filter p xs)
all_passed p [] = tt
all_passed p (x ∷ xs) = by (p x) refl (all_passed p xs)
  where
    by : (b : Bool) → p x ≡ b → AllByRecursion (λ y. p y ≡ true) (filter p xs) → AllByRecursion (λ y. p y ≡ true) (cond b (x ∷ filter p xs) (filter p xs))
    by true e rest = (e, rest)
    by false e rest = rest

weaker : (P Q : ℕ → Type 0) → ((x : ℕ) → P x → Q x) → (xs : List ℕ) → AllByRecursion P xs → AllByRecursion Q xs
weaker P Q g [] h = tt
weaker P Q g (x ∷ xs) h = (g x h.0, weaker P Q g xs h.1)

distinct_filter : (p : ℕ → Bool) (xs : List ℕ) → IsDistinct nat_eq xs → IsDistinct nat_eq (filter p xs)
unfolding IsDistinct
distinct_filter p [] h = tt
distinct_filter p (x ∷ xs) h = by (p x) (distinct_filter p xs h.1)
  where
    by : (b : Bool) → IsDistinct nat_eq (filter p xs) → IsDistinct nat_eq (cond b (x ∷ filter p xs) (filter p xs))
    by true rest = (all_filter (λ y. nat_eq x y ≡ false) p xs h.0, rest)
    by false rest = rest

has_filter : (p : ℕ → Bool) (xs : List ℕ) (n : ℕ) → p n ≡ true → Contains xs n → Contains (filter p xs) n
has_filter p [] n e h = absurd (nothing_in n h)
has_filter p (x ∷ xs) n e h = by (p x) refl (here_or_there x n xs h) (has_filter p xs n e)
  where
    by : (b : Bool) → p x ≡ b → (x ≡ n) ⊎ Contains xs n → (Contains xs n → Contains (filter p xs) n) → Contains (cond b (x ∷ filter p xs) (filter p xs)) n
    by true f (inl same) rest = subst (Contains (x ∷ filter p xs)) same (here x (filter p xs))
    by true f (inr later) rest = there x n (filter p xs) (rest later)
    by false f (inl same) rest = absurd (true≢false (sym e ∙ ap p (sym same) ∙ f))
    by false f (inr later) rest = rest later

-- ---- first occurrences

abbrev others : ℕ → ℕ → Bool
others m k = not (nat_eq k m)

-- they are below the bound, and distinct
pub firsts_below : (n : ℕ) (ms : List ℕ) → AllByRecursion (λ m. m < n) (firsts n ms)
firsts_below n [] = tt
firsts_below n (m ∷ ms) = by (nat_lt m n) refl (firsts_below n ms)
  where
    by : (b : Bool) → nat_lt m n ≡ b → AllByRecursion (λ k. k < n) (firsts n ms) → AllByRecursion (λ k. k < n) (cond b (m ∷ filter (others m) (firsts n ms)) (firsts n ms))
    by true e rest = (grind (arith, nat_tests), all_filter (λ k. k < n) (others m) (firsts n ms) rest)
    by false e rest = rest

pub firsts_distinct : (n : ℕ) (ms : List ℕ) → IsDistinct nat_eq (firsts n ms)
unfolding IsDistinct
firsts_distinct n [] = tt
firsts_distinct n (m ∷ ms) = by (nat_lt m n) (firsts_distinct n ms)
  where
    by : (b : Bool) → IsDistinct nat_eq (firsts n ms) → IsDistinct nat_eq (cond b (m ∷ filter (others m) (firsts n ms)) (firsts n ms))
    by true rest = (weaker (λ k. others m k ≡ true) (λ k. nat_eq m k ≡ false) (λ k e. grind (arith, nat_tests)) (filter (others m) (firsts n ms)) (all_passed (others m) (firsts n ms)), distinct_filter (others m) (firsts n ms) rest)
    by false rest = rest

-- and include each number below the bound that occurs
pub firsts_have : (n : ℕ) (ms : List ℕ) (k : ℕ) → k < n → Contains ms k → Contains (firsts n ms) k
firsts_have n [] k l h = absurd (nothing_in k h)
firsts_have n (m ∷ ms) k l h = by (nat_lt m n) refl (here_or_there m k ms h) (cases_eq k m) (firsts_have n ms k l)
  where
    rest : List ℕ
    rest = firsts n ms

    by : (b : Bool) → nat_lt m n ≡ b → (m ≡ k) ⊎ Contains ms k → (k ≡ m) ⊎ (k ≡ m → ⊥) → (Contains ms k → Contains (firsts n ms) k) → Contains (cond b (m ∷ filter (others m) (firsts n ms)) (firsts n ms)) k
    by true e h (inl same) more = subst (Contains (m ∷ filter (others m) rest)) (sym same) (here m (filter (others m) rest))
    by true e (inl same) (inr other) more = absurd (other (sym same))
    by true e (inr later) (inr other) more = there m k (filter (others m) rest) (has_filter (others m) rest k (grind (arith, nat_tests)) (more later))
    by false e (inl same) c more = absurd (let f : nat_lt k n ≡ false = ap (λ i. nat_lt i n) (sym same) ∙ e in grind (arith, nat_tests))
    by false e (inr later) c more = more later

-- each of them occurs
in_filter : (p : ℕ → Bool) (xs : List ℕ) (n : ℕ) → Contains (filter p xs) n → Contains xs n
in_filter p [] n h = h
in_filter p (x ∷ xs) n h = by (p x) h (in_filter p xs n)
  where
    by : (b : Bool) → Contains (cond b (x ∷ filter p xs) (filter p xs)) n → (Contains (filter p xs) n → Contains xs n) → Contains (x ∷ xs) n
    by true k rest = ⊎_elim (λ same. subst (Contains (x ∷ xs)) same (here x xs)) (λ later. there x n xs (rest later)) (here_or_there x n (filter p xs) k)
    by false k rest = there x n xs (rest k)

in_firsts : (n : ℕ) (ms : List ℕ) (k : ℕ) → Contains (firsts n ms) k → Contains ms k
in_firsts n [] k h = h
in_firsts n (m ∷ ms) k h = by (nat_lt m n) h (in_firsts n ms k)
  where
    by : (b : Bool) → Contains (cond b (m ∷ filter (others m) (firsts n ms)) (firsts n ms)) k → (Contains (firsts n ms) k → Contains ms k) → Contains (m ∷ ms) k
    by true i rest = ⊎_elim (λ same. subst (Contains (m ∷ ms)) same (here m ms)) (λ later. there m k ms (rest (in_filter (others m) (firsts n ms) k later))) (here_or_there m k (filter (others m) (firsts n ms)) i)
    by false i rest = there m k ms (rest i)

pub firsts_are : (n : ℕ) (ms : List ℕ) (k : ℕ) → Contains (firsts n ms) k ↔ ((k < n) × Contains ms k)
firsts_are n ms k = (
  λ h. (All-contains (λ m. m < n) (firsts n ms) k (All-from_recursion (λ m. m < n) (firsts n ms) (firsts_below n ms)) h, in_firsts n ms k h),
  λ p. firsts_have n ms k p.0 p.1,
)

-- ---- meeting the numbers one after another

abbrev is_unmet : List Bool → ℕ → Bool
is_unmet bs k = not (get_or bs k true)

one_flag : (bs : List Bool) (m k : ℕ) → m < length bs → is_unmet (set bs m true) k ≡ others m k && is_unmet bs k
one_flag bs m k l = ⊎_elim
    (λ same. let no : others m k ≡ false = grind (arith, nat_tests) in ap (λ i. not (get_or (set bs m true) i true)) same ∙ ap not (get_or-set_same bs m true true l) ∙ sym (ap (λ b. b && is_unmet bs k) no))
    (λ other. let yes : others m k ≡ true = grind (arith, nat_tests) in ap not (get_or-set_other bs m k true true other) ∙ sym (ap (λ b. b && is_unmet bs k) yes))
    (cases_eq k m)

met_already : (bs : List Bool) (m k : ℕ) → get_or bs m true ≡ true → is_unmet bs k ≡ others m k && is_unmet bs k
met_already bs m k h = ⊎_elim
    (λ same. let no : others m k ≡ false = grind (arith, nat_tests) in ap (λ i. not (get_or bs i true)) same ∙ ap not h ∙ sym (ap (λ b. b && is_unmet bs k) no))
    (λ other. let yes : others m k ≡ true = grind (arith, nat_tests) in sym (ap (λ b. b && is_unmet bs k) yes))
    (cases_eq k m)

unmet_within : (bs : List Bool) (m : ℕ) → get_or bs m true ≡ false → m < length bs
unmet_within [] m h = absurd (true≢false h)
unmet_within (b ∷ bs) zero h = omega arith
unmet_within (b ∷ bs) (suc m) h = let l = unmet_within bs m h in omega arith

-- the numbers met are added in the order of their first occurrences, without those met before
all_met_numbers : (m : Meeting) (ns : List ℕ) → (all_met m ns).1 ≡ m.1 ++ filter (is_unmet m.0) (firsts (length m.0) ns)
all_met_numbers m [] = sym (append-nil m.1)
all_met_numbers m (n ∷ ns) = by (get_or m.0 n true) refl (nat_lt n (length m.0)) refl (all_met_numbers m ns) (all_met_numbers (set m.0 n true, m.1 ++ n ∷ []) ns)
  where
    rest : List ℕ
    rest = firsts (length m.0) ns

    more : Meeting
    more = (set m.0 n true, m.1 ++ n ∷ [])

    by : (b : Bool) → get_or m.0 n true ≡ b → (c : Bool) → nat_lt n (length m.0) ≡ c
        → (all_met m ns).1 ≡ m.1 ++ filter (is_unmet m.0) (firsts (length m.0) ns)
        → (all_met (set m.0 n true, m.1 ++ n ∷ []) ns).1 ≡ (m.1 ++ n ∷ []) ++ filter (is_unmet (set m.0 n true)) (firsts (length (set m.0 n true)) ns)
        → (all_met (cond b m (set m.0 n true, m.1 ++ n ∷ [])) ns).1 ≡ m.1 ++ filter (is_unmet m.0) (cond c (n ∷ filter (others n) (firsts (length m.0) ns)) (firsts (length m.0) ns))
    by true e true l old new = let no : is_unmet m.0 n ≡ false = ap not e in rw no (old ∙ ap (λ ys. m.1 ++ ys) (sym (filter_twice (is_unmet m.0) (others n) (is_unmet m.0) (λ k. met_already m.0 n k e) rest)))
    by true e false l old new = old
    by false e true l old new =
        let yes : is_unmet m.0 n ≡ true = ap not e in
        let same : filter (is_unmet (set m.0 n true)) (firsts (length (set m.0 n true)) ns) ≡ filter (is_unmet m.0) (filter (others n) rest) =
        ap (λ i. filter (is_unmet (set m.0 n true)) (firsts i ns)) (length-set m.0 n true) ∙ sym (filter_twice (is_unmet m.0) (others n) (is_unmet (set m.0 n true)) (λ k. one_flag m.0 n k (unmet_within m.0 n e)) rest) in
        rw yes (new ∙ ap (λ ys. (m.1 ++ n ∷ []) ++ ys) same ∙ append_assoc m.1 (n ∷ []) (filter (is_unmet m.0) (filter (others n) rest)))
    by false e false l old new = absurd (let lt = unmet_within m.0 n e in grind (arith, nat_tests))

-- starting with no cell met, they are the first occurrences
pub firsts_met : (n : ℕ) (ns : List ℕ) → (all_met (unmet n) ns).1 ≡ firsts n ns
firsts_met n ns =
    let none = unmet n in
    let long : length none.0 ≡ n = length-replicate n false in
    all_met_numbers none ns ∙ ap (λ i. filter (is_unmet none.0) (firsts i ns)) long
    ∙ filter_all (is_unmet none.0) (firsts n ns) (weaker (λ k. k < n) (λ k. is_unmet none.0 k ≡ true) (λ k l. ap not (get_or-replicate n k false true l)) (firsts n ns) (firsts_below n ns))

-- ---- related numbers

module _ (r : Renaming) (one : IsOneToOne r) where
  abbrev Pairs : List ℕ → List ℕ → Type 0
  Pairs = AllZip (λ c d. paired r c d ≡ true)

  pairs_filter : (a b : ℕ) → paired r a b ≡ true → (xs ys : List ℕ) → Pairs xs ys → Pairs (filter (others a) xs) (filter (others b) ys)
  pairs_filter a b p [] [] h = tt
  pairs_filter a b p (x ∷ xs) (y ∷ ys) h = by (nat_eq x a) (nat_eq y b) (one x y a b h.0 p) (pairs_filter a b p xs ys h.1)
    where
      by : (u v : Bool) → u ≡ v → Pairs (filter (others a) xs) (filter (others b) ys)
          → Pairs (cond (not u) (x ∷ filter (others a) xs) (filter (others a) xs)) (cond (not v) (y ∷ filter (others b) ys) (filter (others b) ys))
      by true true e more = more
      by false false e more = (h.0, more)
      by true false e more = absurd (true≢false e)
      by false true e more = absurd (true≢false (sym e))
  pairs_filter a b p _ _ h = absurd h

  -- the first occurrences of paired numbers are paired, if the numbers are within the bounds
  pub pairs_firsts : (n m : ℕ) → ((c d : ℕ) → paired r c d ≡ true → (c < n) × (d < m)) → (xs ys : List ℕ) → Pairs xs ys → Pairs (firsts n xs) (firsts m ys)
  pairs_firsts n m within [] [] h = tt
  pairs_firsts n m within (x ∷ xs) (y ∷ ys) h =
      let l = within x y h.0 in
      let left : nat_lt x n ≡ true = let a = l.0 in grind (arith, nat_tests) in
      let right : nat_lt y m ≡ true = let b = l.1 in grind (arith, nat_tests) in
      rw (left, right) (h.0, pairs_filter x y h.0 (firsts n xs) (firsts m ys) (pairs_firsts n m within xs ys h.1))
  pairs_firsts n m within _ _ h = absurd h
