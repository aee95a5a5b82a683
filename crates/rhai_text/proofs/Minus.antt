-- The equations of `minus`, and its result if the pattern is found first or not at all.
use Rattle.std.proofs.Common.{◌≡◌, ◌≢◌, ℕ, zero, suc, ◌<◌, ◌≤◌, Bool, true, false, cond, List, [], ◌∷◌, ◌++◌, length, take, drop, nat_eq, refl, sym, ◌∙◌, ap, arith, length-drop, length-append}
use Rattle.std.proofs.Math.Seq.{drop-append_seam, take-append_seam}
use Rattle.std.proofs.lemmas.List.{take-append-drop}
use Rattle.std.proofs.lemmas.Slice.Eq.{bytes_eq-Decides}
use Rattle.std.specs.List.{starts_with}
use Rattle.rhai_text.specs.Text.{minus, minus_within}

-- more steps than characters make no difference
pub minus_within_enough : (m n : ℕ) (text pattern : List ℕ) → length text ≤ m → length text ≤ n → 0 < length pattern → minus_within m text pattern ≡ minus_within n text pattern
minus_within_enough zero zero [] pattern hm hn h = refl
minus_within_enough zero (suc n) [] pattern hm hn h = refl
minus_within_enough (suc m) zero [] pattern hm hn h = refl
minus_within_enough (suc m) (suc n) [] pattern hm hn h = refl
minus_within_enough zero n (c ∷ cs) pattern hm hn h = absurd (omega arith)
minus_within_enough (suc m) zero (c ∷ cs) pattern hm hn h = absurd (omega arith)
minus_within_enough (suc m) (suc n) (c ∷ cs) pattern hm hn h =
    let shorter = length-drop (length pattern) (c ∷ cs) in
    λ i. cond (starts_with nat_eq (c ∷ cs) pattern)
    (minus_within_enough m n (drop (length pattern) (c ∷ cs)) pattern (omega (arith, shorter)) (omega (arith, shorter)) h i)
    (c ∷ minus_within_enough m n cs pattern (omega arith) (omega arith) h i)

-- a text begins with its first part
pub starts_with-append : (pattern rest : List ℕ) → starts_with nat_eq (pattern ++ rest) pattern ≡ true
starts_with-append pattern rest =
    (bytes_eq-Decides pattern (take (length pattern) (pattern ++ rest))).1 (sym (take-append_seam pattern rest))

-- if it begins with the pattern, the rest follows it
pub append-starts_with : (text pattern : List ℕ) → starts_with nat_eq text pattern ≡ true → text ≡ pattern ++ drop (length pattern) text
append-starts_with text pattern h =
    sym (take-append-drop (length pattern) text)
    ∙ ap (λ xs. xs ++ drop (length pattern) text) (sym ((bytes_eq-Decides pattern (take (length pattern) text)).0 h))

pub minus-starts : (pattern rest : List ℕ) → minus (pattern ++ rest) pattern ≡ minus rest pattern
minus-starts [] rest = refl
minus-starts (p ∷ ps) rest =
    ap (λ b. cond b (minus_within (length (ps ++ rest)) (drop (length ps) (ps ++ rest)) (p ∷ ps)) (p ∷ minus_within (length (ps ++ rest)) (ps ++ rest) (p ∷ ps))) (starts_with-append (p ∷ ps) rest)
    ∙ ap (λ xs. minus_within (length (ps ++ rest)) xs (p ∷ ps)) (drop-append_seam ps rest)
    ∙ minus_within_enough (length (ps ++ rest)) (length rest) rest (p ∷ ps) (omega (arith, length-append ps rest)) (omega arith) (omega arith)

pub minus-passes : (c : ℕ) (cs pattern : List ℕ) → starts_with nat_eq (c ∷ cs) pattern ≡ false → minus (c ∷ cs) pattern ≡ c ∷ minus cs pattern
minus-passes c cs [] h = refl
minus-passes c cs (p ∷ ps) h =
    ap (λ b. cond b (minus_within (length cs) (drop (length ps) cs) (p ∷ ps)) (c ∷ minus_within (length cs) cs (p ∷ ps))) h

pub minus-nothing : (pattern : List ℕ) → minus [] pattern ≡ []
minus-nothing [] = refl
minus-nothing (p ∷ ps) = refl

-- the pattern doesn't occur in front ++ (pattern ++ rest) before the end of front
pub record IsFirst (front pattern rest : List ℕ) : Type 0 where
  pub first : (xs ys : List ℕ) → front ++ (pattern ++ rest) ≡ xs ++ (pattern ++ ys) → length front ≤ length xs

pub no_start : (text pattern : List ℕ) → ((ys : List ℕ) → text ≢ pattern ++ ys) → starts_with nat_eq text pattern ≡ false
no_start text pattern h = by (starts_with nat_eq text pattern) (λ e. h _ (append-starts_with text pattern e))
  where
    by : (b : Bool) → (b ≢ true) → b ≡ false
    by true f = absurd (f refl)
    by false f = refl

pub minus-first : (front pattern rest : List ℕ) → IsFirst front pattern rest → minus (front ++ (pattern ++ rest)) pattern ≡ front ++ minus rest pattern
minus-first [] pattern rest h = minus-starts pattern rest
minus-first (c ∷ front) pattern rest h =
    minus-passes c (front ++ (pattern ++ rest)) pattern (no_start (c ∷ (front ++ (pattern ++ rest))) pattern (λ ys e. let f : suc (length front) ≤ 0 = h.first [] ys e in omega arith))
    ∙ ap (λ xs. c ∷ xs) (minus-first front pattern rest (record { first = λ xs ys e. let f : suc (length front) ≤ suc (length xs) = h.first (c ∷ xs) ys (ap (λ zs. c ∷ zs) e) in omega arith }))

pub minus-lacks : (text pattern : List ℕ) → ((xs ys : List ℕ) → text ≢ xs ++ (pattern ++ ys)) → minus text pattern ≡ text
minus-lacks [] pattern h = minus-nothing pattern
minus-lacks (c ∷ cs) pattern h =
    minus-passes c cs pattern (no_start (c ∷ cs) pattern (λ ys e. h [] ys e))
    ∙ ap (λ xs. c ∷ xs) (minus-lacks cs pattern (λ xs ys e. h (c ∷ xs) ys (ap (λ zs. c ∷ zs) e)))
