-- Each list of roots has an order of the cells that it reaches.
use Rattle.std.proofs.Common.{◌≡◌, ℕ, zero, suc, ◌+◌, ◌<◌, ◌≤◌, ⊎_elim, nat_eq, nat_lt, eqb, not, ◌||◌, Bool, true, false, true≢false, cond, List, [], ◌∷◌, ◌++◌, length, refl, sym, ap, ◌∙◌, arith, append_assoc, append-nil, length-append}
use Rattle.std.proofs.lemmas.Bool.{or_cases}
use Rattle.std.proofs.lemmas.Bool.Decides.{nat_tests}
use Rattle.std.proofs.lemmas.List.{map-append}
use Rattle.std.proofs.lemmas.List.Elements.{filter-append}
use Rattle.std.proofs.lemmas.Map.Steps.{length-le_from_distinct_below}
use Rattle.std.specs.List.{AllByRecursion, filter, list_any}
use Rattle.rhai_value.specs.declared.cells.store.Cell.{Cell}
use Rattle.rhai_value.specs.Order.{AreInOrder, firsts, named_by, reached_in}
use Rattle.rhai_value.proofs.Firsts.{firsts_below, firsts_distinct}
use Rattle.rhai_value.proofs.Ordered.{named_more}
use Rattle.rhai_value.proofs.Traced.{GoesOn}

-- the first occurrences in a longer list begin with those in the shorter one
firsts_more : (n : ℕ) (xs ys : List ℕ) → GoesOn (firsts n xs) (firsts n (xs ++ ys))
firsts_more n [] ys = (firsts n ys, refl)
firsts_more n (x ∷ xs) ys = by (nat_lt x n) (firsts_more n xs ys)
  where
    by : (b : Bool) → GoesOn (firsts n xs) (firsts n (xs ++ ys))
        → GoesOn (cond b (x ∷ filter (λ k. not (nat_eq k x)) (firsts n xs)) (firsts n xs)) (cond b (x ∷ filter (λ k. not (nat_eq k x)) (firsts n (xs ++ ys))) (firsts n (xs ++ ys)))
    by true on = (filter (λ k. not (nat_eq k x)) on.0, ap (λ zs. x ∷ zs) (ap (filter (λ k. not (nat_eq k x))) on.1 ∙ filter-append (λ k. not (nat_eq k x)) (firsts n xs) on.0))
    by false on = on

any_below : (n : ℕ) (xs : List ℕ) → AllByRecursion (λ m. m < n) xs → (q : ℕ) → list_any (eqb q) xs ≡ true → q < n
any_below n [] h q e = absurd (true≢false (sym e))
any_below n (x ∷ xs) h q e = ⊎_elim (λ same. let l = h.0 in grind (arith, nat_tests)) (any_below n xs h.1 q) (or_cases (eqb q x) (list_any (eqb q) xs) e)

module _ (s : List Cell) (roots : List ℕ) where
  round_more : (k : ℕ) → GoesOn (reached_in s roots k) (reached_in s roots (suc k))
  round_more zero = (reached_in s roots 1, refl)
  round_more (suc k) =
      let c = reached_in s roots k in
      let on = round_more k in
      let more = firsts_more (length s) (roots ++ named_by s c) (named_by s on.0) in
      (more.0, ap (firsts (length s)) (ap (λ d. roots ++ named_by s d) on.1 ∙ ap (λ ns. roots ++ ns) (named_more s c on.0) ∙ sym (append_assoc roots (named_by s c) (named_by s on.0))) ∙ more.1)

  round_long : (k : ℕ) → length (reached_in s roots k) ≤ length s
  round_long zero = omega arith
  round_long (suc k) =
      let ns = roots ++ named_by s (reached_in s roots k) in
      length-le_from_distinct_below (firsts (length s) ns) (length s) (firsts_distinct (length s) ns) (any_below (length s) (firsts (length s) ns) (firsts_below (length s) ns))

  abbrev HasOrder : Type 0
  HasOrder = (c : List ℕ) × AreInOrder s roots c

  -- a round that reaches no further cell is the last one
  from_round : (k : ℕ) (more : List ℕ) → reached_in s roots (suc k) ≡ reached_in s roots k ++ more → (length (reached_in s roots k) < length (reached_in s roots (suc k)) → HasOrder) → HasOrder
  from_round k [] e further = (reached_in s roots k, record { rounds = k; reached = refl; closed = e ∙ append-nil (reached_in s roots k) })
  from_round k (x ∷ more) e further = further (omega (arith, ap length e, length-append (reached_in s roots k) (x ∷ more)))

  from_rounds : (left k : ℕ) → length s ≤ length (reached_in s roots k) + left → HasOrder
  from_rounds zero k h = let on = round_more k in from_round k on.0 on.1 (λ longer. let most = round_long (suc k) in absurd (omega arith))
  from_rounds (suc left) k h = let on = round_more k in from_round k on.0 on.1 (λ longer. from_rounds left (suc k) (omega arith))

  pub order_exists : HasOrder
  order_exists = from_rounds (length s) 0 (omega arith)
