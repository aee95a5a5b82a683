-- What comparing with the first key of a chunk says about all chunks before it, and all from it on.
use Rattle.std.proofs.Common.{◌≡◌, ℕ, zero, suc, ◌<◌, List, [], ◌∷◌, ◌++◌, length, take, drop, get_or, Ordering, Less, Equal, Greater, sym, subst, arith}
use Rattle.std.proofs.lemmas.List.{append_assoc, append-nil}
use Rattle.std.specs.Cmp.{IsTotalOrder}
use Rattle.std.specs.List.{AllByRecursion}
use Rattle.std.specs.List.Sorted.{IsStrictlySortedBy}
use Rattle.std.specs.Map.{keys_of}
use Rattle.std.proofs.lemmas.Map.Keys.{sorted_head, sorted_tail}
use Rattle.rhai_value.specs.Lists.{AreBelow, AreAbove, joined}
use Rattle.rhai_value.proofs.KeyOrder.{past, past_equal, all_above}

module _ {K X : Type 0} {R : K → K → Ordering} (o : IsTotalOrder R) where
  pub rising_right : (xs ys : List (K × X)) → IsStrictlySortedBy R (keys_of (xs ++ ys)) → IsStrictlySortedBy R (keys_of ys)
  rising_right [] ys s = s
  rising_right (e ∷ es) ys s = rising_right es ys (sorted_tail R e.0 (keys_of (es ++ ys)) s)

  all_left : (P : K → Type 0) (xs ys : List (K × X)) → AllByRecursion P (keys_of (xs ++ ys)) → AllByRecursion P (keys_of xs)
  all_left P [] ys h = tt
  all_left P (e ∷ es) ys h = (h.0, all_left P es ys h.1)

  pub rising_left : (xs ys : List (K × X)) → IsStrictlySortedBy R (keys_of (xs ++ ys)) → IsStrictlySortedBy R (keys_of xs)
  unfolding IsStrictlySortedBy
  rising_left [] ys s = tt
  rising_left (e ∷ es) ys s = (all_left (λ y. R e.0 y ≡ Less) es ys s.0, rising_left es ys s.1)

  across : (x : K) (xs ys : List (K × X)) (e : K × X) → AllByRecursion (λ y. R x y ≡ Less) (keys_of (xs ++ e ∷ ys)) → R x e.0 ≡ Less
  across x [] ys e h = h.0
  across x (z ∷ zs) ys e h = across x zs ys e h.1

  -- the key is greater than the first one of a chunk, or equal: it is greater than all before the chunk
  pub below_front : (k : K) (xs ys : List (K × X)) (e : K × X) → IsStrictlySortedBy R (keys_of (xs ++ e ∷ ys)) → R k e.0 ≡ Greater → AreBelow R k xs
  below_front k [] ys e s g = tt
  below_front k (x ∷ xs) ys e s g = (past o k x.0 e.0 (across x.0 xs ys e (sorted_head R x.0 (keys_of (xs ++ e ∷ ys)) s)) g, below_front k xs ys e (sorted_tail R x.0 (keys_of (xs ++ e ∷ ys)) s) g)

  pub below_front_hit : (k : K) (xs ys : List (K × X)) (e : K × X) → IsStrictlySortedBy R (keys_of (xs ++ e ∷ ys)) → R k e.0 ≡ Equal → AreBelow R k xs
  below_front_hit k [] ys e s g = tt
  below_front_hit k (x ∷ xs) ys e s g = (past_equal o k x.0 e.0 (across x.0 xs ys e (sorted_head R x.0 (keys_of (xs ++ e ∷ ys)) s)) g, below_front_hit k xs ys e (sorted_tail R x.0 (keys_of (xs ++ e ∷ ys)) s) g)

  -- it is less than the first one of a chunk: it is less than all from the chunk on
  pub above_front : (k : K) (ys : List (K × X)) (e : K × X) → IsStrictlySortedBy R (keys_of (e ∷ ys)) → R k e.0 ≡ Less → AreAbove R k (e ∷ ys)
  above_front k ys e s g = (g, all_above o k e.0 ys g (sorted_head R e.0 (keys_of ys) s))

  first_above : (k : K) (c ys : List (K × X)) (d : K × X) → 0 < length c → IsStrictlySortedBy R (keys_of (c ++ ys)) → R k (get_or c 0 d).0 ≡ Less → AreAbove R k (c ++ ys)
  first_above k [] ys d lt s g = absurd (omega arith)
  first_above k (e ∷ es) ys d lt s g = above_front k (es ++ ys) e s g

  first_below : (k : K) (xs c ys : List (K × X)) (d : K × X) → 0 < length c → IsStrictlySortedBy R (keys_of (xs ++ (c ++ ys))) → R k (get_or c 0 d).0 ≡ Greater → AreBelow R k xs
  first_below k xs [] ys d lt s g = absurd (omega arith)
  first_below k xs (e ∷ es) ys d lt s g = below_front k xs (es ++ ys) e s g

  first_hit : (k : K) (xs c ys : List (K × X)) (d : K × X) → 0 < length c → IsStrictlySortedBy R (keys_of (xs ++ (c ++ ys))) → R k (get_or c 0 d).0 ≡ Equal → AreBelow R k xs
  first_hit k xs [] ys d lt s g = absurd (omega arith)
  first_hit k xs (e ∷ es) ys d lt s g = below_front_hit k xs (es ++ ys) e s g

  -- by the first key of the chunk at an index: about the chunks from it on, and about those before
  -- it together with earlier keys
  pub above_chunk : (k : K) (cs : List (List (K × X))) (m : ℕ) (c : List (K × X)) (d : K × X) → m < length cs → get_or cs m c ≡ c → 0 < length c → IsStrictlySortedBy R (keys_of (joined cs)) → R k (get_or c 0 d).0 ≡ Less → AreAbove R k (joined (drop m cs))
  above_chunk k [] m c d lt is some s g = absurd (omega arith)
  above_chunk k (b ∷ cs) zero c d lt is some s g = first_above k b (joined cs) d (rw is some) s (rw is g)
  above_chunk k (b ∷ cs) (suc m) c d lt is some s g = above_chunk k cs m c d (omega arith) is some (rising_right b (joined cs) s) g

  pub below_chunk : (k : K) (xs : List (K × X)) (cs : List (List (K × X))) (m : ℕ) (c : List (K × X)) (d : K × X) → m < length cs → get_or cs m c ≡ c → 0 < length c → IsStrictlySortedBy R (keys_of (xs ++ joined cs)) → R k (get_or c 0 d).0 ≡ Greater → AreBelow R k (xs ++ joined (take m cs))
  below_chunk k xs [] m c d lt is some s g = absurd (omega arith)
  below_chunk k xs (b ∷ cs) zero c d lt is some s g = rw (append-nil xs) (first_below k xs b (joined cs) d (rw is some) s (rw is g))
  below_chunk k xs (b ∷ cs) (suc m) c d lt is some s g = subst (λ l. AreBelow R k l) (append_assoc xs b (joined (take m cs))) (below_chunk k (xs ++ b) cs m c d (omega arith) is some (subst (λ l. IsStrictlySortedBy R (keys_of l)) (sym (append_assoc xs b (joined cs))) s) g)

  pub below_chunk_hit : (k : K) (xs : List (K × X)) (cs : List (List (K × X))) (m : ℕ) (c : List (K × X)) (d : K × X) → m < length cs → get_or cs m c ≡ c → 0 < length c → IsStrictlySortedBy R (keys_of (xs ++ joined cs)) → R k (get_or c 0 d).0 ≡ Equal → AreBelow R k (xs ++ joined (take m cs))
  below_chunk_hit k xs [] m c d lt is some s g = absurd (omega arith)
  below_chunk_hit k xs (b ∷ cs) zero c d lt is some s g = rw (append-nil xs) (first_hit k xs b (joined cs) d (rw is some) s (rw is g))
  below_chunk_hit k xs (b ∷ cs) (suc m) c d lt is some s g = subst (λ l. AreBelow R k l) (append_assoc xs b (joined (take m cs))) (below_chunk_hit k (xs ++ b) cs m c d (omega arith) is some (subst (λ l. IsStrictlySortedBy R (keys_of l)) (sym (append_assoc xs b (joined cs))) s) g)
