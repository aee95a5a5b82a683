-- A map made from the keys with unit, and then given the values, is the map of the keys to the values.
use Rattle.std.proofs.Common.{◌≡◌, ◌≤◌, ◌<◌, ℕ, zero, suc, ◌+◌, Bool, true, false, cond, List, [], ◌∷◌, ◌++◌, length, map, take, get_or, slice_get, slice_set, Option, Some, None, Ordering, Less, Equal, Greater, is_some, inl, inr, refl, sym, ap, ap₂, ◌∙◌, subst, arith}
use Rattle.std.proofs.lemmas.Bool.{cases_Bool}
use Rattle.std.proofs.lemmas.Cmp.{nat_list_cmp_total, tied_itself, eq_by_cmp_equiv}
use Rattle.std.proofs.lemmas.List.{take_more, length-take-le, length-map}
use Rattle.std.proofs.lemmas.Map.{keys-set_value, lookup-none, lookup-set_value}
use Rattle.std.proofs.lemmas.Map.Entries.{lookup_head, lookup_tail, none_past_head}
use Rattle.std.proofs.lemmas.Map.Keys.{IsDistinct-from_sorted, sorted_tail}
use Rattle.std.proofs.lemmas.Option.{same_Some}
use Rattle.std.specs.BTreeMap.{insert_entry, is_at}
use Rattle.std.specs.List.{AllByRecursion, list_any}
use Rattle.std.specs.List.Sorted.{IsStrictlySortedBy}
use Rattle.std.specs.Map.{keys_of, lookup, set_value}
use Rattle.std.specs.Ordering.{is_eq, match_ordering, ordering_reverse}
use Rattle.std.specs.Str.{encode_utf8_all}
use Rattle.rhai_value.proofs.ForCallers.{found_inserted, get_set_other, or_false}
use Rattle.rhai_value.specs.Rows.{Rows, bytes_cmp}
use Rattle.rhai_value.specs.Tree.{Tree, fresh, unit}
use Rattle.rhai_run.specs.Made.{rows_with, rows_of_keys}

-- ---- one more key

rows_last : (ks : List (List ℕ)) (ts : List Tree) (rs : Rows) (k : List ℕ) (t : Tree) → slice_get ts (length ks) ≡ Some t
    → rows_with rs (ks ++ k ∷ []) ts ≡ insert_entry bytes_cmp (rows_with rs ks ts) (encode_utf8_all k) t
rows_last [] [] rs k t h = cc
rows_last [] (u ∷ ts) rs k t h = ap (insert_entry bytes_cmp rs (encode_utf8_all k)) (same_Some u t h)
rows_last (j ∷ ks) [] rs k t h = cc
rows_last (j ∷ ks) (u ∷ ts) rs k t h = rows_last ks ts (insert_entry bytes_cmp rs (encode_utf8_all j) u) k t h

pub rows_more : (rs : Rows) (ks : List (List ℕ)) (ts : List Tree) (i : ℕ) (k : List ℕ) (t : Tree) → i < length ks → k ≡ get_or ks i k → slice_get ts i ≡ Some t
    → rows_with rs (take (i + 1) ks) ts ≡ insert_entry bytes_cmp (rows_with rs (take i ks) ts) (encode_utf8_all k) t
rows_more rs ks ts i k t l e h =
    let first : take (i + 1) ks ≡ take i ks ++ k ∷ [] = take_more ks i k l ∙ ap (λ d. take i ks ++ d ∷ []) (sym e) in
    rw first (rows_last (take i ks) ts rs k t (ap (slice_get ts) (length-take-le i ks (omega arith)) ∙ h))

pub unit_at : (ks : List (List ℕ)) (i : ℕ) → i < length ks → slice_get (map (λ k. fresh unit) ks) i ≡ Some (fresh unit)
unit_at [] i l = absurd (omega arith)
unit_at (k ∷ ks) zero l = refl
unit_at (k ∷ ks) (suc i) l = unit_at ks i (omega arith)

-- ---- look-ups

abbrev pub found : List ℕ → Rows → Option Tree
found q rs = lookup (is_at (bytes_cmp q)) rs

is_itself : (k : List ℕ) → is_eq (bytes_cmp k k) ≡ true
is_itself k = ap is_eq (tied_itself nat_list_cmp_total k)

-- look-ups after a write at an existing key
pub found_set : (q k : List ℕ) (t : Tree) (rs : Rows) → is_some (found k rs) ≡ true → found q (set_value (is_at (bytes_cmp k)) rs t) ≡ cond (is_eq (bytes_cmp q k)) (Some t) (found q rs)
found_set q k t rs h =
    let laws = eq_by_cmp_equiv nat_list_cmp_total in
    lookup-set_value laws (is_at (bytes_cmp k)) (laws.congr k) q t rs h ∙ ap (λ b. cond b (Some t) (found q rs)) (laws.symm k q)

-- a write keeps the keys
pub keys_set : (k : List ℕ) (t : Tree) (rs : Rows) → keys_of (set_value (is_at (bytes_cmp k)) rs t) ≡ keys_of rs
keys_set k t rs = keys-set_value (is_at (bytes_cmp k)) rs t

-- an existing key is kept
stays_found : (q : List ℕ) (ks : List (List ℕ)) (ts : List Tree) (rs : Rows) → is_some (found q rs) ≡ true → is_some (found q (rows_with rs ks ts)) ≡ true
stays_found q [] ts rs h = h
stays_found q (k ∷ ks) [] rs h = h
stays_found q (k ∷ ks) (t ∷ ts) rs h = stays_found q ks ts _ (rw (found_inserted nat_list_cmp_total q (encode_utf8_all k) t rs) (here (is_eq (bytes_cmp q (encode_utf8_all k)))))
  where
    here : (b : Bool) → is_some (cond b (Some t) (found q rs)) ≡ true
    here true = refl
    here false = h

-- each key of a map of keys is found
key_found : (ks : List (List ℕ)) (ts : List Tree) (rs : Rows) (i : ℕ) (k : List ℕ) → i < length ks → length ts ≡ length ks → k ≡ get_or ks i k → is_some (found (encode_utf8_all k) (rows_with rs ks ts)) ≡ true
key_found [] ts rs i k l n e = absurd (omega arith)
key_found (j ∷ ks) [] rs i k l n e = absurd (omega arith)
key_found (j ∷ ks) (t ∷ ts) rs zero k l n e =
    stays_found (encode_utf8_all k) ks ts _ (rw (e, found_inserted nat_list_cmp_total (encode_utf8_all j) (encode_utf8_all j) t rs, is_itself (encode_utf8_all j)) refl)
key_found (j ∷ ks) (t ∷ ts) rs (suc i) k l n e = key_found ks ts _ i k (omega arith) (omega arith) e

pub key_stays : (ks js : List (List ℕ)) (ts : List Tree) (i : ℕ) (k : List ℕ) → i < length ks → k ≡ get_or ks i k → is_some (found (encode_utf8_all k) (rows_with (rows_of_keys ks) js ts)) ≡ true
key_stays ks js ts i k l e = stays_found (encode_utf8_all k) js ts (rows_of_keys ks) (key_found ks (map (λ k. fresh unit) ks) [] i k l (length-map ks (λ (k : List ℕ). fresh unit)) e)

-- one more key is written
pub found_more : (q : List ℕ) (rs us : Rows) (ks : List (List ℕ)) (ts : List Tree) (i : ℕ) (k : List ℕ) (t : Tree) → i < length ks → k ≡ get_or ks i k → slice_get ts i ≡ Some t → is_some (found (encode_utf8_all k) us) ≡ true
    → found q us ≡ found q (rows_with rs (take i ks) ts) → found q (set_value (is_at (bytes_cmp (encode_utf8_all k))) us t) ≡ found q (rows_with rs (take (i + 1) ks) ts)
found_more q rs us ks ts i k t l e h there same =
    found_set q (encode_utf8_all k) t us there ∙ ap (cond (is_eq (bytes_cmp q (encode_utf8_all k))) (Some t)) same
    ∙ sym (ap (found q) (rows_more rs ks ts i k t l e h) ∙ found_inserted nat_list_cmp_total q (encode_utf8_all k) t (rows_with rs (take i ks) ts))

-- ---- the keys first, and then the values

-- earlier values don't matter if each of these keys is given its value again
found_over : (q : List ℕ) (ks : List (List ℕ)) (ts : List Tree) (rs us : Rows) → length ts ≡ length ks → (list_any (λ k. is_eq (bytes_cmp q (encode_utf8_all k))) ks ≡ false → found q rs ≡ found q us) → found q (rows_with rs ks ts) ≡ found q (rows_with us ks ts)
found_over q [] ts rs us n h = h refl
found_over q (k ∷ ks) [] rs us n h = absurd (omega arith)
found_over q (k ∷ ks) (t ∷ ts) rs us n h =
    found_over q ks ts _ _ (omega arith) (λ none. rw (found_inserted nat_list_cmp_total q (encode_utf8_all k) t rs, found_inserted nat_list_cmp_total q (encode_utf8_all k) t us) (here (is_eq (bytes_cmp q (encode_utf8_all k))) (λ e. h (rw e none))))
  where
    here : (b : Bool) → (b ≡ false → found q rs ≡ found q us) → cond b (Some t) (found q rs) ≡ cond b (Some t) (found q us)
    here true g = refl
    here false g = g refl

-- other keys are not found
found_none : (q : List ℕ) (ks : List (List ℕ)) (ts : List Tree) (rs : Rows) → list_any (λ k. is_eq (bytes_cmp q (encode_utf8_all k))) ks ≡ false → found q (rows_with rs ks ts) ≡ found q rs
found_none q [] ts rs h = refl
found_none q (k ∷ ks) [] rs h = refl
found_none q (k ∷ ks) (t ∷ ts) rs h =
    let p = or_false (is_eq (bytes_cmp q (encode_utf8_all k))) _ h in
    found_none q ks ts _ p.1 ∙ found_inserted nat_list_cmp_total q (encode_utf8_all k) t rs ∙ ap (λ b. cond b (Some t) (found q rs)) p.0

pub found_given : (q : List ℕ) (ks : List (List ℕ)) (ts : List Tree) → length ts ≡ length ks → found q (rows_with (rows_of_keys ks) ks ts) ≡ found q (rows_with [] ks ts)
found_given q ks ts n = found_over q ks ts (rows_of_keys ks) [] n (found_none q ks (map (λ k. fresh unit) ks) [])

-- the keys don't depend on the values
inserted_keys : (rs us : Rows) (k : List ℕ) (t u : Tree) → keys_of rs ≡ keys_of us → keys_of (insert_entry bytes_cmp rs k t) ≡ keys_of (insert_entry bytes_cmp us k u)
inserted_keys [] [] k t u h = refl
inserted_keys [] (b ∷ us) k t u h = cc
inserted_keys (a ∷ rs) [] k t u h = cc
inserted_keys (a ∷ rs) (b ∷ us) k t u h =
    let first : a.0 ≡ b.0 = cc in
    let rest : keys_of rs ≡ keys_of us = cc in
    here (bytes_cmp k a.0) (inserted_keys rs us k t u rest) first rest
    ∙ ap (λ x. keys_of (match_ordering (bytes_cmp k x) ((k, u) ∷ b ∷ us) ((b.0, u) ∷ us) (b ∷ insert_entry bytes_cmp us k u))) first
  where
    here : (o : Ordering) → keys_of (insert_entry bytes_cmp rs k t) ≡ keys_of (insert_entry bytes_cmp us k u) → a.0 ≡ b.0 → keys_of rs ≡ keys_of us
        → keys_of (match_ordering o ((k, t) ∷ a ∷ rs) ((a.0, t) ∷ rs) (a ∷ insert_entry bytes_cmp rs k t)) ≡ keys_of (match_ordering o ((k, u) ∷ b ∷ us) ((b.0, u) ∷ us) (b ∷ insert_entry bytes_cmp us k u))
    here Less again first rest = ap (λ ks. k ∷ ks) h
    here Equal again first rest = h
    here Greater again first rest = ap₂ ◌∷◌ first again

given_keys : (ks : List (List ℕ)) (ts us : List Tree) (rs qs : Rows) → length ts ≡ length ks → length us ≡ length ks → keys_of rs ≡ keys_of qs → keys_of (rows_with rs ks ts) ≡ keys_of (rows_with qs ks us)
given_keys [] ts us rs qs n m h = h
given_keys (k ∷ ks) [] us rs qs n m h = absurd (omega arith)
given_keys (k ∷ ks) (t ∷ ts) [] rs qs n m h = absurd (omega arith)
given_keys (k ∷ ks) (t ∷ ts) (u ∷ us) rs qs n m h = given_keys ks ts us _ _ (omega arith) (omega arith) (inserted_keys rs qs (encode_utf8_all k) t u h)

-- rows with the same ascending keys and equal look-ups are equal
module _ (a b : List ℕ × Tree) (rs us : Rows) where
  rest_alike : a.0 ≡ b.0 → IsStrictlySortedBy bytes_cmp (keys_of (a ∷ rs)) → IsStrictlySortedBy bytes_cmp (keys_of (b ∷ us)) → (q : List ℕ) → found q (a ∷ rs) ≡ found q (b ∷ us) → found q rs ≡ found q us
  rest_alike e s z q h =
      elim (cases_Bool (is_eq (bytes_cmp q a.0))) [
        | inl same ↦ past q a rs s same ∙ sym (past q b us z (ap (λ k. is_eq (bytes_cmp q k)) (sym e) ∙ same))
        | inr other ↦ sym (lookup_tail (is_at (bytes_cmp q)) a rs other) ∙ h ∙ lookup_tail (is_at (bytes_cmp q)) b us (ap (λ k. is_eq (bytes_cmp q k)) (sym e) ∙ other)
      ]
    where
      past : (q : List ℕ) (e : List ℕ × Tree) (es : Rows) → IsStrictlySortedBy bytes_cmp (keys_of (e ∷ es)) → is_eq (bytes_cmp q e.0) ≡ true → found q es ≡ None
      past q e es s t = lookup-none (is_at (bytes_cmp q)) es (none_past_head (eq_by_cmp_equiv nat_list_cmp_total) q e es (IsDistinct-from_sorted bytes_cmp _ s) t)

  first_alike : a.0 ≡ b.0 → found a.0 (a ∷ rs) ≡ found a.0 (b ∷ us) → a.1 ≡ b.1
  first_alike e h =
      same_Some a.1 b.1 (sym (lookup_head (is_at (bytes_cmp a.0)) a rs (is_itself a.0)) ∙ h ∙ lookup_head (is_at (bytes_cmp a.0)) b us (ap (λ k. is_eq (bytes_cmp a.0 k)) (sym e) ∙ is_itself a.0))

same_rows : (rs us : Rows) → keys_of rs ≡ keys_of us → IsStrictlySortedBy bytes_cmp (keys_of rs) → ((q : List ℕ) → found q rs ≡ found q us) → rs ≡ us
same_rows [] [] k s h = refl
same_rows [] (b ∷ us) k s h = cc
same_rows (a ∷ rs) [] k s h = cc
same_rows (a ∷ rs) (b ∷ us) k s h =
    let first : a.0 ≡ b.0 = cc in
    let rest : keys_of rs ≡ keys_of us = cc in
    let value : a.1 ≡ b.1 = first_alike a b rs us first (h a.0) in
    let sorted : IsStrictlySortedBy bytes_cmp (keys_of (b ∷ us)) = subst (IsStrictlySortedBy bytes_cmp) k s in
    let more : rs ≡ us = same_rows rs us rest (sorted_tail bytes_cmp a.0 (keys_of rs) s) (λ q. rest_alike a b rs us first s sorted q (h q)) in
    λ i. (first i, value i) ∷ more i

-- the keys are ascending
all_inserted : (P : List ℕ → Type 0) (rs : Rows) (k : List ℕ) (t : Tree) → AllByRecursion P (keys_of rs) → P k → AllByRecursion P (keys_of (insert_entry bytes_cmp rs k t))
all_inserted P [] k t h p = (p, tt)
all_inserted P (e ∷ rs) k t h p = here (bytes_cmp k e.0) (all_inserted P rs k t h.1 p)
  where
    here : (o : Ordering) → AllByRecursion P (keys_of (insert_entry bytes_cmp rs k t)) → AllByRecursion P (keys_of (match_ordering o ((k, t) ∷ e ∷ rs) ((e.0, t) ∷ rs) (e ∷ insert_entry bytes_cmp rs k t)))
    here Less again = (p, h)
    here Equal again = h
    here Greater again = (h.0, again)

all_below : (j k : List ℕ) (ks : List (List ℕ)) → bytes_cmp j k ≡ Less → AllByRecursion (λ y. bytes_cmp k y ≡ Less) ks → AllByRecursion (λ y. bytes_cmp j y ≡ Less) ks
all_below j k [] l h = tt
all_below j k (y ∷ ks) l h = (nat_list_cmp_total.trans j k y l h.0, all_below j k ks l h.1)

sorted_inserted : (rs : Rows) (k : List ℕ) (t : Tree) → IsStrictlySortedBy bytes_cmp (keys_of rs) → IsStrictlySortedBy bytes_cmp (keys_of (insert_entry bytes_cmp rs k t))
unfolding IsStrictlySortedBy
sorted_inserted [] k t s = (tt, tt)
sorted_inserted (e ∷ rs) k t s = here (bytes_cmp k e.0) refl (sorted_inserted rs k t s.1)
  where
    here : (o : Ordering) → bytes_cmp k e.0 ≡ o → IsStrictlySortedBy bytes_cmp (keys_of (insert_entry bytes_cmp rs k t))
        → IsStrictlySortedBy bytes_cmp (keys_of (match_ordering o ((k, t) ∷ e ∷ rs) ((e.0, t) ∷ rs) (e ∷ insert_entry bytes_cmp rs k t)))
    here Less o again = ((o, all_below k e.0 (keys_of rs) o s.0), s)
    here Equal o again = s
    here Greater o again = (all_inserted (λ y. bytes_cmp e.0 y ≡ Less) rs k t s.0 (nat_list_cmp_total.antisymm e.0 k ∙ ap ordering_reverse o), again)

sorted_given : (ks : List (List ℕ)) (ts : List Tree) (rs : Rows) → IsStrictlySortedBy bytes_cmp (keys_of rs) → IsStrictlySortedBy bytes_cmp (keys_of (rows_with rs ks ts))
sorted_given [] ts rs s = s
sorted_given (k ∷ ks) [] rs s = s
sorted_given (k ∷ ks) (t ∷ ts) rs s = sorted_given ks ts _ (sorted_inserted rs (encode_utf8_all k) t s)

sorted_keys : (ks : List (List ℕ)) → IsStrictlySortedBy bytes_cmp (keys_of (rows_of_keys ks))
unfolding IsStrictlySortedBy
sorted_keys ks = sorted_given ks (map (λ k. fresh unit) ks) [] tt

-- the map of the keys after it is given the values
pub all_given : (rs : Rows) (ks : List (List ℕ)) (ts : List Tree) → length ts ≡ length ks → keys_of rs ≡ keys_of (rows_of_keys ks) → ((q : List ℕ) → found q rs ≡ found q (rows_with (rows_of_keys ks) ks ts)) → rs ≡ rows_with [] ks ts
all_given rs ks ts n k h =
    same_rows rs (rows_with [] ks ts) (k ∙ given_keys ks (map (λ k. fresh unit) ks) ts [] [] (length-map ks (λ (k : List ℕ). fresh unit)) n refl) (subst (IsStrictlySortedBy bytes_cmp) (sym k) (sorted_keys ks)) (λ q. h q ∙ found_given q ks ts n)

-- the values after an index that was written are unchanged
pub ahead_more : (ts us vs : List Tree) (n : ℕ) → vs ≡ slice_set us n (fresh unit) → ((k : ℕ) → n ≤ k → slice_get us k ≡ slice_get ts k) → (k : ℕ) → n < k → slice_get vs k ≡ slice_get ts k
ahead_more ts us vs n is same k l = rw is (get_set_other us n k (fresh unit) (λ e. omega arith) ∙ same k (omega arith))
