-- Marks set and cleared, counted in their list.
use Rattle.std.proofs.Common.{inl, inr, ◌≡◌, ℕ, zero, suc, ◌+◌, ◌<◌, Bool, true, false, cond, nat_eq, List, [], ◌∷◌, ◌++◌, length, slice_get, Option, Some, None, is_some, count_by, refl, sym, ap, ◌∙◌, subst, arith}
use Rattle.std.proofs.lemmas.Bool.{false≢true, cases_eq}
use Rattle.std.proofs.lemmas.Bool.Decides.{nat_tests}
use Rattle.std.proofs.lemmas.List.Sums.{sum_by-cons}
use Rattle.std.proofs.lemmas.Option.{same_Some}
use Rattle.std.specs.List.{remove}
use Rattle.rhai_value.specs.declared.cells.store.Cell.{Cell}
use Rattle.rhai_value.specs.End.{first_cell}
use Rattle.rhai_value.specs.Store.{at, unmarked, is_marked_at, set_mark}
use Rattle.rhai_value.specs.Tree.{Tree, node, leaf, branch, fields, holder}
use Rattle.rhai_value.proofs.ForCallers.{mark_stands, others_marked}
use Rattle.rhai_run.specs.Fits.{MarksAre}

-- one more is counted if it is c
pub counted-cons : (c m : ℕ) (ms : List ℕ) → count_by (nat_eq c) (m ∷ ms) ≡ cond (nat_eq c m) 1 0 + count_by (nat_eq c) ms
counted-cons c m ms = sum_by-cons (λ x. cond (nat_eq c x) 1 0) m ms

counted-last : (ms : List ℕ) (c d : ℕ) → count_by (nat_eq d) (ms ++ c ∷ []) ≡ cond (nat_eq d c) 1 0 + count_by (nat_eq d) ms
counted-last [] c d = counted-cons d c []
counted-last (m ∷ ms) c d = omega (arith, counted-cons d m (ms ++ c ∷ []), counted-last ms c d, counted-cons d m ms)

counted-remove : (ms : List ℕ) (k c d : ℕ) → slice_get ms k ≡ Some c → count_by (nat_eq d) ms ≡ cond (nat_eq d c) 1 0 + count_by (nat_eq d) (remove ms k)
counted-remove [] k c d e = cc
counted-remove (m ∷ ms) zero c d e = counted-cons d m ms ∙ ap (λ x. cond (nat_eq d x) 1 0 + count_by (nat_eq d) ms) (same_Some m c e)
counted-remove (m ∷ ms) (suc k) c d e = omega (arith, counted-cons d m ms, counted-remove ms k c d e, counted-cons d m (remove ms k))

abbrev once : Bool → ℕ
once b = cond b 1 0

here : (c : ℕ) → once (nat_eq c c) ≡ 1
here c = let e : nat_eq c c ≡ true = grind (arith, nat_tests) in ap once e

elsewhere : (d c : ℕ) → (d ≡ c → ⊥) → once (nat_eq d c) ≡ 0
elsewhere d c h = let e : nat_eq d c ≡ false = grind (arith, nat_tests) in ap once e

pub is_counted : (b : Bool) (n : ℕ) → n ≡ cond b 1 0 → 0 < n → b ≡ true
is_counted true n e l = refl
is_counted false n e l = absurd (omega arith)

pub marked_within : (s : List Cell) (c : ℕ) → is_marked_at s c ≡ true → c < length s
marked_within [] c e = absurd (false≢true e)
marked_within (x ∷ s) zero e = omega arith
marked_within (x ∷ s) (suc c) e = omega (arith, marked_within s c e)

-- the cell of a mark is marked
pub mark_is_set : (s : List Cell) (ms : List ℕ) (k c : ℕ) → MarksAre s ms → slice_get ms k ≡ Some c → is_marked_at s c ≡ true
mark_is_set s ms k c h e = is_counted (is_marked_at s c) (count_by (nat_eq c) ms) (h c) (omega (arith, counted-remove ms k c c e, here c))

-- a mark is cleared and removed from the list
pub mark_taken : (s : List Cell) (ms : List ℕ) (k c : ℕ) → MarksAre s ms → slice_get ms k ≡ Some c → MarksAre (set_mark s c false) (remove ms k)
mark_taken s ms k c h e d = elim (cases_eq d c) [ inl same ↦ at_it d same | inr other ↦ at_other d other ]
  where
    set : is_marked_at s c ≡ true
    set = mark_is_set s ms k c h e

    at_it : (d : ℕ) → d ≡ c → count_by (nat_eq d) (remove ms k) ≡ cond (is_marked_at (set_mark s c false) d) 1 0
    at_it d same =
        subst (λ x. count_by (nat_eq x) (remove ms k) ≡ cond (is_marked_at (set_mark s c false) x) 1 0) (sym same)
        (let left : count_by (nat_eq c) (remove ms k) ≡ 0 = omega (arith, counted-remove ms k c c e, here c, h c, ap once set) in
        left ∙ ap once (sym (mark_stands s c false (marked_within s c set))))

    at_other : (d : ℕ) → (d ≡ c → ⊥) → count_by (nat_eq d) (remove ms k) ≡ cond (is_marked_at (set_mark s c false) d) 1 0
    at_other d other =
        let same : count_by (nat_eq d) (remove ms k) ≡ count_by (nat_eq d) ms = omega (arith, counted-remove ms k c d e, elsewhere d c other) in
        same ∙ h d ∙ ap once (sym (others_marked s c d false other))

-- an unmarked cell of the store
free_cell : (s : List Cell) (c : ℕ) → is_some (at s c) ≡ true → (is_marked_at s c ≡ false) × (c < length s)
free_cell [] c e = absurd (false≢true e)
free_cell (x ∷ s) zero e = (by x.is_marked x.content e, omega arith)
  where
    by : (b : Bool) (t : Tree) → is_some (unmarked (record { content = t; is_marked = b })) ≡ true → b ≡ false
    by true t e = absurd (false≢true e)
    by false t e = refl
free_cell (x ∷ s) (suc c) e = let h = free_cell s c e in (h.0, omega (arith, h.1))

-- it is marked, and appended to the list
pub mark_added : (s : List Cell) (ms : List ℕ) (c : ℕ) → MarksAre s ms → is_some (at s c) ≡ true → MarksAre (set_mark s c true) (ms ++ c ∷ [])
mark_added s ms c h e d = elim (cases_eq d c) [ inl same ↦ at_it d same | inr other ↦ at_other d other ]
  where
    free : (is_marked_at s c ≡ false) × (c < length s)
    free = free_cell s c e

    at_it : (d : ℕ) → d ≡ c → count_by (nat_eq d) (ms ++ c ∷ []) ≡ cond (is_marked_at (set_mark s c true) d) 1 0
    at_it d same =
        subst (λ x. count_by (nat_eq x) (ms ++ c ∷ []) ≡ cond (is_marked_at (set_mark s c true) x) 1 0) (sym same)
        (let one : count_by (nat_eq c) (ms ++ c ∷ []) ≡ 1 = omega (arith, counted-last ms c c, here c, h c, ap once free.0) in
        one ∙ ap once (sym (mark_stands s c true free.1)))

    at_other : (d : ℕ) → (d ≡ c → ⊥) → count_by (nat_eq d) (ms ++ c ∷ []) ≡ cond (is_marked_at (set_mark s c true) d) 1 0
    at_other d other =
        let same : count_by (nat_eq d) (ms ++ c ∷ []) ≡ count_by (nat_eq d) ms = omega (arith, counted-last ms c d, elsewhere d c other) in
        same ∙ h d ∙ ap once (sym (others_marked s c d true other))

-- the first cell of a holder is an unmarked one
pub first_is_free : (s : List Cell) (t : Tree) (c : ℕ) → first_cell s t ≡ Some c → is_some (at s c) ≡ true
first_is_free s (node (leaf l) g m) c e = cc
first_is_free s (node (branch k ts) g m) c e = cc
first_is_free s (node (fields fs) g m) c e = cc
first_is_free s (node (holder d) g m) c e = by (at s d) refl e
  where
    by : (o : Option Tree) → at s d ≡ o → first_cell s (node (holder d) g m) ≡ Some c → is_some (at s c) ≡ true
    by None f e = let n = rw f at e in cc
    by (Some x) f e = let n = rw f at e in rw (sym (same_Some d c n)) (ap is_some f)
