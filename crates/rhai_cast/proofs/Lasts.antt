-- Rows inserted into a map one after another.
use Rattle.std.proofs.Common.{◌≡◌, ℕ, cond, List, [], ◌∷◌, ◌++◌, map, Some, refl, sym, ap, ◌∙◌, subst}
use Rattle.std.proofs.lemmas.Cmp.{nat_list_cmp_total}
use Rattle.std.proofs.lemmas.List.{append_assoc, append-nil, reverse-append}
use Rattle.std.specs.BTreeMap.{insert_entry, is_at}
use Rattle.std.specs.List.Sorted.{IsStrictlySortedBy}
use Rattle.std.specs.Map.{lookup}
use Rattle.rhai_value.proofs.ForCallers.{found_inserted}
use Rattle.rhai_value.specs.Rows.{Rows, bytes_cmp, AreRising}
use Rattle.rhai_value.specs.Tree.{Tree}
use Rattle.rhai_cast.specs.Makers.{HasLast}

no_rows : AreRising []
unfolding IsStrictlySortedBy
no_rows = tt

-- ---- a loop that inserts the rest of a list into a map

-- some rows are inserted, and these of all remain
pub record PutSoFar (left all rs : Rows) : Type 0 where
  pub done : Rows
  pub whole : done ++ left ≡ all
  pub last : HasLast done rs

pub put_none : (left all rs : Rows) → left ≡ all → rs ≡ [] → PutSoFar left all rs
put_none left all rs e none = record { done = []; whole = e; last = subst (HasLast []) (sym none) (no_rows, λ q. refl) }

-- one more row, whose value is inserted at its key
pub put_more : {A : Type 0} (row : A → List ℕ × Tree) (es fs : List A) (e : A) (all rs us : Rows) (v : Tree) → PutSoFar (map row es) all rs → es ≡ e ∷ fs
    → us ≡ insert_entry bytes_cmp rs (row e).0 v → v ≡ (row e).1 → AreRising us → PutSoFar (map row fs) all us
put_more row es fs e all rs us v h is put same rising =
    let k = (row e).0 in
    let entered : us ≡ insert_entry bytes_cmp rs k (row e).1 = put ∙ ap (insert_entry bytes_cmp rs k) same in
    record {
      done = h.done ++ row e ∷ [];
      whole = append_assoc h.done (row e ∷ []) (map row fs) ∙ ap (λ xs. h.done ++ map row xs) (sym is) ∙ h.whole;
      last = (
        rising,
        λ q.
            ap (lookup (is_at (bytes_cmp q))) entered ∙ found_inserted nat_list_cmp_total q k (row e).1 rs ∙ ap (cond (is_at (bytes_cmp q) k) (Some (row e).1)) (h.last.1 q)
            ∙ sym (ap (lookup (is_at (bytes_cmp q))) (reverse-append h.done (row e ∷ []))),
      );
    }

-- no row remains
pub put_all : (left all rs : Rows) → left ≡ [] → PutSoFar left all rs → HasLast all rs
put_all left all rs none h = subst (λ ps. HasLast ps rs) (sym (append-nil h.done) ∙ ap (λ xs. h.done ++ xs) (sym none) ∙ h.whole) h.last
