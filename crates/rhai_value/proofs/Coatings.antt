-- The parts of a map being painted.
use Rattle.std.proofs.Common.{◌≡◌, ℕ, zero, suc, ◌+◌, ◌<◌, Option, Some, List, [], ◌∷◌, ◌++◌, Global, length, take, drop, get_or, subst, refl, ap, ap₂, sym, ◌∙◌, arith}
use Rattle.std.proofs.lemmas.List.{append_assoc}
use Rattle.std.specs.declared.boxed.Box.{Box}
use Rattle.rhai_value.specs.Coats.{painted_past, painted_with, taken_seat, IsTaken}
use Rattle.rhai_value.specs.Lists.{joined, rows_of, rows_in, lists_of, IsWhole, IsWholeIn}
use Rattle.rhai_value.specs.Rows.{fields_of}
use Rattle.rhai_value.specs.RowWalks.{painted_row, painted_rows}
use Rattle.rhai_value.specs.Seats.{list_at, row_at, rows_before, rows_from, rows_past, IsOpen, IsSeated}
use Rattle.rhai_value.specs.Tree.{Tree, fresh, unit, nodes, nodes_fields, paint, paint_fields}
use Rattle.rhai_value.specs.declared.value.access_mode.AccessMode.{AccessMode}
use Rattle.rhai_value.specs.declared.map.MapParts.{MapParts}
use Rattle.rhai_value.specs.declared.map.seat.Seat.{Seat}
use Rattle.rhai_value.proofs.Paints.{fields_painted}
use Rattle.rhai_value.proofs.Seats.{rows_next, rows_split}

abbrev start : Seat
start = record { list = 0; at = 0 }

-- nothing is painted yet
pub opened_painted : (m : AccessMode) (o : Option (Box MapParts Global)) (b : Box MapParts Global) → Some b ≡ o → IsWholeIn o
    → (fields_of (painted_past m b.value start) ≡ paint_fields m (fields_of (rows_in o))) × (nodes_fields (fields_of (rows_from b.value start)) ≡ nodes_fields (fields_of (rows_in o))) × IsOpen b.value start × IsWhole b.value
opened_painted m o b is whole =
    let w : IsWhole b.value = rw (sym is) at whole in
    let all : rows_of b.value ≡ rows_from b.value start = rows_split b.value start (omega arith) in
    rw (sym is) (ap (λ rs. fields_of (painted_rows m rs)) (sym all) ∙ fields_painted m (rows_of b.value), ap (λ rs. nodes_fields (fields_of rs)) (sym all), record { list = omega arith; within = omega arith }, w)

-- ---- a step

taken_suc : {A : Type 0} (xs : List A) (i : ℕ) (d : A) → i < length xs → take (suc i) xs ≡ take i xs ++ get_or xs i d ∷ []
taken_suc [] i d lt = absurd (omega arith)
taken_suc (x ∷ xs) zero d lt = refl
taken_suc (x ∷ xs) (suc i) d lt = ap (λ l. x ∷ l) (taken_suc xs i d (omega arith))

-- two places of a list, one directly after the other
pub record IsPast (s t : Seat) : Type 0 where
  pub list : t.list ≡ s.list
  pub at : t.at ≡ suc s.at

module _ (p : MapParts) (s t : Seat) (n : IsPast s t) (h : IsSeated p s) where
  pub past_open : IsOpen p t
  past_open = record { list = subst (λ m. m < length (lists_of p)) (sym n.list) h.list; within = omega (arith, n.at, h.within, ap (λ m. length (list_at p m)) n.list) }

  pub past_before : rows_before p t ≡ rows_before p s ++ row_at p s ∷ []
  past_before =
      ap₂ (λ m i. joined (take m (lists_of p)) ++ take i (list_at p m)) n.list n.at
      ∙ ap (λ l. joined (take s.list (lists_of p)) ++ l) (taken_suc (list_at p s.list) s.at ([], fresh unit) h.within)
      ∙ sym (append_assoc (joined (take s.list (lists_of p))) (take s.at (list_at p s.list)) (row_at p s ∷ []))

  pub past_from : rows_from p t ≡ rows_past p s
  past_from = ap₂ (λ m i. drop i (list_at p m) ++ joined (drop (suc m) (lists_of p))) n.list n.at

abbrev seat : ℕ → ℕ → Seat
seat n i = record { list = n; at = i }

-- the place taken last
pub taken_is : (s t : Seat) → IsPast s t → taken_seat t ≡ s
taken_is s t n = ap₂ seat n.list (omega (arith, n.at))

pub taken_past : (t : Seat) → 0 < t.at → IsPast (taken_seat t) t
taken_past t some = record { list = refl; at = omega (arith, some) }

-- the value at a place is painted, and those before and after it are unchanged
module _ (m : AccessMode) (p q : MapParts) (s t : Seat) (n : IsPast s t) (h : IsSeated p s) (g : IsSeated q s) (before : rows_before q s ≡ rows_before p s) (past : rows_past q s ≡ rows_past p s) where
  pub coat_step : row_at q s ≡ painted_row m (row_at p s) → painted_past m q t ≡ painted_past m p s
  coat_step row =
      ap₂ (λ xs ys. xs ++ painted_rows m ys) (past_before q s t n g ∙ ap₂ (λ xs r. xs ++ r ∷ []) before row) (past_from q s t n g ∙ past)
      ∙ append_assoc (rows_before p s) (painted_row m (row_at p s) ∷ []) (painted_rows m (rows_past p s))
      ∙ ap (λ ys. rows_before p s ++ painted_rows m ys) (sym (rows_next p s h))

  -- the same for a value that was taken and is in progress
  pub coat_taken : (x : Tree) → (row_at q s).0 ≡ (row_at p s).0 → x ≡ paint m (row_at p s).1 → painted_with m q t x ≡ painted_past m p s
  coat_taken x key is =
      ap (λ u. rows_before q u ++ ((row_at q u).0, x) ∷ painted_rows m (rows_from q t)) (taken_is s t n)
      ∙ ap₂ (λ xs ys. xs ++ ((row_at q s).0, x) ∷ painted_rows m ys) before (past_from q s t n g ∙ past)
      ∙ ap₂ (λ k y. rows_before p s ++ (k, y) ∷ painted_rows m (rows_past p s)) key is
      ∙ ap (λ ys. rows_before p s ++ painted_rows m ys) (sym (rows_next p s h))

  -- fewer remain
  pub nodes_past : nodes_fields (fields_of (rows_from q t)) + nodes (row_at p s).1 ≡ nodes_fields (fields_of (rows_from p s))
  nodes_past = omega (arith, ap (λ rs. nodes_fields (fields_of rs)) (past_from q s t n g ∙ past), ap (λ rs. nodes_fields (fields_of rs)) (rows_next p s h))

  pub rows_fewer : length (rows_from q t) < length (rows_from p s)
  rows_fewer = omega (arith, ap length (past_from q s t n g ∙ past), ap length (rows_next p s h))

  pub still_taken : IsTaken q t
  still_taken = (omega (arith, n.at), subst (IsSeated q) (sym (taken_is s t n)) g)

-- the result for the value taken last is put back
module _ (m : AccessMode) (p q : MapParts) (t : Seat) (taken : IsTaken p t) (g : IsSeated q (taken_seat t)) (x : Tree) (before : rows_before q (taken_seat t) ≡ rows_before p (taken_seat t))
    (row : row_at q (taken_seat t) ≡ ((row_at p (taken_seat t)).0, x)) (past : rows_past q (taken_seat t) ≡ rows_past p (taken_seat t)) where
  pub coat_added : painted_past m q t ≡ painted_with m p t x
  coat_added =
      let s = taken_seat t in
      let n = taken_past t taken.0 in
      ap₂ (λ xs ys. xs ++ painted_rows m ys) (past_before q s t n g ∙ ap₂ (λ xs r. xs ++ r ∷ []) before row) (past_from q s t n g ∙ past)
      ∙ append_assoc (rows_before p s) (((row_at p s).0, x) ∷ []) (painted_rows m (rows_past p s))
      ∙ ap (λ ys. rows_before p s ++ ((row_at p s).0, x) ∷ painted_rows m ys) (sym (past_from p s t n taken.1))

  pub left_added : rows_from q t ≡ rows_from p t
  left_added = let s = taken_seat t in let n = taken_past t taken.0 in past_from q s t n g ∙ past ∙ sym (past_from p s t n taken.1)

  pub open_added : IsOpen q t
  open_added = past_open q (taken_seat t) t (taken_past t taken.0) g

-- all are painted
pub painted_all : (m : AccessMode) (p : MapParts) (s : Seat) → IsOpen p s → rows_from p s ≡ [] → painted_past m p s ≡ rows_of p
painted_all m p s h none = ap (λ l. rows_before p s ++ painted_rows m l) none ∙ sym (rows_split p s h.list ∙ ap (λ l. rows_before p s ++ l) none)
