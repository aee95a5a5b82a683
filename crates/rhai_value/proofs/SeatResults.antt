-- Look-ups, insertions and removals by place.
use Rattle.std.proofs.Common.{◌≡◌, ℕ, ◌+◌, ◌<◌, List, [], ◌∷◌, ◌++◌, ap, ap₂, sym, subst, ◌∙◌, arith}
use Rattle.std.specs.BTreeMap.{insert_entry, is_at}
use Rattle.std.specs.Map.{remove_entry, set_value}
use Rattle.rhai_value.specs.Falls.{nodes_joined}
use Rattle.rhai_value.specs.Lists.{row_of, rows_of}
use Rattle.rhai_value.specs.Rows.{bytes_cmp, fields_of, AreRising}
use Rattle.rhai_value.specs.Seats.{with_value, row_at, rows_before, rows_from, rows_past, IsFound, IsMissing, IsSeated}
use Rattle.rhai_value.specs.Tree.{Tree, nodes, nodes_fields}
use Rattle.rhai_value.specs.declared.map.Entry.{Entry}
use Rattle.rhai_value.specs.declared.map.MapParts.{MapParts}
use Rattle.rhai_value.specs.declared.map.seat.Seat.{Seat}
use Rattle.rhai_value.proofs.Lists.{rising_put}
use Rattle.rhai_value.proofs.Parted.{insert_gap, insert_hit, remove_above, remove_hit, remove_right, set_hit}
use Rattle.rhai_value.proofs.SeatEdits.{value_rows}
use Rattle.rhai_value.proofs.Seats.{rows_seated, rows_split}

-- ---- a key that exists

module _ (k : List ℕ) (p q : MapParts) (s : Seat) (h : IsFound k p s) where
  pub found_written : (v : Tree) → rows_before q s ≡ rows_before p s → row_at q s ≡ ((row_at p s).0, v) → rows_past q s ≡ rows_past p s → IsSeated q s → rows_of q ≡ insert_entry bytes_cmp (rows_of p) k v
  found_written v before row past seated =
      rows_seated q s seated ∙ ap₂ (λ xs ys. xs ++ row_at q s ∷ ys) before past ∙ ap (λ r. rows_before p s ++ r ∷ rows_past p s) row
      ∙ sym (ap (λ rs. insert_entry bytes_cmp rs k v) (rows_seated p s h.seated) ∙ insert_hit bytes_cmp k (rows_before p s) (rows_past p s) (row_at p s) v h.below h.same)

  pub found_removed : rows_of q ≡ rows_before p s ++ rows_past p s → rows_of q ≡ remove_entry (is_at (bytes_cmp k)) (rows_of p)
  found_removed is = is ∙ sym (ap (remove_entry (is_at (bytes_cmp k))) (rows_seated p s h.seated) ∙ remove_hit bytes_cmp k (rows_before p s) (rows_past p s) (row_at p s) h.below h.same)

module _ (k : List ℕ) (p : MapParts) (s : Seat) (h : IsFound k p s) where
  pub found_valued : (v : Tree) → rows_of (with_value p s v) ≡ set_value (is_at (bytes_cmp k)) (rows_of p) v
  found_valued v = value_rows p s h.seated v ∙ sym (ap (λ rs. set_value (is_at (bytes_cmp k)) rs v) (rows_seated p s h.seated) ∙ set_hit bytes_cmp k (rows_before p s) (rows_past p s) (row_at p s) v h.below h.same)

-- ---- a key that is new

module _ (k : List ℕ) (p : MapParts) (s : Seat) (h : IsMissing k p s) where
  pub missing_put : (v : Tree) → rows_before p s ++ (k, v) ∷ rows_from p s ≡ insert_entry bytes_cmp (rows_of p) k v
  missing_put v = sym (ap (λ rs. insert_entry bytes_cmp rs k v) (rows_split p s h.seat.list) ∙ insert_gap bytes_cmp k (rows_before p s) (rows_from p s) v h.below h.above)

  pub missing_rising : (v : Tree) → AreRising (rows_of p) → AreRising (rows_before p s ++ (k, v) ∷ rows_from p s)
  missing_rising v rising = rising_put k v (rows_before p s) (rows_from p s) h.below h.above (subst AreRising (rows_split p s h.seat.list) rising)

  pub missing_removed : remove_entry (is_at (bytes_cmp k)) (rows_of p) ≡ rows_of p
  missing_removed =
      ap (remove_entry (is_at (bytes_cmp k))) (rows_split p s h.seat.list) ∙ remove_right bytes_cmp k (rows_before p s) (rows_from p s) h.below
      ∙ ap (λ l. rows_before p s ++ l) (remove_above bytes_cmp k (rows_from p s) h.above) ∙ sym (rows_split p s h.seat.list)

-- ---- first and last entries, and nodes

module _ (p q : MapParts) (s : Seat) (h : IsSeated p s) where
  pub first_taken : (e : Entry) → rows_before p s ≡ [] → row_of e ≡ row_at p s → rows_of q ≡ rows_before p s ++ rows_past p s → rows_of p ≡ (e.key, e.value) ∷ rows_of q
  first_taken e none is rest =
      rows_seated p s h ∙ ap (λ l. l ++ row_at p s ∷ rows_past p s) none ∙ ap (λ r. r ∷ rows_past p s) (sym is)
      ∙ ap (λ l. (e.key, e.value) ∷ l) (sym (rest ∙ ap (λ l. l ++ rows_past p s) none))

  pub nodes_taken : (e : Entry) → row_of e ≡ row_at p s → rows_of q ≡ rows_before p s ++ rows_past p s → nodes_fields (fields_of (rows_of q)) + nodes e.value ≡ nodes_fields (fields_of (rows_of p))
  nodes_taken e is rest =
      let all = ap (λ l. nodes_fields (fields_of l)) (rows_seated p s h) in
      let left = ap (λ l. nodes_fields (fields_of l)) rest in
      let value : nodes e.value ≡ nodes (row_at p s).1 = ap (λ r. nodes r.1) is in
      omega (arith, all, left, value, nodes_joined (rows_before p s) (row_at p s ∷ rows_past p s), nodes_joined (rows_before p s) (rows_past p s))

  pub nodes_exchanged : (v : Tree) → rows_before q s ≡ rows_before p s → row_at q s ≡ ((row_at p s).0, v) → rows_past q s ≡ rows_past p s → IsSeated q s
      → (nodes_fields (fields_of (rows_of q)) + nodes (row_at p s).1 ≡ nodes_fields (fields_of (rows_of p)) + nodes v) × (nodes (row_at p s).1 < 1 + nodes_fields (fields_of (rows_of p)))
  nodes_exchanged v before row past seated =
      let now = ap (λ l. nodes_fields (fields_of l)) (rows_seated q s seated ∙ ap₂ (λ xs ys. xs ++ row_at q s ∷ ys) before past ∙ ap (λ r. rows_before p s ++ r ∷ rows_past p s) row) in
      let all = ap (λ l. nodes_fields (fields_of l)) (rows_seated p s h) in
      let one = nodes_joined (rows_before p s) (row_at p s ∷ rows_past p s) in
      let two = nodes_joined (rows_before p s) (((row_at p s).0, v) ∷ rows_past p s) in
      (omega (arith, now, all, one, two), omega (arith, all, one))
