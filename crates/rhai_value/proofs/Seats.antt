-- Places in a map's lists.
use Rattle.std.proofs.Common.{◌≡◌, ℕ, zero, suc, ◌<◌, ◌≤◌, List, [], ◌∷◌, ◌++◌, length, map, take, drop, get_or, Some, None, refl, ap, ap₂, sym, subst, ◌∙◌, arith}
use Rattle.std.proofs.Math.ListN.{drop_of_length-le}
use Rattle.std.proofs.Math.Seq.{drop-cons}
use Rattle.std.proofs.lemmas.Cmp.{nat_list_cmp_total}
use Rattle.std.proofs.lemmas.List.{append_assoc, append-nil, length-map, take_all}
use Rattle.std.specs.BTreeMap.{is_at}
use Rattle.std.specs.Map.{lookup}
use Rattle.rhai_value.specs.Lists.{rows, chunk_rows, joined, lists_of, rows_of, AreFronted, Begins, IsWhole}
use Rattle.rhai_value.specs.Rows.{Rows, bytes_cmp, AreRising}
use Rattle.rhai_value.specs.Seats.{list_at, row_at, rows_before, rows_from, rows_past, IsFound, IsMissing, IsOpen, IsSeated}
use Rattle.rhai_value.specs.Tree.{fresh, unit}
use Rattle.rhai_value.specs.declared.map.Chunk.{Chunk}
use Rattle.rhai_value.specs.declared.map.Entry.{Entry}
use Rattle.rhai_value.specs.declared.map.MapParts.{MapParts}
use Rattle.rhai_value.specs.declared.map.seat.Seat.{Seat}
use Rattle.rhai_value.proofs.ChunkFronts.{rising_left, rising_right}
use Rattle.rhai_value.proofs.Lists.{joined_at}
use Rattle.rhai_value.proofs.Parted.{lookup_hit, lookup_gap}

-- ---- the front of a chunk

pub begins_some : (f : ℕ) (es : List Entry) → Begins f es → 0 < length es
begins_some f [] h = absurd h
begins_some f (e ∷ es) h = omega arith

pub fronted_at : (cs : List Chunk) (m : ℕ) (d : Chunk) → AreFronted cs → m < length cs → Begins (get_or cs m d).front (get_or cs m d).entries.items
fronted_at [] m d h lt = absurd (omega arith)
fronted_at (c ∷ cs) zero d h lt = h.0
fronted_at (c ∷ cs) (suc m) d h lt = fronted_at cs m d h.1 (omega arith)

pub rows_some : (es : List Entry) → 0 < length es → 0 < length (rows es)
rows_some [] h = absurd (omega (arith, h))
rows_some (e ∷ es) h = omega arith

-- ---- a place

pub rows_split : (p : MapParts) (s : Seat) → s.list < length (lists_of p) → rows_of p ≡ rows_before p s ++ rows_from p s
rows_split p s lt = joined_at (lists_of p) s.list s.at lt

pub rows_next : (p : MapParts) (s : Seat) → IsSeated p s → rows_from p s ≡ row_at p s ∷ rows_past p s
rows_next p s h = ap (λ l. l ++ joined (drop (suc s.list) (lists_of p))) (drop-cons (list_at p s.list) s.at ([], fresh unit) h.within)

pub rows_seated : (p : MapParts) (s : Seat) → IsSeated p s → rows_of p ≡ rows_before p s ++ row_at p s ∷ rows_past p s
rows_seated p s h = rows_split p s h.list ∙ ap (λ l. rows_before p s ++ l) (rows_next p s h)

pub list_rising : (p : MapParts) (s : Seat) → s.list < length (lists_of p) → AreRising (rows_of p) → AreRising (list_at p s.list)
list_rising p s lt rising =
    let first : Seat = record { list = s.list; at = 0 } in
    let split = subst AreRising (rows_split p first lt) rising in
    rising_left nat_list_cmp_total (list_at p s.list) (joined (drop (suc s.list) (lists_of p))) (rising_right nat_list_cmp_total (rows_before p first) (rows_from p first) split)

-- ---- the entry found at a place

pub found_value : (k : List ℕ) (p : MapParts) (s : Seat) → IsFound k p s → lookup (is_at (bytes_cmp k)) (rows_of p) ≡ Some (row_at p s).1
found_value k p s h = ap (lookup (is_at (bytes_cmp k))) (rows_seated p s h.seated) ∙ lookup_hit bytes_cmp k (rows_before p s) (rows_past p s) (row_at p s) h.below h.same

pub missing_value : (k : List ℕ) (p : MapParts) (s : Seat) → IsMissing k p s → lookup (is_at (bytes_cmp k)) (rows_of p) ≡ None
missing_value k p s h = ap (lookup (is_at (bytes_cmp k))) (rows_split p s h.seat.list) ∙ lookup_gap bytes_cmp k (rows_before p s) (rows_from p s) h.below h.above

-- ---- from the end of a list to the next

joined_taken : {A : Type 0} (ls : List (List A)) (n : ℕ) → n < length ls → joined (take (suc n) ls) ≡ joined (take n ls) ++ get_or ls n []
joined_taken [] n lt = absurd (omega arith)
joined_taken (l ∷ ls) zero lt = append-nil l
joined_taken (l ∷ ls) (suc n) lt = ap (λ x. l ++ x) (joined_taken ls n (omega arith)) ∙ sym (append_assoc l (joined (take n ls)) (get_or ls n []))

joined_dropped : {A : Type 0} (ls : List (List A)) (n : ℕ) → n < length ls → joined (drop n ls) ≡ get_or ls n [] ++ joined (drop (suc n) ls)
joined_dropped [] n lt = absurd (omega arith)
joined_dropped (l ∷ ls) zero lt = refl
joined_dropped (l ∷ ls) (suc n) lt = joined_dropped ls n (omega arith)

chunk_some : (p : MapParts) (m : ℕ) → AreFronted p.rest.items → m < length p.rest.items → 0 < length (list_at p (suc m))
chunk_some p m h lt = some p.rest.items m h lt
  where
    some : (cs : List Chunk) (m : ℕ) → AreFronted cs → m < length cs → 0 < length (get_or (map chunk_rows cs) m [])
    some [] m h lt = absurd (omega arith)
    some (c ∷ cs) zero h lt = rows_some c.entries.items (begins_some c.front c.entries.items h.0)
    some (c ∷ cs) (suc m) h lt = some cs m h.1 (omega arith)

pub next_list : (p : MapParts) (s : Seat) → IsWhole p → IsOpen p s → length (list_at p s.list) ≤ s.at → s.list < length p.rest.items → (n : ℕ) → n ≡ suc s.list
    → IsSeated p (record { list = n; at = 0 }) × (rows_before p (record { list = n; at = 0 }) ≡ rows_before p s) × (rows_from p (record { list = n; at = 0 }) ≡ rows_from p s)
next_list p s whole opened end lt n is =
    let l = list_at p s.list in
    let later : suc s.list < length (lists_of p) = omega (arith, lt, length-map p.rest.items chunk_rows) in
    let before : joined (take (suc s.list) (lists_of p)) ++ [] ≡ rows_before p s =
    append-nil (joined (take (suc s.list) (lists_of p))) ∙ joined_taken (lists_of p) s.list opened.list ∙ ap (λ x. joined (take s.list (lists_of p)) ++ x) (sym (take_all s.at l end)) in
    let from : list_at p (suc s.list) ++ joined (drop (suc (suc s.list)) (lists_of p)) ≡ rows_from p s =
    sym (joined_dropped (lists_of p) (suc s.list) later) ∙ ap (λ x. x ++ joined (drop (suc s.list) (lists_of p))) (sym (drop_of_length-le l end)) in
    rw is (record { list = later; within = chunk_some p s.list whole.fronted lt }, before, from)

-- ---- the first and the last entry

empty_rows : (es : List Entry) → length es ≡ 0 → rows es ≡ []
empty_rows [] h = refl
empty_rows (e ∷ es) h = cc

pub no_rows : (p : MapParts) → length p.first.items ≡ 0 → length p.rest.items ≡ 0 → rows_of p ≡ []
no_rows p first rest = ap (λ l. l ++ joined (map chunk_rows p.rest.items)) (empty_rows p.first.items first) ∙ none p.rest.items rest
  where
    none : (cs : List Chunk) → length cs ≡ 0 → joined (map chunk_rows cs) ≡ []
    none [] h = refl
    none (c ∷ cs) h = cc

pub chunk_seated : (p : MapParts) → AreFronted p.rest.items → length p.first.items ≡ 0 → 0 < length p.rest.items → IsSeated p (record { list = 1; at = 0 }) × (rows_before p (record { list = 1; at = 0 }) ≡ [])
chunk_seated p fronted none some = (
  record { list = omega (arith, some, length-map p.rest.items chunk_rows); within = chunk_some p 0 fronted some },
  append-nil (rows p.first.items ++ []) ∙ append-nil (rows p.first.items) ∙ empty_rows p.first.items none,
)

nil_rows : (rs : Rows) → length rs ≡ 0 → rs ≡ []
nil_rows [] h = refl
nil_rows (r ∷ rs) h = cc

last_some : (c : Chunk) (cs : List Chunk) → AreFronted (c ∷ cs) → length (get_or (chunk_rows c ∷ map chunk_rows cs) (length cs) []) ≡ 0 → ⊥
last_some c [] f h = let some = rows_some c.entries.items (begins_some c.front c.entries.items f.0) in omega (arith, some, h)
last_some c (d ∷ ds) f h = last_some d ds f.1 h

-- if the last list is empty, all are
pub last_empty : (p : MapParts) → AreFronted p.rest.items → length (list_at p (length p.rest.items)) ≡ 0 → rows_of p ≡ []
last_empty p fronted h = by p.rest.items fronted h
  where
    by : (cs : List Chunk) → AreFronted cs → length (get_or (rows p.first.items ∷ map chunk_rows cs) (length cs) []) ≡ 0 → rows p.first.items ++ joined (map chunk_rows cs) ≡ []
    by [] f h = append-nil (rows p.first.items) ∙ nil_rows (rows p.first.items) h
    by (c ∷ cs) f h = absurd (last_some c cs f h)

pub last_seated : (p : MapParts) (n i : ℕ) → n ≡ length p.rest.items → suc i ≡ length (list_at p n) → IsSeated p (record { list = n; at = i }) × (rows_past p (record { list = n; at = i }) ≡ [])
last_seated p n i is long =
    let ends : length (map chunk_rows p.rest.items) ≤ n = omega (arith, is, length-map p.rest.items chunk_rows) in
    let here : length (list_at p n) ≤ suc i = omega (arith, long) in (
      record { list = omega (arith, is, length-map p.rest.items chunk_rows); within = omega (arith, long) },
      ap₂ (λ xs ls. xs ++ joined ls) (drop_of_length-le (list_at p n) here) (drop_of_length-le (map chunk_rows p.rest.items) ends),
    )
