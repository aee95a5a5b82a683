-- Walks over rows, step by step over a list that is changed in place.
use Rattle.std.proofs.Common.{◌≡◌, ℕ, zero, suc, ◌+◌, ◌<◌, ◌≤◌, List, [], ◌∷◌, ◌++◌, length, map, set, get_or, take, drop, refl, sym, ap, ap₂, ◌∙◌, arith, add-one}
use Rattle.std.proofs.Math.ListN.{drop_of_length-le}
use Rattle.std.proofs.lemmas.Grind.{take-set_at}
use Rattle.std.proofs.lemmas.List.{map-append, take_all, take_at}
use Rattle.std.specs.Str.{chars}
use Rattle.rhai_value.specs.Falls.{nodes_joined}
use Rattle.rhai_value.specs.Lists.{rows, chunk_rows, joined}
use Rattle.rhai_value.specs.RowWalks.{before, scanned, row_scanned, chunk_scanned}
use Rattle.rhai_value.specs.Rows.{Rows, fields_of}
use Rattle.rhai_value.specs.Scan.{Visiting, field_before, fields_scanned}
use Rattle.rhai_value.specs.Tree.{nodes_fields}
use Rattle.rhai_value.specs.declared.map.Chunk.{Chunk}
use Rattle.rhai_value.specs.declared.map.Entry.{Entry}

-- one more at the end
pub scanned_more : {S X : Type 0} (f : S → X → S × X) (first now later : S) (xs us : List X) (x u : X) → (now, us) ≡ scanned f first xs → (later, u) ≡ f now x → (later, us ++ u ∷ []) ≡ scanned f first (xs ++ x ∷ [])
scanned_more f first now later [] us x u done did =
    ap (λ y. (y.0, us ++ y.1 ∷ [])) did ∙ ap (λ y. ((f y.0 x).0, y.1 ++ (f y.0 x).1 ∷ [])) done
scanned_more f first now later (y ∷ ys) us x u done did =
    let rest = scanned f (f first y).0 ys in
    ap (λ z. (z.0, us ++ z.1 ∷ [])) did ∙ ap (λ z. ((f z.0 x).0, z.1 ++ (f z.0 x).1 ∷ [])) done
    ∙ ap (before (f first y)) (scanned_more f (f first y).0 rest.0 (f rest.0 x).0 ys rest.1 x (f rest.0 x).1 refl refl)

-- ---- an index in a list

pub taken_more : {X : Type 0} (xs : List X) (i : ℕ) (x : X) → i < length xs → x ≡ get_or xs i x → take (i + 1) xs ≡ take i xs ++ x ∷ []
taken_more [] i x lt is = absurd (omega arith)
taken_more (y ∷ ys) zero x lt is = ap (λ z. z ∷ []) (sym is)
taken_more (y ∷ ys) (suc i) x lt is = ap (λ k. take k (y ∷ ys)) (add-one (suc i)) ∙ ap (λ l. y ∷ l) (ap (λ k. take k ys) (sym (add-one i)) ∙ taken_more ys i x (omega arith) is)

-- a list with item i changed: the items after it
pub behind : {X : Type 0} (xs : List X) (i : ℕ) (u : X) → i < length xs → drop (i + 1) (set xs i u) ≡ drop (i + 1) xs
behind [] i u l = absurd (omega arith)
behind (x ∷ xs) zero u l = refl
behind (x ∷ xs) (suc i) u l =
    let e : suc i + 1 ≡ suc (i + 1) = omega arith in
    ap (λ k. drop k (x ∷ set xs i u)) e ∙ behind xs i u (omega arith) ∙ ap (λ k. drop k (x ∷ xs)) (sym e)

-- lists that are equal from an index on are equal at it, and after it
pub same_at : {X : Type 0} (xs ys : List X) (i : ℕ) (x : X) → drop i xs ≡ drop i ys → get_or xs i x ≡ get_or ys i x
same_at xs ys i x same = sym (from xs i x) ∙ ap (λ l. get_or l 0 x) same ∙ from ys i x
  where
    from : {X : Type 0} (xs : List X) (i : ℕ) (x : X) → get_or (drop i xs) 0 x ≡ get_or xs i x
    from [] zero x = refl
    from [] (suc i) x = refl
    from (y ∷ ys) zero x = refl
    from (y ∷ ys) (suc i) x = from ys i x

pub same_behind : {X : Type 0} (xs ys : List X) (i : ℕ) → drop i xs ≡ drop i ys → drop (i + 1) xs ≡ drop (i + 1) ys
same_behind xs ys i same = from xs i ∙ ap (drop 1) same ∙ sym (from ys i)
  where
    from : {X : Type 0} (xs : List X) (i : ℕ) → drop (i + 1) xs ≡ drop 1 (drop i xs)
    from [] zero = refl
    from [] (suc i) = let e : suc i + 1 ≡ suc (i + 1) = omega arith in ap (λ k. drop k []) e
    from (y ∷ ys) zero = refl
    from (y ∷ ys) (suc i) = let e : suc i + 1 ≡ suc (i + 1) = omega arith in ap (λ k. drop k (y ∷ ys)) e ∙ from ys i

-- A walk over a list changed in place has reached an index, and sees each item through a view.
module _ {S X Y : Type 0} (view : X → Y) (f : S → Y → S × Y) (first now later : S) (xs old : List X) (i : ℕ) (x u : X)
    (on : (now, map view (take i xs)) ≡ scanned f first (map view (take i old))) (rest : drop i xs ≡ drop i old) (lt : i < length xs) (long : length xs ≡ length old) (is : x ≡ get_or xs i x) (did : (later, view u) ≡ f now (view x)) where
  pub walk_item : x ≡ get_or old i x
  walk_item = is ∙ same_at xs old i x rest

  pub walk_rest : drop (i + 1) (set xs i u) ≡ drop (i + 1) old
  walk_rest = behind xs i u lt ∙ same_behind xs old i rest

  pub walk_on : (later, map view (take (i + 1) (set xs i u))) ≡ scanned f first (map view (take (i + 1) old))
  walk_on =
      ap (λ l. (later, map view l)) (take-set_at xs i (i + 1) u refl lt) ∙ ap (λ l. (later, l)) (map-append view (take i xs) (u ∷ []))
      ∙ scanned_more f first now later (map view (take i old)) (map view (take i xs)) (view x) (view u) on did
      ∙ ap (scanned f first) (sym (map-append view (take i old) (x ∷ [])) ∙ ap (map view) (sym (taken_more old i x (omega (arith, lt, long)) walk_item)))

settled : {A : Type 0} (xs ys : List A) (n : ℕ) → n ≡ length ys → length xs ≡ length ys → take n (xs ++ drop (length xs) ys) ≡ xs
settled xs ys n e long =
    ap₂ (λ k zs. take k (xs ++ zs)) (e ∙ sym long) (drop_of_length-le ys (omega arith)) ∙ take_at xs [] (length xs) refl

-- it has reached the end
pub walk_end : {S X Y : Type 0} (view : X → Y) (f : S → Y → S × Y) (first now : S) (xs old : List X) (i n : ℕ) → (now, map view (take i xs)) ≡ scanned f first (map view (take i old)) → length xs ≡ length old → length xs ≤ i → n ≡ length old
    → (now, map view (take n (xs ++ drop (length xs) old))) ≡ scanned f first (map view old)
walk_end view f first now xs old i n on long le e =
    ap (λ l. (now, map view l)) (settled xs old n e long ∙ sym (take_all i xs le)) ∙ on ∙ ap (λ l. scanned f first (map view l)) (take_all i old (omega (arith, le, long)))

-- ---- the same if each item is changed independently

pure_scanned : {Y : Type 0} (g : Y → Y) (ys : List Y) → scanned (λ (v : Unit {0}) y. (v, g y)) tt ys ≡ (tt, map g ys)
pure_scanned g [] = refl
pure_scanned g (y ∷ ys) = ap (before (tt, g y)) (pure_scanned g ys)

module _ {X Y : Type 0} (view : X → Y) (g : Y → Y) (xs old : List X) (i : ℕ) where
  pub map_on : (x u : X) → map view (take i xs) ≡ map g (map view (take i old)) → drop i xs ≡ drop i old → i < length xs → length xs ≡ length old → x ≡ get_or xs i x → view u ≡ g (view x)
      → map view (take (i + 1) (set xs i u)) ≡ map g (map view (take (i + 1) old))
  map_on x u on rest lt long is did =
      let f : Unit {0} → Y → Unit {0} × Y = λ v y. (v, g y) in
      let start : (tt, map view (take i xs)) ≡ scanned f tt (map view (take i old)) = ap (λ l. (tt, l)) on ∙ sym (pure_scanned g (map view (take i old))) in
      ap (λ y. y.1) (walk_on view f tt tt tt xs old i x u start rest lt long is (ap (λ y. (tt, y)) did) ∙ pure_scanned g (map view (take (i + 1) old)))

  pub map_end : (n : ℕ) → map view (take i xs) ≡ map g (map view (take i old)) → length xs ≡ length old → length xs ≤ i → n ≡ length old → map view (take n (xs ++ drop (length xs) old)) ≡ map g (map view old)
  map_end n on long le e =
      ap (map view) (settled xs old n e long ∙ sym (take_all i xs le)) ∙ on ∙ ap (λ l. map g (map view l)) (take_all i old (omega (arith, le, long)))

-- a list of changed items that grows
pub more_mapped : {X Z Y : Type 0} (view : X → Y) (seen : Z → Y) (g : Y → Y) (done : List Z) (xs : List X) (i : ℕ) (x : X) (z : Z) → map seen done ≡ map g (map view (take i xs)) → i < length xs → x ≡ get_or xs i x → seen z ≡ g (view x)
    → map seen (done ++ z ∷ []) ≡ map g (map view (take (i + 1) xs))
more_mapped view seen g done xs i x z on lt is did =
    map-append seen done (z ∷ []) ∙ ap₂ (λ l y. l ++ y ∷ []) on did
    ∙ sym (map-append g (map view (take i xs)) (view x ∷ [])) ∙ ap (map g) (sym (map-append view (take i xs) (x ∷ []))) ∙ ap (λ l. map g (map view l)) (sym (taken_more xs i x lt is))

-- ---- the results of walks over fields

pub rows_scanned : {S : Type 0} (f : Visiting S) (v : S) (rs : Rows) → fields_scanned f v (fields_of rs) ≡ ((scanned (row_scanned f) v rs).0, fields_of (scanned (row_scanned f) v rs).1)
rows_scanned f v [] = refl
rows_scanned f v (r ∷ rs) = ap (field_before (chars r.0) (f v r.1)) (rows_scanned f (f v r.1).0 rs)

pub scanned_joined : {S X : Type 0} (f : S → X → S × X) (v : S) (xs ys : List X) → scanned f v (xs ++ ys) ≡ ((scanned f (scanned f v xs).0 ys).0, (scanned f v xs).1 ++ (scanned f (scanned f v xs).0 ys).1)
scanned_joined f v [] ys = refl
scanned_joined f v (x ∷ xs) ys = ap (before (f v x)) (scanned_joined f (f v x).0 xs ys)

abbrev pub rows_in_views : List (ℕ × Rows) → List Rows
rows_in_views cs = map (λ c. c.1) cs

-- walking chunks in order is walking their rows in order
pub chunks_scanned : {S : Type 0} (f : Visiting S) (v : S) (cs : List (ℕ × Rows))
    → scanned (row_scanned f) v (joined (rows_in_views cs)) ≡ ((scanned (chunk_scanned f) v cs).0, joined (rows_in_views (scanned (chunk_scanned f) v cs).1))
chunks_scanned f v [] = refl
chunks_scanned f v (c ∷ cs) =
    let w = (scanned (row_scanned f) v c.1).0 in
    scanned_joined (row_scanned f) v c.1 (joined (rows_in_views cs))
    ∙ ap (λ y. (y.0, (scanned (row_scanned f) v c.1).1 ++ y.1)) (chunks_scanned f w cs)

-- the items after an index have no more nodes than all
pub nodes_behind : (es : List Entry) (i : ℕ) → nodes_fields (fields_of (rows (drop i es))) ≤ nodes_fields (fields_of (rows es))
nodes_behind es zero = omega arith
nodes_behind [] (suc i) = omega arith
nodes_behind (e ∷ es) (suc i) = omega (arith, nodes_behind es i)

pub nodes_behind_chunks : (cs : List Chunk) (i : ℕ) → nodes_fields (fields_of (joined (map chunk_rows (drop i cs)))) ≤ nodes_fields (fields_of (joined (map chunk_rows cs)))
nodes_behind_chunks cs zero = omega arith
nodes_behind_chunks [] (suc i) = omega arith
nodes_behind_chunks (c ∷ cs) (suc i) = omega (arith, nodes_behind_chunks cs i, nodes_joined (chunk_rows c) (joined (map chunk_rows cs)))

-- nor has a chunk
pub nodes_chunk : (cs : List Chunk) (i : ℕ) (c : Chunk) → i < length cs → c ≡ get_or cs i c → nodes_fields (fields_of (chunk_rows c)) ≤ nodes_fields (fields_of (joined (map chunk_rows (drop i cs))))
nodes_chunk [] i c lt is = absurd (omega arith)
nodes_chunk (d ∷ ds) zero c lt is = omega (arith, ap (λ (e : Chunk). nodes_fields (fields_of (chunk_rows e))) is, nodes_joined (chunk_rows d) (joined (map chunk_rows ds)))
nodes_chunk (d ∷ ds) (suc i) c lt is = nodes_chunk ds i c (omega arith) is
