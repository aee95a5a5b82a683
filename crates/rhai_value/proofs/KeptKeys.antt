-- Parts of a map with unchanged keys, and the results of walks over the rows of parts.
use Rattle.std.proofs.Common.{◌≡◌, ℕ, List, [], ◌∷◌, ◌++◌, length, map, Option, Some, None, Global, refl, ap, ap₂, sym, subst, ◌∙◌}
use Rattle.std.proofs.lemmas.List.{length-map, map-append}
use Rattle.std.proofs.lemmas.List.Elements.{All-nil}
use Rattle.std.specs.Int.{w64, from_be_bytes}
use Rattle.std.specs.List.{All}
use Rattle.std.specs.List.Sorted.{IsStrictlySortedBy}
use Rattle.std.specs.Map.{keys_of}
use Rattle.std.specs.Str.{IsUtf8}
use Rattle.std.specs.declared.boxed.Box.{Box}
use Rattle.rhai_value.specs.Lists.{Row, rows, chunk_rows, joined, lists_of, rows_of, rows_in, AreFronted, Begins, IsWhole, IsWholeIn}
use Rattle.rhai_value.specs.RowWalks.{chunk_scanned, chunk_view, copied_chunk, painted_chunk, painted_row, painted_rows, row_scanned, scanned}
use Rattle.rhai_value.specs.Rows.{Rows, bytes_cmp, fields_of, copied_rows, AreRising, AreTexts}
use Rattle.rhai_value.specs.Scan.{Visiting, fields_scanned}
use Rattle.rhai_value.specs.Tree.{copy_by}
use Rattle.rhai_value.specs.declared.value.access_mode.AccessMode.{AccessMode}
use Rattle.rhai_value.specs.declared.map.Chunk.{Chunk}
use Rattle.rhai_value.specs.declared.map.Entry.{Entry}
use Rattle.rhai_value.specs.declared.map.MapParts.{MapParts}
use Rattle.rhai_value.proofs.RowWalks.{chunks_scanned, rows_in_views, rows_scanned, scanned_joined}

-- ---- if a map has parts, its rows are theirs

pub whole_opened : (m : Option (Box MapParts Global)) (b : Box MapParts Global) (p : MapParts) → Some b ≡ m → p ≡ b.value → IsWholeIn m → (rows_of p ≡ rows_in m) × IsWhole p
whole_opened m b p some is whole = (rw is (ap rows_in some), rw is (rw (sym some) at whole))

pub rising_in : (m : Option (Box MapParts Global)) → IsWholeIn m → AreRising (rows_in m)
unfolding IsStrictlySortedBy
rising_in None h = tt
rising_in (Some p) h = h.rising

pub texts_in : (m : Option (Box MapParts Global)) → IsWholeIn m → AreTexts (rows_in m)
texts_in None h = All-nil IsUtf8
texts_in (Some p) h = h.texts

-- ---- the keys of parts

abbrev pub chunk_keys : ℕ × Rows → ℕ × List (List ℕ)
chunk_keys c = (c.0, keys_of c.1)

abbrev KeysBegin : ℕ → List (List ℕ) → Type 0
KeysBegin f [] = ⊥
KeysBegin f (k ∷ ks) = f ≡ from_be_bytes w64 k

abbrev KeysFronted : List (ℕ × List (List ℕ)) → Type 0
KeysFronted [] = Unit {0}
KeysFronted (c ∷ cs) = KeysBegin c.0 c.1 × KeysFronted cs

keys_begin : (f : ℕ) (es : List Entry) → Begins f es → KeysBegin f (keys_of (rows es))
keys_begin f [] h = h
keys_begin f (e ∷ es) h = h

entries_begin : (f : ℕ) (es : List Entry) → KeysBegin f (keys_of (rows es)) → Begins f es
entries_begin f [] h = h
entries_begin f (e ∷ es) h = h

keys_fronted : (cs : List Chunk) → AreFronted cs → KeysFronted (map chunk_keys (map chunk_view cs))
keys_fronted [] h = tt
keys_fronted (c ∷ cs) h = (keys_begin c.front c.entries.items h.0, keys_fronted cs h.1)

chunks_fronted : (cs : List Chunk) → KeysFronted (map chunk_keys (map chunk_view cs)) → AreFronted cs
chunks_fronted [] h = tt
chunks_fronted (c ∷ cs) h = (entries_begin c.front c.entries.items h.0, chunks_fronted cs h.1)

views_rows : (cs : List Chunk) → map chunk_rows cs ≡ rows_in_views (map chunk_view cs)
views_rows [] = refl
views_rows (c ∷ cs) = ap (λ l. chunk_rows c ∷ l) (views_rows cs)

keys_joined : (cs : List (ℕ × Rows)) → keys_of (joined (rows_in_views cs)) ≡ joined (map (λ c. c.1) (map chunk_keys cs))
keys_joined [] = refl
keys_joined (c ∷ cs) = map-append (λ r. r.0) c.1 (joined (rows_in_views cs)) ∙ ap (λ l. keys_of c.1 ++ l) (keys_joined cs)

parts_keys : (p : MapParts) → keys_of (rows_of p) ≡ keys_of (rows p.first.items) ++ joined (map (λ c. c.1) (map chunk_keys (map chunk_view p.rest.items)))
parts_keys p =
    map-append (λ r. r.0) (rows p.first.items) (joined (map chunk_rows p.rest.items))
    ∙ ap (λ l. keys_of (rows p.first.items) ++ keys_of (joined l)) (views_rows p.rest.items) ∙ ap (λ l. keys_of (rows p.first.items) ++ l) (keys_joined (map chunk_view p.rest.items))

-- parts with the same keys and fronts are whole
pub whole_kept : (p q : MapParts) → IsWhole p → keys_of (rows q.first.items) ≡ keys_of (rows p.first.items) → map chunk_keys (map chunk_view q.rest.items) ≡ map chunk_keys (map chunk_view p.rest.items) → q.len ≡ p.len → IsWhole q
whole_kept p q whole first rest len =
    let same : keys_of (rows_of q) ≡ keys_of (rows_of p) = parts_keys q ∙ ap₂ (λ ks cs. ks ++ joined (map (λ c. c.1) cs)) first rest ∙ sym (parts_keys p) in
    record {
      rising = subst (IsStrictlySortedBy bytes_cmp) (sym same) whole.rising;
      texts = subst (All IsUtf8) (sym same) whole.texts;
      fronted = chunks_fronted q.rest.items (subst KeysFronted (sym rest) (keys_fronted p.rest.items whole.fronted));
      counted = len ∙ whole.counted ∙ sym (length-map (rows_of p) (λ r. r.0)) ∙ sym (ap length same) ∙ length-map (rows_of q) (λ r. r.0);
    }

-- ---- scanning parts

keys_scanned : {S : Type 0} (f : Visiting S) (v : S) (rs : Rows) → keys_of (scanned (row_scanned f) v rs).1 ≡ keys_of rs
keys_scanned f v [] = refl
keys_scanned f v (r ∷ rs) = ap (λ l. r.0 ∷ l) (keys_scanned f (f v r.1).0 rs)

chunk_keys_scanned : {S : Type 0} (f : Visiting S) (v : S) (cs : List (ℕ × Rows)) → map chunk_keys (scanned (chunk_scanned f) v cs).1 ≡ map chunk_keys cs
chunk_keys_scanned f v [] = refl
chunk_keys_scanned f v (c ∷ cs) = ap₂ (λ ks l. (c.0, ks) ∷ l) (keys_scanned f v c.1) (chunk_keys_scanned f (scanned (row_scanned f) v c.1).0 cs)

module _ {S : Type 0} (f : Visiting S) (v w x : S) (p q : MapParts) (first : (w, rows q.first.items) ≡ scanned (row_scanned f) v (rows p.first.items)) (rest : (x, map chunk_view q.rest.items) ≡ scanned (chunk_scanned f) w (map chunk_view p.rest.items)) where
  pub parts_scanned : (x, fields_of (rows_of q)) ≡ fields_scanned f v (fields_of (rows_of p))
  parts_scanned =
      ap (λ l. (x, fields_of (rows q.first.items ++ joined l))) (views_rows q.rest.items)
      ∙ ap (λ y. (y.0, fields_of (rows q.first.items ++ joined (rows_in_views y.1)))) rest
      ∙ ap (λ y. (y.0, fields_of (rows q.first.items ++ y.1))) (sym (chunks_scanned f w (map chunk_view p.rest.items)))
      ∙ ap (λ l. ((scanned (row_scanned f) w (joined l)).0, fields_of (rows q.first.items ++ (scanned (row_scanned f) w (joined l)).1))) (sym (views_rows p.rest.items))
      ∙ ap (λ y. ((scanned (row_scanned f) y.0 (joined (map chunk_rows p.rest.items))).0, fields_of (y.1 ++ (scanned (row_scanned f) y.0 (joined (map chunk_rows p.rest.items))).1))) first
      ∙ ap (λ y. (y.0, fields_of y.1)) (sym (scanned_joined (row_scanned f) v (rows p.first.items) (joined (map chunk_rows p.rest.items))))
      ∙ sym (rows_scanned f v (rows_of p))

  pub whole_scanned : q.len ≡ p.len → IsWhole p → IsWhole q
  whole_scanned len whole = whole_kept p q whole (ap (λ y. keys_of y.1) first ∙ keys_scanned f v (rows p.first.items)) (ap (λ y. map chunk_keys y.1) rest ∙ chunk_keys_scanned f w (map chunk_view p.rest.items)) len

-- ---- painting and copying parts

module _ (f : Row → Row) (kept : (r : Row) → (f r).0 ≡ r.0) where
  abbrev chunk_mapped : ℕ × Rows → ℕ × Rows
  chunk_mapped c = (c.0, map f c.1)

  keys_mapped : (rs : Rows) → keys_of (map f rs) ≡ keys_of rs
  keys_mapped [] = refl
  keys_mapped (r ∷ rs) = ap₂ ◌∷◌ (kept r) (keys_mapped rs)

  chunk_keys_mapped : (cs : List (ℕ × Rows)) → map chunk_keys (map chunk_mapped cs) ≡ map chunk_keys cs
  chunk_keys_mapped [] = refl
  chunk_keys_mapped (c ∷ cs) = ap₂ (λ ks l. (c.0, ks) ∷ l) (keys_mapped c.1) (chunk_keys_mapped cs)

  joined_mapped : (cs : List (ℕ × Rows)) → joined (rows_in_views (map chunk_mapped cs)) ≡ map f (joined (rows_in_views cs))
  joined_mapped [] = refl
  joined_mapped (c ∷ cs) = ap (λ l. map f c.1 ++ l) (joined_mapped cs) ∙ sym (map-append f c.1 (joined (rows_in_views cs)))

  module _ (p q : MapParts) (first : rows q.first.items ≡ map f (rows p.first.items)) (rest : map chunk_view q.rest.items ≡ map chunk_mapped (map chunk_view p.rest.items)) where
    parts_mapped : rows_of q ≡ map f (rows_of p)
    parts_mapped =
        ap (λ l. rows q.first.items ++ joined l) (views_rows q.rest.items)
        ∙ ap₂ (λ rs cs. rs ++ joined (rows_in_views cs)) first rest
        ∙ ap (λ l. map f (rows p.first.items) ++ l) (joined_mapped (map chunk_view p.rest.items))
        ∙ sym (map-append f (rows p.first.items) (joined (rows_in_views (map chunk_view p.rest.items))))
        ∙ ap (λ l. map f (rows p.first.items ++ joined l)) (sym (views_rows p.rest.items))

    whole_mapped : q.len ≡ p.len → IsWhole p → IsWhole q
    whole_mapped len whole = whole_kept p q whole (ap keys_of first ∙ keys_mapped (rows p.first.items)) (ap (map chunk_keys) rest ∙ chunk_keys_mapped (map chunk_view p.rest.items)) len

pub parts_painted : (m : AccessMode) (p q : MapParts) → rows q.first.items ≡ painted_rows m (rows p.first.items) → map chunk_view q.rest.items ≡ map (painted_chunk m) (map chunk_view p.rest.items) → rows_of q ≡ painted_rows m (rows_of p)
parts_painted m p q first rest = parts_mapped (painted_row m) (λ r. refl) p q first rest

pub whole_painted : (m : AccessMode) (p q : MapParts) → rows q.first.items ≡ painted_rows m (rows p.first.items) → map chunk_view q.rest.items ≡ map (painted_chunk m) (map chunk_view p.rest.items) → q.len ≡ p.len → IsWhole p → IsWhole q
whole_painted m p q first rest = whole_mapped (painted_row m) (λ r. refl) p q first rest

pub parts_copied : (f : AccessMode → AccessMode) (p q : MapParts) → rows q.first.items ≡ copied_rows f (rows p.first.items) → map chunk_view q.rest.items ≡ map (copied_chunk f) (map chunk_view p.rest.items) → rows_of q ≡ copied_rows f (rows_of p)
parts_copied f p q first rest = parts_mapped (λ r. (r.0, copy_by f r.1)) (λ r. refl) p q first rest

pub whole_copied : (f : AccessMode → AccessMode) (p q : MapParts) → rows q.first.items ≡ copied_rows f (rows p.first.items) → map chunk_view q.rest.items ≡ map (copied_chunk f) (map chunk_view p.rest.items) → q.len ≡ p.len → IsWhole p → IsWhole q
whole_copied f p q first rest = whole_mapped (λ r. (r.0, copy_by f r.1)) (λ r. refl) p q first rest

-- ---- parts with the same lists

pub lists_kept : (p q : MapParts) → q.first.items ≡ p.first.items → map chunk_view q.rest.items ≡ map chunk_view p.rest.items → lists_of q ≡ lists_of p
lists_kept p q first rest =
    ap₂ (λ es cs. rows es ∷ cs) first (views_rows q.rest.items ∙ ap rows_in_views rest ∙ sym (views_rows p.rest.items))

pub whole_same : (p q : MapParts) → q.first.items ≡ p.first.items → map chunk_view q.rest.items ≡ map chunk_view p.rest.items → q.len ≡ p.len → IsWhole p → IsWhole q
whole_same p q first rest len whole = whole_kept p q whole (ap (λ es. keys_of (rows es)) first) (ap (map chunk_keys) rest) len
