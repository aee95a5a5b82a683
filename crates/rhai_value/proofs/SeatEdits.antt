-- The effect of a write, an insertion and a removal on the rows around a place.
use Rattle.std.proofs.Common.{◌≡◌, ℕ, zero, suc, ◌+◌, ◌<◌, ◌≤◌, List, [], ◌∷◌, ◌++◌, length, map, take, drop, set, get_or, None, refl, ap, ap₂, sym, subst, ◌∙◌, arith}
use Rattle.std.proofs.lemmas.List.{append_assoc, get_or-map, get_or-set_same, get_or_default, length-map, map-set, take-set}
use Rattle.std.specs.Int.{w64, from_be_bytes}
use Rattle.std.specs.List.{All, insert, remove}
use Rattle.std.specs.List.Sorted.{IsStrictlySortedBy}
use Rattle.std.specs.Map.{keys_of}
use Rattle.std.specs.Str.{IsUtf8}
use Rattle.rhai_value.specs.Lists.{Row, row_of, rows, chunk_rows, joined, lists_of, rows_of, AreFronted, Begins, IsWhole}
use Rattle.rhai_value.specs.Rows.{Rows, bytes_cmp, AreRising, AreTexts}
use Rattle.std.specs.Vec.{with_item}
use Rattle.rhai_value.specs.Seats.{chunk_at, entry_at, with_tree, with_value, with_value_in, list_at, row_at, rows_before, rows_from, rows_past, IsOpen, IsSeated}
use Rattle.rhai_value.specs.Tree.{Tree, fresh, unit}
use Rattle.rhai_value.specs.declared.map.Chunk.{Chunk}
use Rattle.rhai_value.specs.declared.map.Entry.{Entry}
use Rattle.rhai_value.specs.declared.map.MapParts.{MapParts}
use Rattle.rhai_value.specs.declared.map.seat.Seat.{Seat}
use Rattle.rhai_value.proofs.KeptKeys.{rising_in, texts_in}
use Rattle.rhai_value.proofs.Lists.{keys_valued, rising_taken, texts_put, texts_taken}
use Rattle.rhai_value.proofs.Seats.{fronted_at, rows_seated, rows_split}

-- ---- lists of which one is changed

before_set : {A : Type 0} (ls : List A) (n : ℕ) (l : A) → take n (set ls n l) ≡ take n ls
before_set ls n l = take-set ls n l

behind_set : {A : Type 0} (ls : List A) (n : ℕ) (l : A) → drop (suc n) (set ls n l) ≡ drop (suc n) ls
behind_set [] zero l = refl
behind_set [] (suc n) l = refl
behind_set (x ∷ xs) zero l = refl
behind_set (x ∷ xs) (suc n) l = behind_set xs n l

length_set : {A : Type 0} (ls : List A) (n : ℕ) (l : A) → length (set ls n l) ≡ length ls
length_set [] zero l = refl
length_set [] (suc n) l = refl
length_set (x ∷ xs) zero l = refl
length_set (x ∷ xs) (suc n) l = ap suc (length_set xs n l)

pub joined_set : {A : Type 0} (ls : List (List A)) (n : ℕ) (l : List A) → n < length ls → joined (set ls n l) ≡ joined (take n ls) ++ (l ++ joined (drop (suc n) ls))
joined_set [] n l lt = absurd (omega arith)
joined_set (x ∷ xs) zero l lt = refl
joined_set (x ∷ xs) (suc n) l lt = ap (λ y. x ++ y) (joined_set xs n l (omega arith)) ∙ sym (append_assoc x (joined (take n xs)) (l ++ joined (drop (suc n) xs)))

-- ---- the value at a place is changed

module _ (p q : MapParts) (s : Seat) (h : IsSeated p s) (r : Row) (is : lists_of q ≡ set (lists_of p) s.list (set (list_at p s.list) s.at r)) where
  list_written : list_at q s.list ≡ set (list_at p s.list) s.at r
  list_written = ap (λ ls. get_or ls s.list []) is ∙ get_or-set_same (lists_of p) s.list (set (list_at p s.list) s.at r) [] h.list

  pub written_before : rows_before q s ≡ rows_before p s
  written_before = ap₂ (λ ls l. joined ls ++ l) (ap (take s.list) is ∙ before_set (lists_of p) s.list (set (list_at p s.list) s.at r)) (ap (take s.at) list_written ∙ before_set (list_at p s.list) s.at r)

  pub written_past : rows_past q s ≡ rows_past p s
  written_past = ap₂ (λ l ls. l ++ joined ls) (ap (drop (suc s.at)) list_written ∙ behind_set (list_at p s.list) s.at r) (ap (drop (suc s.list)) is ∙ behind_set (lists_of p) s.list (set (list_at p s.list) s.at r))

  pub written_row : row_at q s ≡ r
  written_row = ap (λ l. get_or l s.at ([], fresh unit)) list_written ∙ get_or-set_same (list_at p s.list) s.at r ([], fresh unit) h.within

  pub written_seated : IsSeated q s
  written_seated = record {
    list = subst (λ n. s.list < n) (sym (ap length is ∙ length_set (lists_of p) s.list (set (list_at p s.list) s.at r))) h.list;
    within = subst (λ n. s.at < n) (sym (ap length list_written ∙ length_set (list_at p s.list) s.at r)) h.within;
  }

  -- the parts stay whole if the key is unchanged
  pub written_whole : r.0 ≡ (row_at p s).0 → AreFronted q.rest.items → q.len ≡ p.len → IsWhole p → IsWhole q
  written_whole key fronted len whole =
      let now : rows_of q ≡ rows_before p s ++ r ∷ rows_past p s = rows_seated q s written_seated ∙ ap₂ (λ xs ys. xs ++ row_at q s ∷ ys) written_before written_past ∙ ap (λ x. rows_before p s ++ x ∷ rows_past p s) written_row in
      let same : keys_of (rows_of q) ≡ keys_of (rows_of p) =
      ap keys_of now ∙ ap (λ k. keys_of (rows_before p s ++ (k, r.1) ∷ rows_past p s)) key ∙ keys_valued (row_at p s).0 r.1 (row_at p s).1 (rows_before p s) (rows_past p s) ∙ sym (ap keys_of (rows_seated p s h)) in
      record {
        rising = subst (IsStrictlySortedBy bytes_cmp) (sym same) whole.rising;
        texts = subst (All IsUtf8) (sym same) whole.texts;
        fronted = fronted;
        counted = len ∙ whole.counted ∙ sym (length-map (rows_of p) (λ x. x.0)) ∙ sym (ap length same) ∙ length-map (rows_of q) (λ x. x.0);
      }

-- ---- the lists after an entry is changed

pub rows_set : (es : List Entry) (i : ℕ) (e : Entry) → rows (set es i e) ≡ set (rows es) i (row_of e)
rows_set es i e = map-set row_of es i e

pub first_set : (p q : MapParts) (l : Rows) → rows q.first.items ≡ l → q.rest.items ≡ p.rest.items → lists_of q ≡ set (lists_of p) 0 l
first_set p q l first rest = ap₂ (λ x cs. x ∷ map chunk_rows cs) first rest

pub chunk_set : (p q : MapParts) (m : ℕ) (c : Chunk) (l : Rows) → q.first.items ≡ p.first.items → q.rest.items ≡ set p.rest.items m c → chunk_rows c ≡ l → lists_of q ≡ set (lists_of p) (suc m) l
chunk_set p q m c l first rest is = ap₂ (λ es cs. rows es ∷ map chunk_rows cs) first rest ∙ ap (λ ls. rows p.first.items ∷ ls) (map-set chunk_rows p.rest.items m c ∙ ap (set (map chunk_rows p.rest.items) m) is)

-- the list of this number is changed
pub first_edit : (p q : MapParts) (n : ℕ) (f : Rows → Rows) → n ≡ 0 → rows q.first.items ≡ f (rows p.first.items) → q.rest.items ≡ p.rest.items → lists_of q ≡ set (lists_of p) n (f (list_at p n))
first_edit p q n f h first rest = rw h (first_set p q (f (rows p.first.items)) first rest)

-- the entries of the list of this number
pub list_first : (p : MapParts) (n : ℕ) → n ≡ 0 → list_at p n ≡ rows p.first.items
list_first p n h = rw h refl

pub list_chunk : (p : MapParts) (n m : ℕ) (c : Chunk) → n ≡ suc m → m < length p.rest.items → c ≡ get_or p.rest.items m c → list_at p n ≡ chunk_rows c
list_chunk p n m c h lt is = rw h (get_or-map chunk_rows p.rest.items m c [] lt ∙ ap chunk_rows (sym is))

pub row_entry : (es : List Entry) (i : ℕ) → get_or (rows es) i ([], fresh unit) ≡ row_of (entry_at es i)
row_entry [] zero = refl
row_entry [] (suc i) = refl
row_entry (e ∷ es) zero = refl
row_entry (e ∷ es) (suc i) = row_entry es i

-- the row at a place is that of an entry
pub seated_row : (p : MapParts) (s : Seat) (es : List Entry) → list_at p s.list ≡ rows es → row_at p s ≡ row_of (entry_at es s.at)
seated_row p s es is = ap (λ l. get_or l s.at ([], fresh unit)) is ∙ row_entry es s.at

pub read_row : (p : MapParts) (s : Seat) (es : List Entry) (e : Entry) → list_at p s.list ≡ rows es → s.at < length es → e ≡ get_or es s.at e → row_at p s ≡ row_of e
read_row p s es e here lt is = seated_row p s es here ∙ ap row_of (sym (is ∙ get_or_default es s.at e (record { key = []; value = fresh unit }) lt))

-- a value is written to the entries of a list
pub valued : (p : MapParts) (s : Seat) (es us : List Entry) (v : Tree) → list_at p s.list ≡ rows es → us ≡ set es s.at (record (entry_at es s.at) { value = v }) → rows us ≡ set (list_at p s.list) s.at ((row_at p s).0, v)
valued p s es us v is now =
    ap rows now ∙ rows_set es s.at (record (entry_at es s.at) { value = v }) ∙ ap₂ (λ l (r : Row). set l s.at (r.0, v)) (sym is) (sym (seated_row p s es is))

-- the parts with a value at a place
pub with_first : (p : MapParts) (n i : ℕ) (e : Entry) (w : Tree) → n ≡ 0 → i < length p.first.items → e ≡ get_or p.first.items i e → record p { first = with_item p.first i (record e { value = w }) } ≡ with_value_in p n i w
with_first p n i e w h lt is =
    rw h (ap (λ (d : Entry). record p { first = with_item p.first i (record d { value = w }) }) (is ∙ get_or_default p.first.items i e (record { key = []; value = fresh unit }) lt))

pub with_chunk : (p : MapParts) (n m i : ℕ) (c : Chunk) (e : Entry) (w : Tree) → n ≡ suc m → m < length p.rest.items → c ≡ get_or p.rest.items m c → i < length c.entries.items → e ≡ get_or c.entries.items i e
    → record p { rest = with_item p.rest m (record c { entries = with_item c.entries i (record e { value = w }) }) } ≡ with_value_in p n i w
with_chunk p n m i c e w h lt read within is =
    let chunk : c ≡ chunk_at p m = read ∙ get_or_default p.rest.items m c (record { front = 0; entries = p.first }) lt in
    let entry : e ≡ entry_at c.entries.items i = is ∙ get_or_default c.entries.items i e (record { key = []; value = fresh unit }) within in
    rw h (ap (λ (d : Entry). record p { rest = with_item p.rest m (record c { entries = with_item c.entries i (record d { value = w }) }) }) entry
    ∙ ap (λ (d : Chunk). record p { rest = with_item p.rest m (record d { entries = with_tree d.entries i w }) }) chunk)

-- if there is an entry, the parts count at least one
pub some_entry : (p : MapParts) (s : Seat) → IsWhole p → IsSeated p s → 1 ≤ p.len
some_entry p s whole h = omega (arith, whole.counted, ap length (rows_seated p s h), long (rows_before p s) (row_at p s) (rows_past p s))
  where
    long : (xs : Rows) (r : Row) (ys : Rows) → 1 ≤ length (xs ++ r ∷ ys)
    long [] r ys = omega arith
    long (x ∷ xs) r ys = omega arith

pub begins_first : (f : ℕ) (es : List Entry) (e : Entry) → 0 < length es → e ≡ get_or es 0 e → f ≡ from_be_bytes w64 e.key → Begins f es
begins_first f [] e some is front = absurd (omega (arith, some))
begins_first f (x ∷ xs) e some is front = front ∙ ap (λ (d : Entry). from_be_bytes w64 d.key) is

pub begins_set : (f : ℕ) (es : List Entry) (i : ℕ) (e d : Entry) → Begins f es → e.key ≡ (get_or es i d).key → Begins f (set es i e)
begins_set f [] i e d h same = absurd h
begins_set f (x ∷ xs) zero e d h same = h ∙ ap (from_be_bytes w64) (sym same)
begins_set f (x ∷ xs) (suc i) e d h same = h

pub fronted_set : (cs : List Chunk) (m : ℕ) (c : Chunk) → AreFronted cs → Begins c.front c.entries.items → AreFronted (set cs m c)
fronted_set [] zero c h b = h
fronted_set [] (suc m) c h b = h
fronted_set (x ∷ xs) zero c h b = (b, h.1)
fronted_set (x ∷ xs) (suc m) c h b = (h.0, fronted_set xs m c h.1 b)

-- parts with the same rows are whole
pub same_whole : (p q : MapParts) → rows_of q ≡ rows_of p → AreFronted q.rest.items → q.len ≡ p.len → IsWhole p → IsWhole q
same_whole p q same fronted len whole = record {
  rising = subst AreRising (sym same) whole.rising;
  texts = subst AreTexts (sym same) whole.texts;
  fronted = fronted;
  counted = len ∙ whole.counted ∙ sym (ap length same);
}

-- parts without entries
pub empty_whole : (p : MapParts) → p.first.items ≡ [] → p.rest.items ≡ [] → p.len ≡ 0 → IsWhole p
empty_whole p first rest len =
    let none : rows_of p ≡ [] = ap₂ (λ es cs. rows es ++ joined (map chunk_rows cs)) first rest in
    record {
      rising = subst AreRising (sym none) (rising_in None tt);
      texts = subst AreTexts (sym none) (texts_in None tt);
      fronted = subst AreFronted (sym rest) tt;
      counted = len ∙ sym (ap length none);
    }

-- ---- inserting an entry

module _ (p q : MapParts) (s : Seat) (h : IsOpen p s) (r : Row) (is : lists_of q ≡ set (lists_of p) s.list (insert (list_at p s.list) s.at r)) where
  pub rows_put : rows_of q ≡ rows_before p s ++ r ∷ rows_from p s
  rows_put =
      let up = take s.at (list_at p s.list) in
      let down = drop s.at (list_at p s.list) in
      let later = joined (drop (suc s.list) (lists_of p)) in
      ap joined is ∙ joined_set (lists_of p) s.list (insert (list_at p s.list) s.at r) h.list
      ∙ ap (λ l. joined (take s.list (lists_of p)) ++ l) (append_assoc up (r ∷ down) later)
      ∙ sym (append_assoc (joined (take s.list (lists_of p))) up (r ∷ (down ++ later)))

-- ---- removing an entry

module _ (p q : MapParts) (s : Seat) (h : IsSeated p s) (is : lists_of q ≡ set (lists_of p) s.list (remove (list_at p s.list) s.at)) where
  pub rows_taken : rows_of q ≡ rows_before p s ++ rows_past p s
  rows_taken =
      let up = take s.at (list_at p s.list) in
      let down = drop (suc s.at) (list_at p s.list) in
      let later = joined (drop (suc s.list) (lists_of p)) in
      ap joined is ∙ joined_set (lists_of p) s.list (remove (list_at p s.list) s.at) h.list
      ∙ ap (λ l. joined (take s.list (lists_of p)) ++ l) (append_assoc up down later)
      ∙ sym (append_assoc (joined (take s.list (lists_of p))) up (down ++ later))

pub map_insert : {A B : Type 0} (f : A → B) (xs : List A) (i : ℕ) (x : A) → map f (insert xs i x) ≡ insert (map f xs) i (f x)
map_insert f [] zero x = refl
map_insert f [] (suc i) x = refl
map_insert f (y ∷ ys) zero x = refl
map_insert f (y ∷ ys) (suc i) x = ap (λ l. f y ∷ l) (map_insert f ys i x)

pub rows_insert : (es : List Entry) (i : ℕ) (e : Entry) → rows (insert es i e) ≡ insert (rows es) i (row_of e)
rows_insert es i e = map_insert row_of es i e

-- inserting a chunk
pub chunk_inserted : (p q : MapParts) (m : ℕ) (c : Chunk) → q.first.items ≡ p.first.items → q.rest.items ≡ insert p.rest.items m c → lists_of q ≡ insert (lists_of p) (suc m) (chunk_rows c)
chunk_inserted p q m c first rest = ap₂ (λ es cs. rows es ∷ map chunk_rows cs) first rest ∙ ap (λ ls. rows p.first.items ∷ ls) (map_insert chunk_rows p.rest.items m c)

pub fronted_inserted : (cs : List Chunk) (m : ℕ) (c : Chunk) → AreFronted cs → Begins c.front c.entries.items → AreFronted (insert cs m c)
fronted_inserted [] zero c h b = (b, tt)
fronted_inserted [] (suc m) c h b = (b, tt)
fronted_inserted (d ∷ ds) zero c h b = (b, h)
fronted_inserted (d ∷ ds) (suc m) c h b = (h.0, fronted_inserted ds m c h.1 b)

pub rows_remove : (es : List Entry) (i : ℕ) → rows (remove es i) ≡ remove (rows es) i
rows_remove [] zero = refl
rows_remove [] (suc i) = refl
rows_remove (x ∷ xs) zero = refl
rows_remove (x ∷ xs) (suc i) = ap (λ l. row_of x ∷ l) (rows_remove xs i)

-- ---- parts stay whole

length_joined : {A : Type 0} (xs ys : List A) → length (xs ++ ys) ≡ length xs + length ys
length_joined [] ys = omega arith
length_joined (x ∷ xs) ys = omega (arith, length_joined xs ys)

module _ (p q : MapParts) (s : Seat) (whole : IsWhole p) (fronted : AreFronted q.rest.items) where
  pub put_whole : (r : Row) → IsOpen p s → rows_of q ≡ rows_before p s ++ r ∷ rows_from p s → AreRising (rows_before p s ++ r ∷ rows_from p s) → IsUtf8 r.0 → q.len ≡ p.len + 1 → IsWhole q
  put_whole r h is rising text len =
      let split = rows_split p s h.list in
      let count = ap length split ∙ length_joined (rows_before p s) (rows_from p s) in
      record {
        rising = subst AreRising (sym is) rising;
        texts = subst AreTexts (sym is) (texts_put r.0 r.1 (rows_before p s) (rows_from p s) text (subst AreTexts split whole.texts));
        fronted = fronted;
        counted = omega (arith, len, whole.counted, count, ap length is ∙ length_joined (rows_before p s) (r ∷ rows_from p s));
      }

  pub taken_whole : IsSeated p s → rows_of q ≡ rows_before p s ++ rows_past p s → q.len + 1 ≡ p.len → IsWhole q
  taken_whole h is len =
      let split = rows_seated p s h in
      let count = ap length split ∙ length_joined (rows_before p s) (row_at p s ∷ rows_past p s) in
      record {
        rising = subst AreRising (sym is) (rising_taken (row_at p s) (rows_before p s) (rows_past p s) (subst AreRising split whole.rising));
        texts = subst AreTexts (sym is) (texts_taken (row_at p s) (rows_before p s) (rows_past p s) (subst AreTexts split whole.texts));
        fronted = fronted;
        counted = omega (arith, len, whole.counted, count, ap length is ∙ length_joined (rows_before p s) (rows_past p s));
      }

-- ---- removing a chunk that became empty

pub removed_set : {A : Type 0} (cs : List A) (m : ℕ) (c : A) → remove (set cs m c) m ≡ remove cs m
removed_set [] zero c = refl
removed_set [] (suc m) c = refl
removed_set (x ∷ xs) zero c = refl
removed_set (x ∷ xs) (suc m) c = ap (λ l. x ∷ l) (removed_set xs m c)

pub fronted_removed : (cs : List Chunk) (m : ℕ) → AreFronted cs → AreFronted (remove cs m)
fronted_removed [] zero h = h
fronted_removed [] (suc m) h = h
fronted_removed (c ∷ cs) zero h = h.1
fronted_removed (c ∷ cs) (suc m) h = (h.0, fronted_removed cs m h.1)

pub joined_removed : (cs : List Chunk) (m : ℕ) (d : Chunk) → length (get_or cs m d).entries.items ≡ 0 → joined (map chunk_rows (remove cs m)) ≡ joined (map chunk_rows cs)
joined_removed [] zero d h = refl
joined_removed [] (suc m) d h = refl
joined_removed (c ∷ cs) zero d h = none c.entries.items h
  where
    none : (es : List Entry) → length es ≡ 0 → joined (map chunk_rows cs) ≡ rows es ++ joined (map chunk_rows cs)
    none [] h = refl
    none (e ∷ es) h = cc
joined_removed (c ∷ cs) (suc m) d h = ap (λ l. chunk_rows c ++ l) (joined_removed cs m d h)

-- the rows are unchanged
pub emptied_removed : (p q : MapParts) (m : ℕ) (c : Chunk) → q.first ≡ p.first → q.rest.items ≡ remove p.rest.items m → get_or p.rest.items m c ≡ c → length c.entries.items ≡ 0 → rows_of q ≡ rows_of p
emptied_removed p q m c first rest is none =
    ap₂ (λ v cs. rows v.items ++ joined (map chunk_rows cs)) first rest ∙ ap (λ l. rows p.first.items ++ l) (joined_removed p.rest.items m c (ap (λ (d : Chunk). length d.entries.items) is ∙ none))

-- ---- parts with the same lists have the same places

module _ (p q : MapParts) (s : Seat) (is : lists_of q ≡ lists_of p) where
  pub same_lists_open : IsOpen p s → IsOpen q s
  same_lists_open h = record {
    list = subst (λ ls. s.list < length ls) (sym is) h.list;
    within = subst (λ ls. s.at ≤ length (get_or ls s.list [])) (sym is) h.within;
  }

  pub same_lists_before : rows_before q s ≡ rows_before p s
  same_lists_before = ap (λ ls. joined (take s.list ls) ++ take s.at (get_or ls s.list [])) is

  pub same_lists_from : rows_from q s ≡ rows_from p s
  same_lists_from = ap (λ ls. drop s.at (get_or ls s.list []) ++ joined (drop (suc s.list) ls)) is

-- ---- parts with another value at a place

entries_valued : (es : List Entry) (i : ℕ) (w : Tree) → rows (set es i (record (entry_at es i) { value = w })) ≡ set (rows es) i ((get_or (rows es) i ([], fresh unit)).0, w)
entries_valued es i w = rows_set es i (record (entry_at es i) { value = w }) ∙ ap (λ (r : Row). set (rows es) i (r.0, w)) (sym (row_entry es i))

lists_valued : (p : MapParts) (n i : ℕ) (w : Tree) → n < length (lists_of p) → lists_of (with_value_in p n i w) ≡ set (lists_of p) n (set (list_at p n) i ((get_or (list_at p n) i ([], fresh unit)).0, w))
lists_valued p zero i w lt = first_set p (with_value_in p zero i w) (set (rows p.first.items) i ((get_or (rows p.first.items) i ([], fresh unit)).0, w)) (entries_valued p.first.items i w) refl
lists_valued p (suc m) i w lt =
    let x = chunk_at p m in
    let within : m < length p.rest.items = omega (arith, lt, length-map p.rest.items chunk_rows) in
    let here : list_at p (suc m) ≡ chunk_rows x = get_or-map chunk_rows p.rest.items m (record { front = 0; entries = p.first }) [] within in
    chunk_set p (with_value_in p (suc m) i w) m (record x { entries = with_tree x.entries i w }) (set (list_at p (suc m)) i ((get_or (list_at p (suc m)) i ([], fresh unit)).0, w)) refl refl
    (entries_valued x.entries.items i w ∙ ap (λ l. set l i ((get_or l i ([], fresh unit)).0, w)) (sym here))

fronted_valued : (p : MapParts) (n i : ℕ) (w : Tree) → n < length (lists_of p) → AreFronted p.rest.items → AreFronted (with_value_in p n i w).rest.items
fronted_valued p zero i w lt h = h
fronted_valued p (suc m) i w lt h =
    let x = chunk_at p m in
    let within : m < length p.rest.items = omega (arith, lt, length-map p.rest.items chunk_rows) in
    fronted_set p.rest.items m (record x { entries = with_tree x.entries i w }) h
    (begins_set x.front x.entries.items i (record (entry_at x.entries.items i) { value = w }) (record { key = []; value = fresh unit }) (fronted_at p.rest.items m (record { front = 0; entries = p.first }) h within) refl)

count_valued : (p : MapParts) (n i : ℕ) (w : Tree) → (with_value_in p n i w).len ≡ p.len
count_valued p zero i w = refl
count_valued p (suc m) i w = refl

module _ (p : MapParts) (s : Seat) (h : IsSeated p s) (w : Tree) where
  abbrev now : MapParts
  now = with_value p s w

  pub value_whole : IsWhole p → IsWhole now
  value_whole whole = written_whole p now s h ((row_at p s).0, w) (lists_valued p s.list s.at w h.list) refl (fronted_valued p s.list s.at w h.list whole.fronted) (count_valued p s.list s.at w) whole

  pub value_rows : rows_of now ≡ rows_before p s ++ ((row_at p s).0, w) ∷ rows_past p s
  value_rows =
      let is = lists_valued p s.list s.at w h.list in
      let r : Row = ((row_at p s).0, w) in
      rows_seated now s (written_seated p now s h r is) ∙ ap₂ (λ xs ys. xs ++ row_at now s ∷ ys) (written_before p now s h r is) (written_past p now s h r is) ∙ ap (λ x. rows_before p s ++ x ∷ rows_past p s) (written_row p now s h r is)
