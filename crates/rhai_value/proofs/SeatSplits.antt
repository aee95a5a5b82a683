-- A list split in two, and places in the two parts.
use Rattle.std.proofs.Common.{◌≡◌, ℕ, zero, suc, ◌+◌, ◌-◌, ◌<◌, ◌≤◌, List, [], ◌∷◌, ◌++◌, length, map, take, drop, set, get_or, MatchOption, Vec, Option, Some, None, refl, ap, ap₂, sym, subst, ◌∙◌, arith, take-append-drop}
use Rattle.std.proofs.Math.Seq.{map-set_same}
use Rattle.std.proofs.lemmas.List.{append_assoc, append-nil, drop-map, length-append, length-drop, length-take-le, take-map}
use Rattle.std.specs.declared.alloc.Global.{Global}
use Rattle.std.specs.List.{insert}
use Rattle.rhai_value.specs.Lists.{row_of, rows, chunk_rows, joined, lists_of, rows_of, AreFronted, Begins, IsWhole}
use Rattle.rhai_value.specs.Seats.{list_at, rows_before, rows_from, IsOpen}
use Rattle.rhai_value.specs.declared.map.Chunk.{Chunk}
use Rattle.rhai_value.specs.declared.map.Entry.{Entry}
use Rattle.rhai_value.specs.declared.map.MapParts.{MapParts}
use Rattle.rhai_value.specs.declared.map.seat.Seat.{Seat}
use Rattle.rhai_value.proofs.SeatEdits.{chunk_set, first_edit, list_chunk, list_first, same_whole}
use Rattle.rhai_value.proofs.Seats.{rows_split}

-- two equal lists, split after the same number of items
pub same_cut : {A : Type 0} (xs us ys vs : List A) → xs ++ ys ≡ us ++ vs → length xs ≡ length us → (xs ≡ us) × (ys ≡ vs)
same_cut [] [] ys vs is long = (refl, is)
same_cut [] (u ∷ us) ys vs is long = cc
same_cut (x ∷ xs) [] ys vs is long = cc
same_cut {A} (x ∷ xs) (u ∷ us) ys vs is long =
    let rest = same_cut xs us ys vs (ap rest_of is) (omega (arith, long)) in
    (ap₂ ◌∷◌ (ap (first_or x) is) rest.0, rest.1)
  where
    first_or : A → List A → A
    first_or a [] = a
    first_or a (b ∷ bs) = b

    rest_of : List A → List A
    rest_of [] = []
    rest_of (b ∷ bs) = bs

-- places of two maps with the same rows, with the same number of rows before them
pub same_place : (p q : MapParts) (s t : Seat) → s.list < length (lists_of p) → t.list < length (lists_of q) → rows_of q ≡ rows_of p → length (rows_before q t) ≡ length (rows_before p s) → (rows_before q t ≡ rows_before p s) × (rows_from q t ≡ rows_from p s)
same_place p q s t lt within same long =
    same_cut (rows_before q t) (rows_before p s) (rows_from q t) (rows_from p s) (sym (rows_split q t within) ∙ same ∙ rows_split p s lt) long

-- a list is split in two
pub joined_cut : {A : Type 0} (ls : List (List A)) (n i : ℕ) → n < length ls → joined (insert (set ls n (take i (get_or ls n []))) (suc n) (drop i (get_or ls n []))) ≡ joined ls
joined_cut [] n i lt = absurd (omega arith)
joined_cut (l ∷ ls) zero i lt = sym (append_assoc (take i l) (drop i l) (joined ls)) ∙ ap (λ x. x ++ joined ls) (take-append-drop i l)
joined_cut (l ∷ ls) (suc n) i lt = ap (λ x. l ++ x) (joined_cut ls n i (omega arith))

-- the number of rows before a place, after a list is split
pub before_cut : {A : Type 0} (ls : List (List A)) (n : ℕ) (l u : List A) → n < length ls → joined (take n (insert (set ls n l) (suc n) u)) ≡ joined (take n ls)
before_cut [] n l u lt = absurd (omega arith)
before_cut (x ∷ xs) zero l u lt = refl
before_cut (x ∷ xs) (suc n) l u lt = ap (λ y. x ++ y) (before_cut xs n l u (omega arith))

pub lower_cut : {A : Type 0} (ls : List (List A)) (n : ℕ) (l u : List A) → n < length ls → get_or (insert (set ls n l) (suc n) u) n [] ≡ l
lower_cut [] n l u lt = absurd (omega arith)
lower_cut (x ∷ xs) zero l u lt = refl
lower_cut (x ∷ xs) (suc n) l u lt = lower_cut xs n l u (omega arith)

pub upper_cut : {A : Type 0} (ls : List (List A)) (n : ℕ) (l u : List A) → n < length ls → get_or (insert (set ls n l) (suc n) u) (suc n) [] ≡ u
upper_cut [] n l u lt = absurd (omega arith)
upper_cut (x ∷ xs) zero l u lt = refl
upper_cut (x ∷ xs) (suc n) l u lt = upper_cut xs n l u (omega arith)

pub before_upper : {A : Type 0} (ls : List (List A)) (n : ℕ) (l u : List A) → n < length ls → joined (take (suc n) (insert (set ls n l) (suc n) u)) ≡ joined (take n ls) ++ l
before_upper [] n l u lt = absurd (omega arith)
before_upper (x ∷ xs) zero l u lt = append-nil l
before_upper (x ∷ xs) (suc n) l u lt = ap (λ y. x ++ y) (before_upper xs n l u (omega arith)) ∙ sym (append_assoc x (joined (take n xs)) l)

pub length_cut : {A : Type 0} (ls : List A) (n : ℕ) (l u : A) → n < length ls → length (insert (set ls n l) (suc n) u) ≡ suc (length ls)
length_cut [] n l u lt = absurd (omega arith)
length_cut (x ∷ xs) zero l u lt = refl
length_cut (x ∷ xs) (suc n) l u lt = ap suc (length_cut xs n l u (omega arith))

-- ---- the list of this number is split, unless an allocation fails

rows_take : (i : ℕ) (es : List Entry) → rows (take i es) ≡ take i (rows es)
rows_take i es = sym (take-map row_of i es)

rows_drop : (i : ℕ) (es : List Entry) → rows (drop i es) ≡ drop i (rows es)
rows_drop i es = sym (drop-map row_of i es)

abbrev Cut : List Entry → List Entry → ℕ → Option (Vec Entry Global) → Type 0
Cut es us i o = MatchOption o (us ≡ es) (λ l. (us ≡ take i es) × (l.items ≡ drop i es))

abbrev ListCut : MapParts → MapParts → ℕ → ℕ → Option (Vec Entry Global) → Type 0
ListCut p q n i o = MatchOption o (lists_of q ≡ lists_of p) (λ l. (lists_of q ≡ set (lists_of p) n (take i (list_at p n))) × (rows l.items ≡ drop i (list_at p n)))

pub cut_first : (p q : MapParts) (n i : ℕ) (o : Option (Vec Entry Global)) → n ≡ 0 → q.rest.items ≡ p.rest.items → Cut p.first.items q.first.items i o → ListCut p q n i o
cut_first p q n i None h rest d = ap₂ (λ es cs. rows es ∷ map chunk_rows cs) d rest
cut_first p q n i (Some l) h rest d = (
  first_edit p q n (take i) h (ap rows d.0 ∙ rows_take i p.first.items) rest,
  ap rows d.1 ∙ rows_drop i p.first.items ∙ ap (drop i) (sym (list_first p n h)),
)

pub cut_chunk : (p q : MapParts) (n m i : ℕ) (x u : Chunk) (o : Option (Vec Entry Global)) → n ≡ suc m → m < length p.rest.items → x ≡ get_or p.rest.items m x → q.first.items ≡ p.first.items → q.rest.items ≡ set p.rest.items m u → Cut x.entries.items u.entries.items i o
    → ListCut p q n i o
cut_chunk p q n m i x u None h lt read first rest d =
    ap₂ (λ es cs. rows es ∷ map chunk_rows cs) first rest ∙ ap (λ ls. rows p.first.items ∷ ls) (map-set_same chunk_rows p.rest.items m u x (ap rows d ∙ ap chunk_rows read))
cut_chunk p q n m i x u (Some l) h lt read first rest d =
    let here : list_at p n ≡ rows x.entries.items = list_chunk p n m x h lt read in
    let lower : chunk_rows u ≡ take i (list_at p n) = ap rows d.0 ∙ rows_take i x.entries.items ∙ ap (take i) (sym here) in (
      subst (λ k. lists_of q ≡ set (lists_of p) k (take i (list_at p n))) (sym h) (chunk_set p q m u (take i (list_at p n)) first rest lower),
      ap rows d.1 ∙ rows_drop i x.entries.items ∙ ap (drop i) (sym here),
    )

pub cut_begins : (f i : ℕ) (es us : List Entry) (o : Option (Vec Entry Global)) → 0 < i → Begins f es → Cut es us i o → Begins f us
cut_begins f i es us None some h d = subst (Begins f) (sym d) h
cut_begins f i es us (Some l) some h d = subst (Begins f) (sym d.0) (taken i es some h)
  where
    taken : (i : ℕ) (es : List Entry) → 0 < i → Begins f es → Begins f (take i es)
    taken zero es some h = absurd (omega arith)
    taken (suc i) [] some h = h
    taken (suc i) (e ∷ es) some h = h

-- ---- a list is split

module _ (p q : MapParts) (s : Seat) (i : ℕ) (opened : IsOpen p s) (bound : i ≤ length (list_at p s.list))
    (is : lists_of q ≡ insert (set (lists_of p) s.list (take i (list_at p s.list))) (suc s.list) (drop i (list_at p s.list))) where
  pub split_rows : rows_of q ≡ rows_of p
  split_rows = ap joined is ∙ joined_cut (lists_of p) s.list i opened.list

  pub split_whole : AreFronted q.rest.items → q.len ≡ p.len → IsWhole p → IsWhole q
  split_whole fronted len whole = same_whole p q split_rows fronted len whole

  count : length (lists_of q) ≡ suc (length (lists_of p))
  count = ap length is ∙ length_cut (lists_of p) s.list (take i (list_at p s.list)) (drop i (list_at p s.list)) opened.list

  lower : list_at q s.list ≡ take i (list_at p s.list)
  lower = ap (λ ls. get_or ls s.list []) is ∙ lower_cut (lists_of p) s.list (take i (list_at p s.list)) (drop i (list_at p s.list)) opened.list

  upper : list_at q (suc s.list) ≡ drop i (list_at p s.list)
  upper = ap (λ ls. get_or ls (suc s.list) []) is ∙ upper_cut (lists_of p) s.list (take i (list_at p s.list)) (drop i (list_at p s.list)) opened.list

  long_lower : length (list_at q s.list) ≡ i
  long_lower = ap length lower ∙ length-take-le i (list_at p s.list) bound

  long_upper : length (list_at q (suc s.list)) ≡ length (list_at p s.list) - i
  long_upper = ap length upper ∙ length-drop i (list_at p s.list)

  long_before : length (rows_before p s) ≡ length (joined (take s.list (lists_of p))) + s.at
  long_before =
      omega (arith, length-append (joined (take s.list (lists_of p))) (take s.at (list_at p s.list)), length-take-le s.at (list_at p s.list) opened.within)

  pub split_lower : s.at ≤ i → IsOpen q s × (rows_before q s ≡ rows_before p s) × (rows_from q s ≡ rows_from p s)
  split_lower le =
      let still : s.list < length (lists_of q) = omega (arith, count, opened.list) in
      let within : s.at ≤ length (list_at q s.list) = omega (arith, long_lower) in
      let lists : joined (take s.list (lists_of q)) ≡ joined (take s.list (lists_of p)) =
      ap (λ ls. joined (take s.list ls)) is ∙ before_cut (lists_of p) s.list (take i (list_at p s.list)) (drop i (list_at p s.list)) opened.list in
      let long : length (rows_before q s) ≡ length (rows_before p s) =
      omega (arith, long_before, ap length lists, length-append (joined (take s.list (lists_of q))) (take s.at (list_at q s.list)), length-take-le s.at (list_at q s.list) within) in
      let same = same_place p q s s opened.list still split_rows long in
      (record { list = still; within = within }, same.0, same.1)

  pub split_upper : i < s.at → (t : Seat) → t.list ≡ suc s.list → t.at ≡ s.at - i → IsOpen q t × (rows_before q t ≡ rows_before p s) × (rows_from q t ≡ rows_from p s)
  split_upper lt t list at =
      let still : t.list < length (lists_of q) = omega (arith, count, opened.list, list) in
      let here : length (list_at q t.list) ≡ length (list_at p s.list) - i = ap (λ n. length (list_at q n)) list ∙ long_upper in
      let within : t.at ≤ length (list_at q t.list) = omega (arith, here, at, opened.within) in
      let lists : joined (take t.list (lists_of q)) ≡ joined (take s.list (lists_of p)) ++ take i (list_at p s.list) =
      ap (λ n. joined (take n (lists_of q))) list ∙ ap (λ ls. joined (take (suc s.list) ls)) is ∙ before_upper (lists_of p) s.list (take i (list_at p s.list)) (drop i (list_at p s.list)) opened.list in
      let down = length-append (joined (take s.list (lists_of p))) (take i (list_at p s.list)) in
      let long : length (rows_before q t) ≡ length (rows_before p s) =
      omega (arith, long_before, ap length lists, down, length-take-le i (list_at p s.list) bound, length-append (joined (take t.list (lists_of q))) (take t.at (list_at q t.list)), length-take-le t.at (list_at q t.list) within, at) in
      let same = same_place p q s t opened.list still split_rows long in
      (record { list = still; within = within }, same.0, same.1)
