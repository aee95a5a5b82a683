-- Steps to a place: for values that aren't holders, and the cells that they leave unchanged.
use Rattle.std.proofs.Common.{◌≡◌, ◌+◌, ℕ, zero, suc, nat_eq, nat_lt, Bool, true, false, cond, List, [], ◌∷◌, length, slice_get, Some, None, Result, Ok, Err, refl, sym, ap, ◌∙◌}
use Rattle.std.proofs.lemmas.Bool.{eq-eqb, eqb-true}
use Rattle.rhai_value.specs.declared.cells.chain.Site.TheVariants.{Here, InCell}
use Rattle.rhai_value.specs.declared.places.step.Step.{Step}
use Rattle.rhai_value.specs.declared.places.step.PlaceErrorKind.{PlaceErrorKind}
use Rattle.rhai_value.specs.declared.places.step.PlaceErrorKind.TheVariants.{TooFar}
use Rattle.rhai_value.specs.declared.cells.store.Cell.{Cell}
use Rattle.rhai_value.specs.Tree.{Tree, cell_of, fresh, unit}
use Rattle.rhai_value.specs.Store.{at, put, is_marked_at, set_mark}
use Rattle.rhai_value.specs.End.{End, end, held, stuck, closed}
use Rattle.rhai_value.specs.Steps.{item_at, with_item}
use Rattle.rhai_value.specs.Places.{Place, Way, no_place, whole_place, lent_out, along, around, lost_at, out_of, put_back, from_end, way_held, way_on, way_in, way}
use Rattle.rhai_value.proofs.Ends.{end_own, stands}
use Rattle.rhai_value.proofs.MarkedCells.{others_marked}
use Rattle.rhai_value.proofs.Placed.{lent_is_marked, mark_off}
use Rattle.rhai_value.proofs.RelatedCells.{get_unchanged, marked_put}
use Rattle.rhai_value.proofs.Walks.{at_within}

-- ---- values that aren't holders

pub no_step : (s : List Cell) (t : Tree) → cell_of t ≡ None → way [] s t ≡ Ok (whole_place s t)
no_step s t e = ap (from_end (way_in [] 0) 0 s t) (end_own s [] t e)

pub one_step : (p : Step) (s : List Cell) (t y : Tree) → cell_of t ≡ None → item_at p t ≡ Ok y → cell_of y ≡ None → way (p ∷ []) s t ≡ Ok (around (with_item p t) (whole_place s y))
one_step p s t y e is f =
    ap (from_end (way_in (p ∷ []) 0) 0 s t) (end_own s [] t e) ∙ ap (way_on (way_held (way_in [] 1) 1 s) 0 (with_item p t)) is
    ∙ ap (λ z. along (around (with_item p t)) (from_end (way_in [] 1) 1 s y z)) (end_own s [] y f)

-- ---- unchanged cells

-- Each mark of the store is one of the store passed to the callback, and a cell that isn't marked
-- there is left unchanged.
pub record LeavesOthers (s : List Cell) (q : Place) : Type 0 where
  pub marks : (d : ℕ) → is_marked_at s d ≡ true → is_marked_at q.store d ≡ true
  pub others : (w : Tree) (u : List Cell) (d : ℕ) → is_marked_at q.store d ≡ false → slice_get (q.back w u).store d ≡ slice_get u d

abbrev Alone : List Cell → Way → Type 0
Alone s (Ok q) = LeavesOthers s q
Alone s (Err why) = Unit {0}

alone_around : (f : Tree → Tree) (s : List Cell) (p : Way) → Alone s p → Alone s (along (around f) p)
alone_around f s (Ok q) h = record { marks = h.marks; others = h.others }
alone_around f s (Err why) h = tt

other_put_back : (b : Bool) (c d : ℕ) (x : Tree) (z : List Cell) → (d ≡ c → ⊥) → slice_get (cond b (set_mark (put z c x) c false) z) d ≡ slice_get z d
other_put_back true c d x z apart = get_unchanged _ (put z c x) c d apart ∙ get_unchanged _ z c d apart
other_put_back false c d x z apart = refl

unlike : (s : List Cell) (c d : ℕ) → is_marked_at s c ≡ true → is_marked_at s d ≡ false → d ≡ c → ⊥
unlike s c d m n e = let no : true ≡ false = sym m ∙ ap (is_marked_at s) (sym e) ∙ n in cc

still_marked : (s : List Cell) (c d : ℕ) → is_marked_at (lent_out (Some c) s) c ≡ true → is_marked_at s d ≡ true → is_marked_at (lent_out (Some c) s) d ≡ true
still_marked s c d own m = under (is_marked_at (lent_out (Some c) s) d) refl
  where
    under : (b : Bool) → is_marked_at (lent_out (Some c) s) d ≡ b → b ≡ true
    under true e = refl
    under false e =
        let apart = unlike (lent_out (Some c) s) c d own e in
        let no : true ≡ false = sym m ∙ sym (others_marked s c d true apart) ∙ sym (marked_put (set_mark s c true) c d (fresh unit)) ∙ e in cc

alone_out : (c n : ℕ) (t : Tree) (s : List Cell) (p : Way) → is_marked_at (lent_out (Some c) s) c ≡ true → Alone (lent_out (Some c) s) p → Alone s (along (out_of c n t) p)
alone_out c n t s (Ok q) own h = record {
  marks = λ d m. h.marks d (still_marked s c d own m);
  others = λ w u d none.
      other_put_back (is_marked_at (q.back w u).store c) c d (q.back w u).value (q.back w u).store (unlike q.store c d (h.marks c own) none) ∙ h.others w u d none;
}
alone_out c n t s (Err why) own h = tt

module _ (go : List Cell → Tree → Way) (each : (s : List Cell) (t : Tree) → Alone s (go s t)) (n : ℕ) (s : List Cell) (t : Tree) where
  alone_end : (e : End) → e ≡ end s [] t → Alone s (from_end go n s t e)
  alone_end (held Here v) is = each s t
  alone_end (held (InCell c) v) is = alone_out c n t s (go (lent_out (Some c) s) v) (lent_is_marked s c (at_within s c v (stands s t (InCell c) v is))) (each (lent_out (Some c) s) v)
  alone_end (stuck v) is = tt
  alone_end closed is = tt

  alone_held : Alone s (way_held go n s t)
  alone_held = alone_end (end s [] t) refl

alone_on : (go : Tree → Way) (n : ℕ) (f : Tree → Tree) (s : List Cell) (o : Result Tree PlaceErrorKind) → ((y : Tree) → Alone s (go y)) → Alone s (way_on go n f o)
alone_on go n f s (Ok y) h = alone_around f s (go y) (h y)
alone_on go n f s (Err why) h = tt

alone_in : (ps : List Step) (n : ℕ) (s : List Cell) (t : Tree) → Alone s (way_in ps n s t)
alone_in [] n s t = record { marks = λ d m. m; others = λ w u d none. refl }
alone_in (p ∷ ps) n s t = alone_on (way_held (way_in ps (n + 1)) (n + 1) s) n (with_item p t) s (item_at p t) (λ y. alone_held (way_in ps (n + 1)) (alone_in ps (n + 1)) (n + 1) s y)

alone_way : (b : Bool) (s : List Cell) (why p : Way) → Alone s why → Alone s p → Alone s (cond b why p)
alone_way true s why p h k = h
alone_way false s why p h k = k

-- ---- restored marks

-- If the callback leaves the store unchanged, no mark is lost, and each cell is marked as before.
record Restores (s : List Cell) (q : Place) : Type 0 where
  pub lost : (w : Tree) → (q.back w q.store).lost ≡ None
  pub marks : (w : Tree) (d : ℕ) → is_marked_at (q.back w q.store).store d ≡ is_marked_at s d

abbrev AllBack : List Cell → Way → Type 0
AllBack s (Ok q) = Restores s q
AllBack s (Err why) = Unit {0}

back_around : (f : Tree → Tree) (s : List Cell) (p : Way) → AllBack s p → AllBack s (along (around f) p)
back_around f s (Ok q) h = record { lost = h.lost; marks = h.marks }
back_around f s (Err why) h = tt

unmarked_there : (s : List Cell) (c : ℕ) (v : Tree) → at s c ≡ Some v → is_marked_at s c ≡ false
unmarked_there [] c v e = refl
unmarked_there (x ∷ s) zero v e = sym (mark_off x.is_marked x.content v e)
unmarked_there (x ∷ s) (suc c) v e = unmarked_there s c v e

cleared_there : (s : List Cell) (c : ℕ) → is_marked_at (set_mark s c false) c ≡ false
cleared_there [] c = refl
cleared_there (x ∷ s) zero = refl
cleared_there (x ∷ s) (suc c) = cleared_there s c

module _ (s z : List Cell) (c : ℕ) (v w : Tree) (there : at s c ≡ Some v) (same : (d : ℕ) → is_marked_at z d ≡ is_marked_at (lent_out (Some c) s) d) where
  own_mark : is_marked_at z c ≡ true
  own_mark = same c ∙ lent_is_marked s c (at_within s c v there)

  elsewhere : (d : ℕ) → (d ≡ c → ⊥) → is_marked_at (set_mark (put z c w) c false) d ≡ is_marked_at s d
  elsewhere d apart =
      others_marked (put z c w) c d false apart ∙ marked_put z c d w ∙ same d
      ∙ marked_put (set_mark s c true) c d (fresh unit) ∙ others_marked s c d true apart

  by_place : (b : Bool) (d : ℕ) → nat_eq d c ≡ b → is_marked_at (set_mark (put z c w) c false) d ≡ is_marked_at s d
  by_place true d e =
      let here : d ≡ c = eqb-true d c e in
      rw here (cleared_there (put z c w) c ∙ sym (unmarked_there s c v there))
  by_place false d e = elsewhere d (λ is. let no : true ≡ false = sym (eq-eqb d c is) ∙ e in cc)

  pub marks_back : (d : ℕ) → is_marked_at (put_back (Some c) w z) d ≡ is_marked_at s d
  marks_back d = rw own_mark (by_place (nat_eq d c) d refl)

back_out : (c n : ℕ) (t v : Tree) (s : List Cell) (p : Way) → at s c ≡ Some v → AllBack (lent_out (Some c) s) p → AllBack s (along (out_of c n t) p)
back_out c n t v s (Ok q) there h = record {
  lost = λ w. ap (λ b. lost_at n b (q.back w q.store).lost) (own_mark s (q.back w q.store).store c v w there (h.marks w)) ∙ h.lost w;
  marks = λ w d. marks_back s (q.back w q.store).store c v (q.back w q.store).value there (h.marks w) d;
}
back_out c n t v s (Err why) there h = tt

module _ (go : List Cell → Tree → Way) (each : (s : List Cell) (t : Tree) → AllBack s (go s t)) (n : ℕ) (s : List Cell) (t : Tree) where
  back_end : (e : End) → e ≡ end s [] t → AllBack s (from_end go n s t e)
  back_end (held Here v) is = each s t
  back_end (held (InCell c) v) is = back_out c n t v s (go (lent_out (Some c) s) v) (stands s t (InCell c) v is) (each (lent_out (Some c) s) v)
  back_end (stuck v) is = tt
  back_end closed is = tt

  back_held : AllBack s (way_held go n s t)
  back_held = back_end (end s [] t) refl

back_on : (go : Tree → Way) (n : ℕ) (f : Tree → Tree) (s : List Cell) (o : Result Tree PlaceErrorKind) → ((y : Tree) → AllBack s (go y)) → AllBack s (way_on go n f o)
back_on go n f s (Ok y) h = back_around f s (go y) (h y)
back_on go n f s (Err why) h = tt

back_in : (ps : List Step) (n : ℕ) (s : List Cell) (t : Tree) → AllBack s (way_in ps n s t)
back_in [] n s t = record { lost = λ w. refl; marks = λ w d. refl }
back_in (p ∷ ps) n s t = back_on (way_held (way_in ps (n + 1)) (n + 1) s) n (with_item p t) s (item_at p t) (λ y. back_held (way_in ps (n + 1)) (back_in ps (n + 1)) (n + 1) s y)

back_way : (b : Bool) (s : List Cell) (why p : Way) → AllBack s why → AllBack s p → AllBack s (cond b why p)
back_way true s why p h k = h
back_way false s why p h k = k

pub no_mark_is_lost : (ps : List Step) (s : List Cell) (t : Tree) (q : Place) → way ps s t ≡ Ok q → (w : Tree) → (q.back w q.store).lost ≡ None
no_mark_is_lost ps s t q e w =
    let all : AllBack s (way ps s t) = back_way (nat_lt 64 (length ps)) s (no_place 0 TooFar) (way_held (way_in ps 0) 0 s t) tt (back_held (way_in ps 0) (back_in ps 0) 0 s t) in
    let one : Restores s q = rw e at all in
    one.lost w

-- ---- unchanged cells, for all steps

pub others_stay : (ps : List Step) (s : List Cell) (t : Tree) (q : Place) → way ps s t ≡ Ok q → (w : Tree) (u : List Cell) (d : ℕ) → is_marked_at q.store d ≡ false → slice_get (q.back w u).store d ≡ slice_get u d
others_stay ps s t q e w u d none =
    let all : Alone s (way ps s t) = alone_way (nat_lt 64 (length ps)) s (no_place 0 TooFar) (way_held (way_in ps 0) 0 s t) tt (alone_held (way_in ps 0) (alone_in ps 0) 0 s t) in
    let one : LeavesOthers s q = rw e at all in
    one.others w u d none
