-- Work at a place: content taken out of a cell and put back, and the effect of steps on it.
use Rattle.std.proofs.Common.{◌≡◌, ◌<◌, ℕ, ℤ, zero, suc, Bool, true, false, cond, List, [], ◌∷◌, length, Option, Some, None, is_some, option_map, slice_set, slice_index_or, IfSome, Result, Ok, Err, Bor, MutBor, refl, sym, ap, ap₂, ◌∙◌, subst, arith}
use Rattle.std.specs.BTreeMap.{is_at}
use Rattle.std.specs.Fn.{Once}
use Rattle.std.specs.Map.{keys_of, set_value}
use Rattle.std.specs.Ordering.{is_eq}
use Rattle.std.specs.Str.{bytes_eq, chars, IsUtf8}
use Rattle.std.proofs.lemmas.List.{set-get_or}
use Rattle.std.proofs.lemmas.List.Elements.{All-head, All-tail}
use Rattle.rhai_value.specs.declared.value.access_mode.AccessMode.{AccessMode}
use Rattle.rhai_value.specs.declared.cells.chain.Site.TheVariants.{Here, InCell}
use Rattle.rhai_value.specs.declared.places.step.Step.{Step}
use Rattle.rhai_value.specs.declared.places.step.Step.TheVariants.{Index, Key}
use Rattle.rhai_value.specs.declared.places.step.PlaceError.{PlaceError}
use Rattle.rhai_value.specs.declared.places.step.PlaceErrorKind.{PlaceErrorKind}
use Rattle.rhai_value.specs.declared.places.step.PlaceErrorKind.TheVariants as kind
use Rattle.rhai_value.specs.declared.places.step.PlaceErrorKind.TheVariants.{OtherType, NoItem, NoKey}
use Rattle.rhai_value.specs.declared.cells.store.Cell.{Cell}
use Rattle.rhai_value.specs.declared.value.type_id.TypeId.TheVariants as id
use Rattle.rhai_value.specs.Tree.{Tree, node, leaf, branch, fields, holder, array, function, Trees, Fields, no_fields, field_then, cell_of, tag_of, mode_of, fresh, unit}
use Rattle.rhai_value.specs.Items.{items_in, with_items, field_at}
use Rattle.rhai_value.specs.Parts.{array_of, map_of}
use Rattle.rhai_value.specs.Rows.{Rows, bytes_cmp, AreTexts, trees_of, fields_of}
use Rattle.rhai_value.specs.Types.{tree_type}
use Rattle.rhai_value.specs.Store.{at, put, is_marked_at, set_mark, marked_with, content_at}
use Rattle.rhai_value.specs.End.{End, end, held, stuck, closed, held_in, held_cell, store_after}
use Rattle.rhai_value.specs.Steps.{item_place, placed_item, indexed, keyed, keyed_value, item_at, with_placed, with_field, with_indexed, with_item}
use Rattle.rhai_value.specs.Places.{Leaves, WorksAt, held_answer, is_kept, lent_out, IsLent, put_back, Way, along, around, lost_at, out_of, from_end, way_held, way_on, place_answer, WorksAlong}
use Rattle.rhai_value.proofs.Ends.{stands, end_own}
use Rattle.rhai_value.proofs.Items.{items_back, same_chars}
use Rattle.rhai_value.proofs.LentHeld.{FarEnd, far_end}
use Rattle.rhai_value.proofs.MarkedCells.{mark_stands}
use Rattle.rhai_value.proofs.RelatedCells.{marked_put}
use Rattle.rhai_value.proofs.Walks.{at_within}

-- ---- the cell of a held value

far : (s : List Cell) (t : Tree) → is_some (cell_of t) ≡ true → FarEnd (end s [] t)
far s (node (leaf l) g m) e = cc
far s (node (branch k ts) g m) e = cc
far s (node (fields fs) g m) e = cc
far s (node (holder c) g m) e = far_end s c g m

none_held_at : (e : End) → FarEnd e → held_cell e ≡ None → held_in e ≡ None
none_held_at (held Here v) f h = absurd f
none_held_at (held (InCell c) v) f h = cc
none_held_at (stuck v) f h = refl
none_held_at closed f h = refl

-- a holder that holds something leads to a cell
pub none_held : (s : List Cell) (t : Tree) → is_some (cell_of t) ≡ true → None ≡ held_cell (end s [] t) → held_in (end s [] t) ≡ None
none_held s t e h = none_held_at (end s [] t) (far s t e) (sym h)

-- a cell's content is the same with any mark
read_under : (b : Bool) (t v : Tree) → cond b None (Some t) ≡ Some v → t ≡ v
read_under true t v e = cc
read_under false t v e = let same : t ≡ v = cc in same

marked_content : (s : List Cell) (c : ℕ) (v : Tree) → at s c ≡ Some v → content_at (set_mark s c true) c ≡ Some v
marked_content [] c v e = cc
marked_content (x ∷ s) zero v e = ap Some (read_under x.is_marked x.content v e)
marked_content (x ∷ s) (suc c) v e = marked_content s c v e

lent_at : (s : List Cell) (t : Tree) (c : ℕ) (w : Tree) (e : End) → e ≡ end s [] t → Some c ≡ held_cell e → content_at (set_mark s c true) c ≡ Some w → e ≡ held (InCell c) w
lent_at s t c w (held Here v) is h f = cc
lent_at s t c w (held (InCell d) v) is h f =
    let same : c ≡ d = cc in
    let read : content_at (set_mark s c true) c ≡ Some v = marked_content s c v (ap (at s) same ∙ stands s t (InCell d) v is) in
    let value : w ≡ v = let both : Some w ≡ Some v = sym f ∙ read in cc in
    rw (same, value) refl
lent_at s t c w (stuck v) is h f = cc
lent_at s t c w closed is h f = cc

pub is_lent : (s s' : List Cell) (t : Tree) (c : ℕ) (w : Tree) → Some c ≡ held_cell (end s [] t) → s' ≡ marked_with (held_cell (end s [] t)) s → content_at s' c ≡ Some w → IsLent c w s t (put s' c (fresh unit))
is_lent s s' t c w h marked f =
    let m : s' ≡ set_mark s c true = marked ∙ ap (λ o. marked_with o s) (sym h) in
    record { stands = lent_at s t c w (end s [] t) refl h (ap (λ z. content_at z c) (sym m) ∙ f); out = ap (λ z. put z c (fresh unit)) m }

-- ---- putting back

unmarked_under : (b : Bool) (t v : Tree) → cond b None (Some t) ≡ Some v → ◌≡◌ {A = Cell} (record { content = v; is_marked = false }) (record { content = t; is_marked = b })
unmarked_under true t v e = cc
unmarked_under false t v e = ap (λ w. record { content = w; is_marked = false }) (sym (read_under false t v e))

restored : (s : List Cell) (c : ℕ) (v : Tree) → at s c ≡ Some v → set_mark (put (lent_out (Some c) s) c v) c false ≡ s
restored [] c v e = cc
restored (x ∷ s) zero v e = ap (λ y. y ∷ s) (unmarked_under x.is_marked x.content v e)
restored (x ∷ s) (suc c) v e = ap (λ z. x ∷ z) (restored s c v e)

pub lent_is_marked : (s : List Cell) (c : ℕ) → c < length s → is_marked_at (lent_out (Some c) s) c ≡ true
lent_is_marked s c l = marked_put (set_mark s c true) c c (fresh unit) ∙ mark_stands s c true l

-- putting back an unchanged value leaves the store unchanged
pub put_back_same : (s : List Cell) (c : ℕ) (v : Tree) → at s c ≡ Some v → put_back (Some c) v (lent_out (Some c) s) ≡ s
put_back_same s c v e = ap (λ b. cond b (set_mark (put (lent_out (Some c) s) c v) c false) (lent_out (Some c) s)) (lent_is_marked s c (at_within s c v e)) ∙ restored s c v e

-- ---- steps to a place

module _ {F R : Type 0} (g : Once F (MutBor Tree × (MutBor (List Cell) × Unit {0})) (R × (MutBor Tree × (MutBor (List Cell) × Unit {0})))) (f : F) where
  around_works : (h : Tree → Tree) (p : Way) (y t : Tree) (s : List Cell) (r : Result R PlaceError) (y' : Tree) (s' : List Cell) → h y ≡ t → WorksAlong g f p y s r y' s' → WorksAlong g f (along (around h) p) t s r (h y') s'
  around_works h (Ok q) y t s r y' s' e w = record { answer = w.answer; made = w.made; beside = w.beside; works = w.works; answers = w.answers; value = ap h w.value; store = w.store }
  around_works h (Err why) y t s r y' s' e w = (w.0, ap h w.1 ∙ e, w.2)

  -- work at an item of a value is work one step down
  pub item_works : (go : Tree → Way) (n : ℕ) (p : Step) (y t : Tree) (s : List Cell) (r : Result R PlaceError) (y' t' : Tree) (s' : List Cell)
      → item_at p t ≡ Ok y → with_item p t y ≡ t → t' ≡ with_item p t y' → WorksAlong g f (go y) y s r y' s' → WorksAlong g f (way_on go n (with_item p t) (item_at p t)) t s r t' s'
  item_works go n p y t s r y' t' s' is same new w = rw (is, new) (around_works (with_item p t) (go y) y t s r y' s' same w)

  pub no_item_works : (go : Tree → Way) (n : ℕ) (p : Step) (t : Tree) (s : List Cell) (why : PlaceErrorKind) → item_at p t ≡ Err why → WorksAlong g f (way_on go n (with_item p t) (item_at p t)) t s (Err (record { step = n; kind = why })) t s
  no_item_works go n p t s why is = rw is (refl, refl, refl)

  out_works : (n c : ℕ) (p : Way) (v t : Tree) (s : List Cell) (r : Result R PlaceError) (v' : Tree) (u : List Cell) (b : Bool)
      → at s c ≡ Some v → is_marked_at u c ≡ b → WorksAlong g f p v (lent_out (Some c) s) r v' u
      → WorksAlong g f (along (out_of c n t) p) t s (cond b r (Err (record { step = n; kind = kind.Lost }))) t (put_back (Some c) v' u)
  out_works n c (Ok q) v t s r v' u b there marked w =
      let mark : is_marked_at (q.back w.made w.beside).store c ≡ b = ap (λ z. is_marked_at z c) (sym w.store) ∙ marked in record {
        answer = w.answer;
        made = w.made;
        beside = w.beside;
        works = w.works;
        answers = answers b mark;
        value = refl;
        store = ap₂ (λ x z. put_back (Some c) x z) w.value w.store;
      }
    where
      answers : (b : Bool) → is_marked_at (q.back w.made w.beside).store c ≡ b → cond b r (Err (record { step = n; kind = kind.Lost })) ≡ place_answer (lost_at n (is_marked_at (q.back w.made w.beside).store c) (q.back w.made w.beside).lost) w.answer
      answers true e = w.answers ∙ ap (λ x. place_answer (lost_at n x (q.back w.made w.beside).lost) w.answer) (sym e)
      answers false e = ap (λ x. place_answer (lost_at n x (q.back w.made w.beside).lost) w.answer) (sym e)
  out_works n c (Err why) v t s r v' u true there marked w = (w.0, refl, ap₂ (λ x z. put_back (Some c) x z) w.1 w.2 ∙ put_back_same s c v there)
  out_works n c (Err why) v t s r v' u false there marked w =
      let no : true ≡ false = sym (lent_is_marked s c (at_within s c v there)) ∙ ap (λ z. is_marked_at z c) (sym w.2) ∙ marked in cc

  module _ (go : List Cell → Tree → Way) (n : ℕ) (s : List Cell) (t : Tree) where
    -- work at a content taken out of its cell is work at the held value
    pub held_works : (s₁ s₂ : List Cell) (c : ℕ) (v : Tree) (r : Result R PlaceError) (v' : Tree) (u : List Cell) (b : Bool)
        → IsLent c v s t s₁ → WorksAlong g f (go s₁ v) v s₁ r v' u → b ≡ is_marked_at u c → s₂ ≡ put_back (Some c) v' u
        → WorksAlong g f (way_held go n s t) t s (cond b r (Err (record { step = n; kind = kind.Lost }))) t s₂
    held_works s₁ s₂ c v r v' u b lent w kept back =
        rw (lent.stands, back) (out_works n c (go (lent_out (Some c) s) v) v t s r v' u b (stands s t (InCell c) v (sym lent.stands)) (sym kept) (subst (λ z. WorksAlong g f (go z v) v z r v' u) lent.out w))

    pub own_works : (r : Result R PlaceError) (t' : Tree) (s' : List Cell) → cell_of t ≡ None → WorksAlong g f (go s t) t s r t' s' → WorksAlong g f (way_held go n s t) t s r t' s'
    own_works r t' s' e w = rw (end_own s [] t e) w

    barred_at : (e : End) → held_in e ≡ None → WorksAlong g f (from_end go n s t e) t s (Err (record { step = n; kind = kind.Barred })) t s
    barred_at (held site v) h = cc
    barred_at (stuck v) h = (refl, refl, refl)
    barred_at closed h = (refl, refl, refl)

    pub barred_works : held_in (end s [] t) ≡ None → WorksAlong g f (way_held go n s t) t s (Err (record { step = n; kind = kind.Barred })) t s
    barred_works h = barred_at (end s [] t) h

-- ---- steps

module _ (xs : List Tree) (i : ℤ) (k : ℕ) (g : ℤ) (m : AccessMode) (is : Some k ≡ item_place (length xs) i) where
  pub item_indexed : item_at (Index i) (node (branch array (trees_of xs)) g m) ≡ Ok (slice_index_or xs k (fresh unit))
  item_indexed = ap (indexed i id.Array) (ap Some (items_back xs)) ∙ ap (placed_item xs) (sym is)

  pub with_index : (w : Tree) → with_item (Index i) (node (branch array (trees_of xs)) g m) w ≡ node (branch array (trees_of (slice_set xs k w))) g m
  with_index w = let t = node (branch array (trees_of xs)) g m in ap (with_indexed i w t) (ap Some (items_back xs)) ∙ ap (λ q. with_items (with_placed xs q w) t) (sym is)

pub item_missing : (xs : List Tree) (i : ℤ) (g : ℤ) (m : AccessMode) → None ≡ item_place (length xs) i → item_at (Index i) (node (branch array (trees_of xs)) g m) ≡ Err (NoItem (length xs))
item_missing xs i g m is = ap (indexed i id.Array) (ap Some (items_back xs)) ∙ ap (placed_item xs) (sym is)

pub is_array : (t : Tree) (ts : Trees) → array_of t ≡ Some ts → t ≡ node (branch array ts) (tag_of t) (mode_of t)
is_array (node (branch array us) g m) ts e = let same : us ≡ ts = cc in ap (λ x. node (branch array x) g m) same
is_array (node (branch (function f) us) g m) ts e = cc
is_array (node (leaf l) g m) ts e = cc
is_array (node (fields fs) g m) ts e = cc
is_array (node (holder c) g m) ts e = cc

pub is_map : (t : Tree) (fs : Fields) → map_of t ≡ Some fs → t ≡ node (fields fs) (tag_of t) (mode_of t)
is_map (node (branch k us) g m) fs e = cc
is_map (node (leaf l) g m) fs e = cc
is_map (node (fields hs) g m) fs e = let same : hs ≡ fs = cc in ap (λ x. node (fields x) g m) same
is_map (node (holder c) g m) fs e = cc

pub no_array : (t : Tree) (i : ℤ) → array_of t ≡ None → item_at (Index i) t ≡ Err (OtherType (tree_type t))
no_array t i e = ap (λ o. indexed i (tree_type t) (option_map items_in o)) e

pub no_map : (t : Tree) (k : Bor (List ℕ)) → map_of t ≡ None → item_at (Key k) t ≡ Err (OtherType (tree_type t))
no_map t k e = ap (keyed (chars k.now) (tree_type t)) e

-- the fields of a map in which the value of one key is replaced
pub field_written : (rs : Rows) (q : List ℕ) (w : Tree) → AreTexts rs → IsUtf8 q → fields_of (set_value (is_at (bytes_cmp q)) rs w) ≡ with_field (chars q) w (fields_of rs)
field_written [] q w texts u = refl
field_written (r ∷ rs) q w texts u = rw (same_chars q r.0 u (All-head IsUtf8 r.0 (keys_of rs) texts), sym (field_written rs q w (All-tail IsUtf8 r.0 (keys_of rs) texts) u)) (at (is_eq (bytes_cmp q r.0)))
  where
    at : (b : Bool) → fields_of (cond b ((r.0, w) ∷ rs) (r ∷ set_value (is_at (bytes_cmp q)) rs w)) ≡ cond b (field_then (chars r.0) w (fields_of rs)) (field_then (chars r.0) r.1 (fields_of (set_value (is_at (bytes_cmp q)) rs w)))
    at true = refl
    at false = refl

pub item_keyed : (fs : Fields) (k : Bor (List ℕ)) (g : ℤ) (m : AccessMode) (y : Tree) → Some y ≡ field_at (chars k.now) fs → item_at (Key k) (node (fields fs) g m) ≡ Ok y
item_keyed fs k g m y e = ap keyed_value (sym e)

pub key_missing : (fs : Fields) (k : Bor (List ℕ)) (g : ℤ) (m : AccessMode) → None ≡ field_at (chars k.now) fs → item_at (Key k) (node (fields fs) g m) ≡ Err NoKey
key_missing fs k g m e = ap keyed_value (sym e)

-- writing a value over itself
pub field_same : (k : List ℕ) (fs : Fields) (y : Tree) → field_at k fs ≡ Some y → with_field k y fs ≡ fs
field_same k no_fields y e = refl
field_same k (field_then j t fs) y e = under (bytes_eq k j) (field_same k fs y) e
  where
    under : (b : Bool) → (field_at k fs ≡ Some y → with_field k y fs ≡ fs) → cond b (Some t) (field_at k fs) ≡ Some y → cond b (field_then j y fs) (field_then j t (with_field k y fs)) ≡ field_then j t fs
    under true again h = let same : t ≡ y = cc in ap (λ x. field_then j x fs) (sym same)
    under false again h = ap (field_then j t) (again h)

any_default : (xs : List Tree) (k : ℕ) (a b : Tree) → k < length xs → slice_index_or xs k a ≡ slice_index_or xs k b
any_default [] k a b l = absurd (omega (arith, l))
any_default (x ∷ xs) zero a b l = refl
any_default (x ∷ xs) (suc k) a b l = any_default xs k a b (omega (arith, l))

module _ (xs : List Tree) (i : ℤ) (k : ℕ) (y : Tree) (g : ℤ) (m : AccessMode) (is : Some k ≡ item_place (length xs) i) (l : k < length xs) (here : y ≡ slice_index_or xs k y) where
  pub item_there : item_at (Index i) (node (branch array (trees_of xs)) g m) ≡ Ok y
  item_there = item_indexed xs i k g m is ∙ ap Ok (any_default xs k (fresh unit) y l ∙ sym here)

  pub item_same : with_item (Index i) (node (branch array (trees_of xs)) g m) y ≡ node (branch array (trees_of xs)) g m
  item_same = with_index xs i k g m is y ∙ ap (λ ys. node (branch array (trees_of ys)) g m) (ap (slice_set xs k) here ∙ set-get_or xs k y)

pub unshared : (o : Option ℕ) (b : Bool) → b ≡ is_some o → b ≡ false → o ≡ None
unshared None b e f = refl
unshared (Some c) b e f = cc

-- ---- work at the held value

module _ {F R : Type 0} (g : Once F (MutBor Tree × (MutBor (List Cell) × Unit {0})) (R × (MutBor Tree × (MutBor (List Cell) × Unit {0})))) (f : F) (s : List Cell) (t : Tree) where
  pub own_not_barred : cell_of t ≡ None → held_in (end s [] t) ≡ None → ⊥
  own_not_barred e h = let no : Some t ≡ None = sym (ap held_in (end_own s [] t e)) ∙ h in cc

  pub own_held : (r : R) (w : Tree) (u : List Cell) → cell_of t ≡ None → Leaves g f t s r w u → IfSome (held_in (end s [] t)) (λ v. WorksAt g f (end s [] t) v s t (Ok r) w u)
  own_held r w u e l = rw (end_own s [] t e) (record { answer = r; made = w; beside = u; works = l; answers = refl; value = refl; store = refl })

  pub lent_not_barred : (s₁ : List Cell) (c : ℕ) (v : Tree) → IsLent c v s t s₁ → held_in (end s [] t) ≡ None → ⊥
  lent_not_barred s₁ c v lent h = let no : Some v ≡ None = sym (ap held_in lent.stands) ∙ h in cc

  pub far_held : (s₁ s₂ : List Cell) (c : ℕ) (v : Tree) (r : R) (w : Tree) (u : List Cell) (b : Bool) → IsLent c v s t s₁ → Leaves g f v s₁ r w u → b ≡ is_marked_at u c → s₂ ≡ put_back (Some c) w u
      → IfSome (held_in (end s [] t)) (λ v. WorksAt g f (end s [] t) v s t (held_answer b r) t s₂)
  far_held s₁ s₂ c v r w u b lent l kept back =
      rw lent.stands (record { answer = r; made = w; beside = u; works = subst (λ z. Leaves g f v z r w u) lent.out l; answers = ap (λ x. held_answer x r) kept; value = refl; store = back })

pub none_works : (s : List Cell) (t : Tree) (P : Tree → Type 0) → held_in (end s [] t) ≡ None → IfSome (held_in (end s [] t)) P
none_works s t P h = rw h tt

-- ---- taking out and putting back

pub mark_off : (b : Bool) (t v : Tree) → cond b None (Some t) ≡ Some v → false ≡ b
mark_off true t v e = cc
mark_off false t v e = refl

lent_and_back : (s : List Cell) (c : ℕ) (v w : Tree) → at s c ≡ Some v → set_mark (put (lent_out (Some c) s) c w) c false ≡ put s c w
lent_and_back [] c v w e = refl
lent_and_back (x ∷ s) zero v w e = ap (λ b. record { content = w; is_marked = b } ∷ s) (mark_off x.is_marked x.content v e)
lent_and_back (x ∷ s) (suc c) v w e = ap (λ z. x ∷ z) (lent_and_back s c v w e)

kept_at : (s : List Cell) (t : Tree) (e : End) → e ≡ end s [] t → is_kept (held_cell e) (lent_out (held_cell e) s) ≡ true
kept_at s t (held Here v) is = refl
kept_at s t (held (InCell c) v) is = lent_is_marked s c (at_within s c v (stands s t (InCell c) v is))
kept_at s t (stuck v) is = refl
kept_at s t closed is = refl

pub lent_is_kept : (s : List Cell) (t : Tree) → is_kept (held_cell (end s [] t)) (lent_out (held_cell (end s [] t)) s) ≡ true
lent_is_kept s t = kept_at s t (end s [] t) refl

back_at : (s : List Cell) (t w : Tree) (e : End) → e ≡ end s [] t → put_back (held_cell e) w (lent_out (held_cell e) s) ≡ store_after (λ _. w) e s
back_at s t w (held Here v) is = refl
back_at s t w (held (InCell c) v) is =
    let there = stands s t (InCell c) v is in
    ap (λ b. cond b (set_mark (put (lent_out (Some c) s) c w) c false) (lent_out (Some c) s)) (lent_is_marked s c (at_within s c v there)) ∙ lent_and_back s c v w there
back_at s t w (stuck v) is = refl
back_at s t w closed is = refl

pub lent_comes_back : (s : List Cell) (t w : Tree) → put_back (held_cell (end s [] t)) w (lent_out (held_cell (end s [] t)) s) ≡ store_after (λ _. w) (end s [] t) s
lent_comes_back s t w = back_at s t w (end s [] t) refl
