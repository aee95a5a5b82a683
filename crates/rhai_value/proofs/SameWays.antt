-- Steps from related values, in related stores.
use Rattle.std.proofs.Common.{◌≡◌, ◌+◌, ℕ, zero, suc, ℤ, nat_lt, Bool, true, false, cond, List, [], ◌∷◌, length, slice_index_or, slice_set, Option, Some, None, Result, Ok, Err, Bor, refl, sym, ap, ◌∙◌}
use Rattle.std.specs.List.{AllZip}
use Rattle.std.specs.Option.{option_map_or}
use Rattle.std.specs.Str.{bytes_eq, chars}
use Rattle.rhai_value.specs.declared.value.access_mode.AccessMode.{AccessMode}
use Rattle.rhai_value.specs.declared.cells.chain.Site.TheVariants.{Here, InCell}
use Rattle.rhai_value.specs.declared.places.step.Step.{Step}
use Rattle.rhai_value.specs.declared.places.step.Step.TheVariants.{Index, Key}
use Rattle.rhai_value.specs.declared.places.step.PlaceErrorKind.{PlaceErrorKind}
use Rattle.rhai_value.specs.declared.places.step.PlaceErrorKind.TheVariants.{NoItem, TooFar}
use Rattle.rhai_value.specs.declared.cells.store.Cell.{Cell}
use Rattle.rhai_value.specs.Tree.{Tree, node, Leaf, leaf, branch, fields, holder, Kind, array, function, Trees, no_trees, tree_then, Fields, no_fields, field_then, fresh, unit}
use Rattle.rhai_value.specs.Items.{items_in, field_at}
use Rattle.rhai_value.specs.Rows.{trees_of}
use Rattle.rhai_value.specs.Store.{put, is_marked_at, set_mark}
use Rattle.rhai_value.specs.End.{End, end, held, stuck, closed}
use Rattle.rhai_value.specs.Steps.{item_place, placed_item, indexed, keyed_value, item_at, with_placed, with_field, with_item}
use Rattle.rhai_value.specs.Places.{Place, Way, no_place, whole_place, lent_out, along, around, lost_at, out_of, put_back, from_end, way_held, way_on, way_in, way, RelatedLeft, RelatedPlaces, RelatedWays}
use Rattle.rhai_value.specs.Relation.{Renaming, paired, Related, AllRelated, RelatedFields, IsOneToOne, RelatedCells, RelatedEnds}
use Rattle.rhai_value.proofs.RelatedCells.{same_put, same_set_mark}
use Rattle.rhai_value.proofs.SameTrees.{by_trees}
use Rattle.rhai_value.proofs.SameWalks.{same_end}
use Rattle.rhai_value.proofs.Zips.{by_zip, zip_length, zip_set}

-- ---- children, as lists

pub listed : (r : Renaming) (ts us : Trees) → AllRelated r ts us → AllZip (Related r) (items_in ts) (items_in us)
listed r no_trees no_trees h = tt
listed r (tree_then t ts) (tree_then u us) h = (h.0, listed r ts us h.1)
listed r _ _ h = absurd h

pub chained : (r : Renaming) (xs ys : List Tree) → AllZip (Related r) xs ys → AllRelated r (trees_of xs) (trees_of ys)
chained r = by_zip (Related r) (λ xs ys. AllRelated r (trees_of xs) (trees_of ys)) tt (λ x y xs ys h z more. (h, more))

-- ---- the value one step down

-- related values, or none for the same reason
abbrev RelatedItems : Renaming → Result Tree PlaceErrorKind → Result Tree PlaceErrorKind → Type 0
RelatedItems r (Ok t) (Ok u) = Related r t u
RelatedItems r (Err a) (Err b) = a ≡ b
RelatedItems r _ _ = ⊥

same_or : (r : Renaming) (xs ys : List Tree) (k : ℕ) → AllZip (Related r) xs ys → Related r (slice_index_or xs k (fresh unit)) (slice_index_or ys k (fresh unit))
same_or r [] [] zero h = (refl, refl, refl)
same_or r [] [] (suc k) h = (refl, refl, refl)
same_or r (x ∷ xs) (y ∷ ys) zero h = h.0
same_or r (x ∷ xs) (y ∷ ys) (suc k) h = same_or r xs ys k h.1
same_or r _ _ k h = absurd h

same_placed : (r : Renaming) (xs ys : List Tree) (o : Option ℕ) → AllZip (Related r) xs ys → RelatedItems r (placed_item xs o) (placed_item ys o)
same_placed r xs ys None h = ap NoItem (zip_length (Related r) xs ys h)
same_placed r xs ys (Some k) h = same_or r xs ys k h

same_field : (r : Renaming) (k : List ℕ) (fs hs : Fields) → RelatedFields r fs hs → RelatedItems r (keyed_value (field_at k fs)) (keyed_value (field_at k hs))
same_field r k no_fields no_fields h = refl
same_field r k (field_then i t fs) (field_then j u hs) h = rw (← h.0) (under (bytes_eq k i) (same_field r k fs hs h.2))
  where
    under : (b : Bool) → RelatedItems r (keyed_value (field_at k fs)) (keyed_value (field_at k hs)) → RelatedItems r (keyed_value (cond b (Some t) (field_at k fs))) (keyed_value (cond b (Some u) (field_at k hs)))
    under true rest = h.1
    under false rest = rest
same_field r k _ _ h = absurd h

same_index : (r : Renaming) (i : ℤ) (t u : Tree) → Related r t u → RelatedItems r (item_at (Index i) t) (item_at (Index i) u)
same_index r i = by_trees r (λ t u. RelatedItems r (item_at (Index i) t) (item_at (Index i) u)) (λ l g m. refl) kinds (λ fs hs g m e. refl) (λ c d g m e. refl)
  where
    kinds : (k : Kind) (ts us : Trees) (g : ℤ) (m : AccessMode) → AllRelated r ts us → RelatedItems r (item_at (Index i) (node (branch k ts) g m)) (item_at (Index i) (node (branch k us) g m))
    kinds array ts us g m e =
        let z = listed r ts us e in
        rw (zip_length (Related r) (items_in ts) (items_in us) z) (same_placed r (items_in ts) (items_in us) (item_place (length (items_in us)) i) z)
    kinds (function f) ts us g m e = refl

same_key : (r : Renaming) (k : Bor (List ℕ)) (t u : Tree) → Related r t u → RelatedItems r (item_at (Key k) t) (item_at (Key k) u)
same_key r k = by_trees r (λ t u. RelatedItems r (item_at (Key k) t) (item_at (Key k) u)) (λ l g m. refl) kinds (λ fs hs g m e. same_field r (chars k.now) fs hs e) (λ c d g m e. refl)
  where
    kinds : (i : Kind) (ts us : Trees) (g : ℤ) (m : AccessMode) → AllRelated r ts us → RelatedItems r (item_at (Key k) (node (branch i ts) g m)) (item_at (Key k) (node (branch i us) g m))
    kinds array ts us g m e = refl
    kinds (function f) ts us g m e = refl

same_item : (r : Renaming) (p : Step) (t u : Tree) → Related r t u → RelatedItems r (item_at p t) (item_at p u)
same_item r (Index i) = same_index r i
same_item r (Key k) = same_key r k

-- ---- and after a write there

-- related values are related after related values are written into them
abbrev Writes : Renaming → (Tree → Tree → Tree) → Tree → Tree → Type 0
Writes r f t u = (w x : Tree) → Related r w x → Related r (f t w) (f u x)

same_with_placed : (r : Renaming) (xs ys : List Tree) (o : Option ℕ) (w x : Tree) → AllZip (Related r) xs ys → Related r w x → AllZip (Related r) (with_placed xs o w) (with_placed ys o x)
same_with_placed r xs ys None w x h e = h
same_with_placed r xs ys (Some k) w x h e = zip_set (Related r) xs ys k w x h e

same_at_index : (r : Renaming) (xs ys : List Tree) (i : ℤ) (w x : Tree) → AllZip (Related r) xs ys → Related r w x → AllZip (Related r) (with_placed xs (item_place (length xs) i) w) (with_placed ys (item_place (length ys) i) x)
same_at_index r xs ys i w x h e = rw (zip_length (Related r) xs ys h) (same_with_placed r xs ys (item_place (length ys) i) w x h e)

same_with_field : (r : Renaming) (k : List ℕ) (w x : Tree) (fs hs : Fields) → Related r w x → RelatedFields r fs hs → RelatedFields r (with_field k w fs) (with_field k x hs)
same_with_field r k w x no_fields no_fields e h = tt
same_with_field r k w x (field_then i t fs) (field_then j u hs) e h = rw (← h.0) (under (bytes_eq k i) (same_with_field r k w x fs hs e h.2))
  where
    under : (b : Bool) → RelatedFields r (with_field k w fs) (with_field k x hs) → RelatedFields r (cond b (field_then i w fs) (field_then i t (with_field k w fs))) (cond b (field_then i x hs) (field_then i u (with_field k x hs)))
    under true rest = (refl, e, h.2)
    under false rest = (refl, h.1, rest)
same_with_field r k w x _ _ e h = absurd h

same_with_index : (r : Renaming) (i : ℤ) (t u : Tree) → Related r t u → Writes r (with_item (Index i)) t u
same_with_index r i = by_trees r (Writes r (with_item (Index i))) (λ l g m w x e. (refl, refl, refl)) kinds (λ fs hs g m e w x h. (e, refl, refl)) (λ c d g m e w x h. (e, refl, refl))
  where
    kinds : (k : Kind) (ts us : Trees) (g : ℤ) (m : AccessMode) → AllRelated r ts us → Writes r (with_item (Index i)) (node (branch k ts) g m) (node (branch k us) g m)
    kinds array ts us g m e w x h =
        ((refl, chained r (with_placed (items_in ts) (item_place (length (items_in ts)) i) w) (with_placed (items_in us) (item_place (length (items_in us)) i) x) (same_at_index r (items_in ts) (items_in us) i w x (listed r ts us e) h)), refl, refl)
    kinds (function f) ts us g m e w x h = ((refl, e), refl, refl)

same_with_key : (r : Renaming) (k : Bor (List ℕ)) (t u : Tree) → Related r t u → Writes r (with_item (Key k)) t u
same_with_key r k = by_trees r (Writes r (with_item (Key k))) (λ l g m w x e. (refl, refl, refl)) kinds (λ fs hs g m e w x h. (same_with_field r (chars k.now) w x fs hs h e, refl, refl)) (λ c d g m e w x h. (e, refl, refl))
  where
    kinds : (i : Kind) (ts us : Trees) (g : ℤ) (m : AccessMode) → AllRelated r ts us → Writes r (with_item (Key k)) (node (branch i ts) g m) (node (branch i us) g m)
    kinds array ts us g m e w x h = ((refl, e), refl, refl)
    kinds (function f) ts us g m e w x h = ((refl, e), refl, refl)

same_with_item : (r : Renaming) (p : Step) (t u : Tree) → Related r t u → Writes r (with_item p) t u
same_with_item r (Index i) = same_with_index r i
same_with_item r (Key k) = same_with_key r k

-- ---- steps to a place

module _ (r : Renaming) (one : IsOneToOne r) where
  same_marked : (s z : List Cell) (c d : ℕ) → RelatedCells r s z → paired r c d ≡ true → is_marked_at s c ≡ is_marked_at z d
  same_marked s z c d h p = let cells = h c d p in rw (cells.2, cells.3) cells.4.0

  same_put_back : (u v : List Cell) (c d : ℕ) (w x : Tree) → RelatedCells r u v → paired r c d ≡ true → Related r w x → RelatedCells r (put_back (Some c) w u) (put_back (Some d) x v)
  same_put_back u v c d w x h p e = rw (same_marked u v c d h p) (under (is_marked_at v d))
    where
      under : (b : Bool) → RelatedCells r (cond b (set_mark (put u c w) c false) u) (cond b (set_mark (put v d x) d false) v)
      under true = same_set_mark r (put u c w) (put v d x) c d false one (same_put r u v c d w x one h p e) p
      under false = h

  same_around : (f g : Tree → Tree) (a b : Way) → ((w x : Tree) → Related r w x → Related r (f w) (g x)) → RelatedWays r a b → RelatedWays r (along (around f) a) (along (around g) b)
  same_around f g (Ok p) (Ok q) h k = record {
    value = k.value;
    store = k.store;
    back = λ w x u v e i. record { value = h (p.back w u).value (q.back x v).value (k.back w x u v e i).value; store = (k.back w x u v e i).store; lost = (k.back w x u v e i).lost };
  }
  same_around f g (Err a) (Err b) h k = k
  same_around f g _ _ h k = absurd k

  same_out_of : (c d n : ℕ) (t u : Tree) (a b : Way) → paired r c d ≡ true → Related r t u → RelatedWays r a b → RelatedWays r (along (out_of c n t) a) (along (out_of d n u) b)
  same_out_of c d n t u (Ok p) (Ok q) m h k = record {
    value = k.value;
    store = k.store;
    back = λ w x y v e i.
        let l = k.back w x y v e i in
        record {
          value = h;
          store = same_put_back (p.back w y).store (q.back x v).store c d (p.back w y).value (q.back x v).value l.store m l.value;
          lost = rw (same_marked (p.back w y).store (q.back x v).store c d l.store m, l.lost) refl;
        };
  }
  same_out_of c d n t u (Err a) (Err b) m h k = k
  same_out_of c d n t u _ _ m h k = absurd k

  -- steps from related values and stores give related results
  abbrev Keeps : (List Cell → Tree → Way) → Type 0
  Keeps go = (s z : List Cell) (t u : Tree) → RelatedCells r s z → Related r t u → RelatedWays r (go s t) (go z u)

  same_lent : (s z : List Cell) (c d : ℕ) → RelatedCells r s z → paired r c d ≡ true → RelatedCells r (lent_out (Some c) s) (lent_out (Some d) z)
  same_lent s z c d h p = same_put r (set_mark s c true) (set_mark z d true) c d (fresh unit) (fresh unit) one (same_set_mark r s z c d true one h p) p (refl, refl, refl)

  module _ (go : List Cell → Tree → Way) (keeps : Keeps go) (n : ℕ) (s z : List Cell) (t u : Tree) (cells : RelatedCells r s z) (same : Related r t u) where
    same_from_end : (e f : End) → RelatedEnds r e f → RelatedWays r (from_end go n s t e) (from_end go n z u f)
    same_from_end (held Here v) (held Here w) h = keeps s z t u cells same
    same_from_end (held Here v) (held (InCell d) w) h = absurd h.0
    same_from_end (held (InCell c) v) (held Here w) h = absurd h.0
    same_from_end (held (InCell c) v) (held (InCell d) w) h = same_out_of c d n t u (go (lent_out (Some c) s) v) (go (lent_out (Some d) z) w) h.0 same (keeps (lent_out (Some c) s) (lent_out (Some d) z) v w (same_lent s z c d cells h.0) h.1)
    same_from_end (stuck v) (stuck w) h = refl
    same_from_end closed closed h = refl
    same_from_end _ _ h = absurd h

    same_held : RelatedWays r (way_held go n s t) (way_held go n z u)
    same_held = same_from_end (end s [] t) (end z [] u) (same_end r s z t u one cells same)

  same_on : (go back : Tree → Way) (n : ℕ) (f g : Tree → Tree) (o q : Result Tree PlaceErrorKind) → ((w x : Tree) → Related r w x → Related r (f w) (g x)) → ((y v : Tree) → Related r y v → RelatedWays r (go y) (back v))
      → RelatedItems r o q → RelatedWays r (way_on go n f o) (way_on back n g q)
  same_on go back n f g (Ok y) (Ok v) h k e = same_around f g (go y) (back v) h (k y v e)
  same_on go back n f g (Err a) (Err b) h k e = ap (λ why. record { step = n; kind = why }) e
  same_on go back n f g _ _ h k e = absurd e

  same_in : (ps : List Step) (n : ℕ) → Keeps (way_in ps n)
  same_in [] n s z t u cells same = record { value = same; store = cells; back = λ w x y v e i. record { value = e; store = i; lost = refl } }
  same_in (p ∷ ps) n s z t u cells same =
      same_on (way_held (way_in ps (n + 1)) (n + 1) s) (way_held (way_in ps (n + 1)) (n + 1) z) n (with_item p t) (with_item p u) (item_at p t) (item_at p u)
      (same_with_item r p t u same) (λ y v e. same_held (way_in ps (n + 1)) (same_in ps (n + 1)) (n + 1) s z y v cells e) (same_item r p t u same)

  same_few : (b : Bool) (p q : Way) → RelatedWays r p q → RelatedWays r (cond b (no_place 0 TooFar) p) (cond b (no_place 0 TooFar) q)
  same_few true p q h = refl
  same_few false p q h = h

  pub same_way : (ps : List Step) (s z : List Cell) (t u : Tree) → RelatedCells r s z → Related r t u → RelatedWays r (way ps s t) (way ps z u)
  same_way ps s z t u cells same = same_few (nat_lt 64 (length ps)) (way_held (way_in ps 0) 0 s t) (way_held (way_in ps 0) 0 z u) (same_held (way_in ps 0) (same_in ps 0) 0 s z t u cells same)
