-- Writes one step down into a value.
use Rattle.std.proofs.Common.{◌≡◌, ◌<◌, ◌-◌, ℕ, suc, ℤ, pos, negsuc, nat_lt, Bool, true, false, cond, List, length, Option, Some, None, slice_set, slice_index_or, Ok, Err, Bor, refl, sym, ap, ◌∙◌, subst, arith}
use Rattle.std.proofs.lemmas.Bool.{ltb-true}
use Rattle.std.proofs.lemmas.List.{length-set, set-get_or, get_or-set_same, get_or-set_other}
use Rattle.std.specs.Str.{bytes_eq, chars}
use Rattle.std.proofs.lemmas.Slice.Eq.{bytes_eq-Decides}
use Rattle.rhai_value.specs.declared.places.step.Step.{Step}
use Rattle.rhai_value.specs.declared.places.step.Step.TheVariants.{Index, Key}
use Rattle.rhai_value.specs.declared.value.type_id.TypeId.TheVariants as id
use Rattle.rhai_value.specs.declared.value.access_mode.AccessMode.{AccessMode}
use Rattle.rhai_value.specs.declared.places.step.PlaceErrorKind.TheVariants.{NoItem}
use Rattle.rhai_value.specs.Tree.{Tree, node, leaf, branch, fields, holder, array, function, Trees, Fields, no_fields, field_then, fresh, unit}
use Rattle.rhai_value.specs.Items.{items_in, items_of, field_at}
use Rattle.rhai_value.specs.Rows.{trees_of}
use Rattle.rhai_value.specs.Steps.{item_place, placed_item, indexed, keyed_value, item_at, with_placed, with_field, with_item}
use Rattle.rhai_value.proofs.Items.{items_back, trees_back}
use Rattle.rhai_value.proofs.Placed.{field_same, item_indexed}

-- ---- places in a list

place_ahead : (b : Bool) (n i k : ℕ) → nat_lt i n ≡ b → cond b (Some i) None ≡ Some k → k < n
place_ahead true n i k e h = let same : i ≡ k = cc in subst (λ x. x < n) same (ltb-true i n e)
place_ahead false n i k e h = cc

place_behind : (b : Bool) (n i k : ℕ) → nat_lt i n ≡ b → cond b (Some (n - suc i)) None ≡ Some k → k < n
place_behind true n i k e h = let same : n - suc i ≡ k = cc in omega (arith, ltb-true i n e, same)
place_behind false n i k e h = cc

pub place_within : (n : ℕ) (i : ℤ) (k : ℕ) → item_place n i ≡ Some k → k < n
place_within n (pos i) k h = place_ahead (nat_lt i n) n i k refl h
place_within n (negsuc i) k h = place_behind (nat_lt i n) n i k refl h

-- ---- writing an item of an array

abbrev of_items : List Tree → ℤ → AccessMode → Tree
of_items xs g m = node (branch array (trees_of xs)) g m

module _ (ts : Trees) (i : ℤ) (g : ℤ) (m : AccessMode) where
  abbrev own : List Tree
  own = items_in ts

  with_at : (q : Option ℕ) (w : Tree) → item_place (length own) i ≡ q → with_item (Index i) (node (branch array ts) g m) w ≡ of_items (with_placed own q w) g m
  with_at q w is = ap (λ p. of_items (with_placed own p w) g m) is

  written_at : (q : Option ℕ) (y w : Tree) → item_place (length own) i ≡ q → placed_item own q ≡ Ok y → item_at (Index i) (with_item (Index i) (node (branch array ts) g m) w) ≡ Ok w
  written_at None y w is h = cc
  written_at (Some k) y w is h =
      ap (item_at (Index i)) (with_at (Some k) w is)
      ∙ item_indexed (slice_set own k w) i k g m (sym is ∙ ap (λ n. item_place n i) (sym (length-set own k w)))
      ∙ ap Ok (get_or-set_same own k w (fresh unit) (place_within (length own) i k is))

  itself_at : (q : Option ℕ) (y : Tree) → item_place (length own) i ≡ q → placed_item own q ≡ Ok y → with_item (Index i) (node (branch array ts) g m) y ≡ node (branch array ts) g m
  itself_at None y is h = cc
  itself_at (Some k) y is h =
      let same : slice_index_or own k (fresh unit) ≡ y = cc in
      with_at (Some k) y is ∙ ap (λ ys. of_items ys g m) (ap (slice_set own k) (sym same) ∙ set-get_or own k (fresh unit)) ∙ ap (λ us. node (branch array us) g m) (trees_back ts)

  apart_at : (j : ℤ) (k : ℕ) (w : Tree) (p : Option ℕ) → item_place (length own) i ≡ Some k → item_place (length own) j ≡ p → (p ≡ Some k → ⊥) → placed_item (slice_set own k w) p ≡ placed_item own p
  apart_at j k w None is there apart = ap (λ n. Err (NoItem n)) (length-set own k w)
  apart_at j k w (Some l) is there apart = ap Ok (get_or-set_other own k l w (fresh unit) (λ e. apart (ap Some e)))

-- ---- writing a key of a map

keyed_told : (o : Option Tree) (y : Tree) → keyed_value o ≡ Ok y → o ≡ Some y
keyed_told None y e = cc
keyed_told (Some z) y e = let same : z ≡ y = cc in ap Some same

field_found : (k : List ℕ) (w y : Tree) (fs : Fields) → field_at k fs ≡ Some y → field_at k (with_field k w fs) ≡ Some w
field_found k w y no_fields e = cc
field_found k w y (field_then j t fs) e = under (bytes_eq k j) refl (field_found k w y fs) e
  where
    under : (b : Bool) → bytes_eq k j ≡ b → (field_at k fs ≡ Some y → field_at k (with_field k w fs) ≡ Some w) → cond b (Some t) (field_at k fs) ≡ Some y
        → field_at k (cond b (field_then j w fs) (field_then j t (with_field k w fs))) ≡ Some w
    under true is again h = ap (λ b. cond b (Some w) (field_at k fs)) is
    under false is again h = ap (λ b. cond b (Some t) (field_at k (with_field k w fs))) is ∙ again h

field_other : (k q : List ℕ) (w : Tree) (fs : Fields) → (q ≡ k → ⊥) → field_at q (with_field k w fs) ≡ field_at q fs
field_other k q w no_fields apart = refl
field_other k q w (field_then j t fs) apart = under (bytes_eq k j) refl (field_other k q w fs apart)
  where
    off : (b : Bool) → bytes_eq q j ≡ b → bytes_eq k j ≡ true → b ≡ false
    off true is at = absurd (apart ((bytes_eq-Decides q j).0 is ∙ sym ((bytes_eq-Decides k j).0 at)))
    off false is at = refl

    under : (b : Bool) → bytes_eq k j ≡ b → field_at q (with_field k w fs) ≡ field_at q fs → field_at q (cond b (field_then j w fs) (field_then j t (with_field k w fs))) ≡ cond (bytes_eq q j) (Some t) (field_at q fs)
    under true at again = let none : bytes_eq q j ≡ false = off (bytes_eq q j) refl at in ap (λ b. cond b (Some w) (field_at q fs)) none ∙ sym (ap (λ b. cond b (Some t) (field_at q fs)) none)
    under false at again = ap (cond (bytes_eq q j) (Some t)) again

-- ---- the value one step down

pub item_written : (p : Step) (t y w : Tree) → item_at p t ≡ Ok y → item_at p (with_item p t w) ≡ Ok w
item_written (Index i) (node (branch array ts) g m) y w h = written_at ts i g m (item_place (length (items_in ts)) i) y w refl h
item_written (Index i) (node (branch (function f) ts) g m) y w h = cc
item_written (Index i) (node (leaf l) g m) y w h = cc
item_written (Index i) (node (fields fs) g m) y w h = cc
item_written (Index i) (node (holder c) g m) y w h = cc
item_written (Key k) (node (fields fs) g m) y w h = ap keyed_value (field_found (chars k.now) w y fs (keyed_told (field_at (chars k.now) fs) y h))
item_written (Key k) (node (branch q ts) g m) y w h = cc
item_written (Key k) (node (leaf l) g m) y w h = cc
item_written (Key k) (node (holder c) g m) y w h = cc

pub item_over_itself : (p : Step) (t y : Tree) → item_at p t ≡ Ok y → with_item p t y ≡ t
item_over_itself (Index i) (node (branch array ts) g m) y h = itself_at ts i g m (item_place (length (items_in ts)) i) y refl h
item_over_itself (Index i) (node (branch (function f) ts) g m) y h = cc
item_over_itself (Index i) (node (leaf l) g m) y h = cc
item_over_itself (Index i) (node (fields fs) g m) y h = cc
item_over_itself (Index i) (node (holder c) g m) y h = cc
item_over_itself (Key k) (node (fields fs) g m) y h = ap (λ hs. node (fields hs) g m) (field_same (chars k.now) fs y (keyed_told (field_at (chars k.now) fs) y h))
item_over_itself (Key k) (node (branch q ts) g m) y h = cc
item_over_itself (Key k) (node (leaf l) g m) y h = cc
item_over_itself (Key k) (node (holder c) g m) y h = cc

other_at : (ts : Trees) (i j : ℤ) (g : ℤ) (m : AccessMode) (w : Tree) (q : Option ℕ) → item_place (length (items_in ts)) i ≡ q → (item_place (length (items_in ts)) j ≡ q → ⊥)
    → item_at (Index j) (with_item (Index i) (node (branch array ts) g m) w) ≡ item_at (Index j) (node (branch array ts) g m)
other_at ts i j g m w None is apart = ap (item_at (Index j)) (with_at ts i g m None w is ∙ ap (λ us. node (branch array us) g m) (trees_back ts))
other_at ts i j g m w (Some k) is apart =
    let xs = items_in ts in
    let ys = slice_set xs k w in
    ap (item_at (Index j)) (with_at ts i g m (Some k) w is) ∙ ap (indexed j id.Array) (ap Some (items_back ys))
    ∙ ap (λ n. placed_item ys (item_place n j)) (length-set xs k w) ∙ apart_at ts i g m j k w (item_place (length xs) j) is refl apart

pub other_item : (i j : ℤ) (t w : Tree) (xs : List Tree) → items_of t ≡ Some xs → (item_place (length xs) j ≡ item_place (length xs) i → ⊥) → item_at (Index j) (with_item (Index i) t w) ≡ item_at (Index j) t
other_item i j (node (branch array ts) g m) w xs e apart =
    let same : items_in ts ≡ xs = cc in
    other_at ts i j g m w (item_place (length (items_in ts)) i) refl (subst (λ us. item_place (length us) j ≡ item_place (length us) i → ⊥) (sym same) apart)
other_item i j (node (branch (function f) ts) g m) w xs e apart = cc
other_item i j (node (leaf l) g m) w xs e apart = cc
other_item i j (node (fields fs) g m) w xs e apart = cc
other_item i j (node (holder c) g m) w xs e apart = cc

pub other_key : (k q : Bor (List ℕ)) (t w : Tree) → (chars q.now ≡ chars k.now → ⊥) → item_at (Key q) (with_item (Key k) t w) ≡ item_at (Key q) t
other_key k q (node (fields fs) g m) w apart = ap keyed_value (field_other (chars k.now) (chars q.now) w fs apart)
other_key k q (node (branch j ts) g m) w apart = refl
other_key k q (node (leaf l) g m) w apart = refl
other_key k q (node (holder c) g m) w apart = refl
