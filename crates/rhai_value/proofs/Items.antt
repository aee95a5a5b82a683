-- The items of held arrays and the rows of held maps, before and after a write.
use Rattle.std.proofs.Common.{◌≡◌, ℕ, Bool, true, false, cond, List, [], ◌∷◌, Option, Some, None, IsSome, option_map, refl, sym, ap, ◌∙◌, subst}
use Rattle.std.specs.BTreeMap.{insert_entry, is_at}
use Rattle.std.specs.List.{All}
use Rattle.std.specs.Cmp.{eq_by_cmp_equiv}
use Rattle.std.specs.Map.{keys_of, lookup, remove_entry, set_value}
use Rattle.std.specs.Ordering.{is_eq}
use Rattle.std.specs.Str.{bytes_eq, chars, encode_utf8_all, IsUtf8}
use Rattle.std.proofs.lemmas.Cmp.{nat_list_cmp_total}
use Rattle.std.proofs.lemmas.List.Elements.{All-head, All-tail}
use Rattle.std.proofs.lemmas.Map.{keys-set_value, lookup-remove_entry, lookup-set_value}
use Rattle.std.proofs.lemmas.Map.Keys.{IsDistinct-from_sorted}
use Rattle.std.proofs.lemmas.Map.Text.{is_eq-slice_cmp}
use Rattle.std.proofs.lemmas.Map.Views.{All-keys-insert_entry, All-map-remove_entry}
use Rattle.std.proofs.lemmas.Slice.Eq.{bytes_eq-Decides}
use Rattle.std.proofs.lemmas.Str.{encodes-chars}
use Rattle.rhai_value.specs.declared.cells.chain.Site.{Site}
use Rattle.rhai_value.specs.declared.cells.store.Cell.{Cell}
use Rattle.rhai_value.specs.Tree.{Tree, node, Content, leaf, branch, array, fields, holder, Trees, no_trees, tree_then, cell_of, made}
use Rattle.rhai_value.specs.Parts.{array_of, map_of, with_content}
use Rattle.rhai_value.specs.Rows.{Rows, bytes_cmp, AreRising, AreTexts, trees_of, fields_of}
use Rattle.rhai_value.specs.End.{End, end, held, stuck, closed, held_part}
use Rattle.rhai_value.specs.Items.{items_in, items_of, with_items, field_at, map_get, with_rows, end_after, KeyBecomes}
use Rattle.rhai_value.proofs.Inserted.{found_inserted}
use Rattle.rhai_value.proofs.WrittenEnds.{end_written}

-- ---- a list of items, and the children made from it

pub items_back : (xs : List Tree) → items_in (trees_of xs) ≡ xs
items_back [] = refl
items_back (x ∷ xs) = ap (λ l. x ∷ l) (items_back xs)

pub trees_back : (ts : Trees) → trees_of (items_in ts) ≡ ts
trees_back no_trees = refl
trees_back (tree_then t ts) = ap (tree_then t) (trees_back ts)

held_items : (e : End) → held_part items_of e ≡ option_map items_in (held_part array_of e)
held_items (held site t) = refl
held_items (stuck t) = refl
held_items closed = refl

pub items_held : (e : End) (xs : List Tree) → held_part array_of e ≡ Some (trees_of xs) → held_part items_of e ≡ Some xs
items_held e xs h = held_items e ∙ ap (option_map items_in) h ∙ ap Some (items_back xs)

children : (o : Option Trees) (xs : List Tree) → option_map items_in o ≡ Some xs → o ≡ Some (trees_of xs)
children None xs e = cc
children (Some ts) xs e = let same : items_in ts ≡ xs = cc in ap Some (sym (trees_back ts) ∙ ap trees_of same)

pub items_told : (e : End) (xs : List Tree) → held_part items_of e ≡ Some xs → held_part array_of e ≡ Some (trees_of xs)
items_told e xs h = children (held_part array_of e) xs (sym (held_items e) ∙ h)

-- ---- a content written over a held value

is_held : {A : Type 0} (part : Tree → Option A) (e : End) (a : A) → held_part part e ≡ Some a → (site : Site) × (v : Tree) × (e ≡ held site v)
is_held part (held site v) a h = (site, v, refl)
is_held part (stuck v) a h = cc
is_held part closed a h = cc

no_holder : (c : Content) (v : Tree) → cell_of (made c) ≡ None → cell_of (with_content c v) ≡ None
no_holder (leaf l) (node d g m) e = refl
no_holder (branch k ts) (node d g m) e = refl
no_holder (fields fs) (node d g m) e = refl
no_holder (holder c) (node d g m) e = cc

-- a content that isn't a holder is held after it is written over a held value
content_written : {A B : Type 0} (part : Tree → Option A) (now : Tree → Option B) (s : List Cell) (t : Tree) (a : A) (c : Content) (b : B)
    → cell_of (made c) ≡ None → ((v : Tree) → now (with_content c v) ≡ Some b) → held_part part (end s [] t) ≡ Some a → held_part now (end_after (with_content c) s t) ≡ Some b
content_written part now s t a c b none has h =
    let here = is_held part (end s [] t) a h in
    ap (held_part now) (end_written s t here.1 (with_content c) here.0 here.2 (no_holder c here.1 none)) ∙ has here.1

pub items_written : (s : List Cell) (t : Tree) (xs ys : List Tree) → held_part items_of (end s [] t) ≡ Some xs → held_part items_of (end_after (with_items ys) s t) ≡ Some ys
items_written s t xs ys h = content_written items_of items_of s t xs (branch array (trees_of ys)) ys refl has h
  where
    has : (v : Tree) → items_of (with_items ys v) ≡ Some ys
    has (node c g m) = ap Some (items_back ys)

pub rows_written : (s : List Cell) (t : Tree) (rs qs : Rows) → held_part map_of (end s [] t) ≡ Some (fields_of rs) → held_part map_of (end_after (with_rows qs) s t) ≡ Some (fields_of qs)
rows_written s t rs qs h = content_written map_of map_of s t (fields_of rs) (fields (fields_of qs)) (fields_of qs) refl has h
  where
    has : (v : Tree) → map_of (with_rows qs v) ≡ Some (fields_of qs)
    has (node c g m) = refl

-- ---- keys as characters and as bytes

alike : (a b : Bool) → (a ≡ true → b ≡ true) → (b ≡ true → a ≡ true) → a ≡ b
alike true b f g = sym (f refl)
alike false true f g = g refl
alike false false f g = refl

-- texts are equal if their characters are
pub same_chars : (q k : List ℕ) → IsUtf8 q → IsUtf8 k → bytes_eq (chars q) (chars k) ≡ is_eq (bytes_cmp q k)
same_chars q k u w =
    let spelt = bytes_eq-Decides (chars q) (chars k) in
    let told = bytes_eq-Decides q k in
    alike (bytes_eq (chars q) (chars k)) (bytes_eq q k) (λ e. told.1 (sym (encodes-chars q u) ∙ ap encode_utf8_all (spelt.0 e) ∙ encodes-chars k w)) (λ e. spelt.1 (ap chars (told.0 e)))
    ∙ sym (is_eq-slice_cmp q k)

pub found : (rs : Rows) (q : List ℕ) → AreTexts rs → IsUtf8 q → field_at (chars q) (fields_of rs) ≡ lookup (is_at (bytes_cmp q)) rs
found [] q texts u = refl
found (r ∷ rs) q texts u =
    rw (same_chars q r.0 u (All-head IsUtf8 r.0 (keys_of rs) texts), found rs q (All-tail IsUtf8 r.0 (keys_of rs) texts) u) refl

held_key : (k : List ℕ) (e : End) (rs : Rows) → held_part map_of e ≡ Some (fields_of rs) → held_part (map_get k) e ≡ field_at k (fields_of rs)
held_key k (held site t) rs h = rw h refl
held_key k (stuck t) rs h = cc
held_key k closed rs h = cc

pub key_found : (e : End) (rs : Rows) (q : List ℕ) → AreTexts rs → IsUtf8 q → held_part map_of e ≡ Some (fields_of rs) → held_part (map_get (chars q)) e ≡ lookup (is_at (bytes_cmp q)) rs
key_found e rs q texts u h = held_key (chars q) e rs h ∙ found rs q texts u

-- ---- writing a key of a held map

same_key : (k q : List ℕ) → is_eq (bytes_cmp k q) ≡ true → k ≡ q
same_key k q e = (bytes_eq-Decides k q).0 (sym (is_eq-slice_cmp k q) ∙ e)

other_key : (k q : List ℕ) → (q ≡ k → ⊥) → is_eq (bytes_cmp q k) ≡ false
other_key k q apart = is_eq-slice_cmp q k ∙ off (bytes_eq q k) (bytes_eq-Decides q k).0
  where
    off : (b : Bool) → (b ≡ true → q ≡ k) → b ≡ false
    off true h = absurd (apart (h refl))
    off false h = refl

own_key : (k : List ℕ) → is_eq (bytes_cmp k k) ≡ true
own_key k = is_eq-slice_cmp k k ∙ (bytes_eq-Decides k k).1 refl

flips : (k q : List ℕ) → is_eq (bytes_cmp k q) ≡ is_eq (bytes_cmp q k)
flips k q = alike (is_eq (bytes_cmp k q)) (is_eq (bytes_cmp q k)) (λ e. rw (same_key k q e) (own_key q)) (λ e. rw (same_key q k e) (own_key k))

-- the test of a key distinguishes it from the others
one_key : (k x y : List ℕ) → is_at (bytes_cmp k) x ≡ true → is_at (bytes_cmp k) y ≡ is_eq (bytes_cmp x y)
one_key k x y e = ap (λ z. is_eq (bytes_cmp z y)) (same_key k x e)

module _ (s : List Cell) (t : Tree) (rs : Rows) (k : List ℕ) (texts : AreTexts rs) (text : IsUtf8 k) (has : held_part map_of (end s [] t) ≡ Some (fields_of rs)) where
  -- other rows, with w at the key, and the old value at each other key
  becomes : (qs : Rows) (w : Option Tree) → AreTexts qs → ((q : List ℕ) → lookup (is_at (bytes_cmp q)) qs ≡ cond (is_eq (bytes_cmp q k)) w (lookup (is_at (bytes_cmp q)) rs))
      → KeyBecomes k w (end s [] t) (end_after (with_rows qs) s t)
  becomes qs w spelt finds =
      let now = rows_written s t rs qs has in (
        key_found (end_after (with_rows qs) s t) qs k spelt text now ∙ finds k ∙ ap (λ b. cond b w (lookup (is_at (bytes_cmp k)) rs)) (own_key k),
        λ q u apart. key_found (end_after (with_rows qs) s t) qs q spelt u now ∙ finds q ∙ ap (λ b. cond b w (lookup (is_at (bytes_cmp q)) rs)) (other_key k q apart) ∙ sym (key_found (end s [] t) rs q texts u has),
      )

  pub key_inserted : (v : Tree) → KeyBecomes k (Some v) (end s [] t) (end_after (with_rows (insert_entry bytes_cmp rs k v)) s t)
  key_inserted v = becomes (insert_entry bytes_cmp rs k v) (Some v) (All-keys-insert_entry bytes_cmp k v IsUtf8 rs texts text) (λ q. found_inserted nat_list_cmp_total q k v rs)

  pub key_changed : (v : Tree) → IsSome (lookup (is_at (bytes_cmp k)) rs) → KeyBecomes k (Some v) (end s [] t) (end_after (with_rows (set_value (is_at (bytes_cmp k)) rs v)) s t)
  key_changed v there =
      becomes (set_value (is_at (bytes_cmp k)) rs v) (Some v) (subst (All IsUtf8) (sym (keys-set_value (is_at (bytes_cmp k)) rs v)) texts)
      (λ q. lookup-set_value (eq_by_cmp_equiv nat_list_cmp_total) (is_at (bytes_cmp k)) (one_key k) q v rs there ∙ ap (λ b. cond b (Some v) (lookup (is_at (bytes_cmp q)) rs)) (flips k q))

  pub key_removed : AreRising rs → KeyBecomes k None (end s [] t) (end_after (with_rows (remove_entry (is_at (bytes_cmp k)) rs)) s t)
  key_removed rising =
      becomes (remove_entry (is_at (bytes_cmp k)) rs) None (All-map-remove_entry (is_at (bytes_cmp k)) (λ e. e.0) IsUtf8 rs texts)
      (λ q. lookup-remove_entry (eq_by_cmp_equiv nat_list_cmp_total) (is_at (bytes_cmp k)) (one_key k) q rs (IsDistinct-from_sorted bytes_cmp (keys_of rs) rising) ∙ ap (λ b. cond b None (lookup (is_at (bytes_cmp q)) rs)) (flips k q))
