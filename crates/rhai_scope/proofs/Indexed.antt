-- An index, after entries are added or removed.
use Rattle.std.proofs.Common.{◌≡◌, ℕ, suc, ◌+◌, ◌-◌, ◌<◌, ◌≤◌, nat_eq, List, [], ◌∷◌, ◌++◌, length, take, drop, Option, Some, None, option_map, option_and_then, refl, sym, ap, ◌∙◌, subst, arith}
use Rattle.std.proofs.lemmas.List.{length-append, length-map, length-take, length-take-le, map-append, take-append-drop, take-append-le, take-map, take-take, take_all}
use Rattle.std.proofs.Math.Seq.{take-add, take-append-add}
use Rattle.std.specs.Cmp.Lexicographic.{pointwise}
use Rattle.std.specs.Prelude.{OnOk, OnErr}
use Rattle.std.specs.Str.{IsUtf8, chars}
use Rattle.std.specs.declared.result.Result.{Result}
use Rattle.std.specs.declared.result.Result.TheVariants.{Ok, Err}
use Rattle.rhai_scope.specs.Entry.{Entry}
use Rattle.rhai_scope.specs.Index.{most_walked, IsIndexOf, names_of}
use Rattle.rhai_scope.specs.Lookup.{later_or_here, last_position}
use Rattle.rhai_value.specs.Reach.{trues_from}
use Rattle.rhai_scope.specs.NameIndex.{listed, unless_empty, last_item, are_named, ListsNames}
use Rattle.rhai_scope.specs.declared.index.Index.{Index}
use Rattle.rhai_scope.specs.declared.name_index.NameIndex.{NameIndex}
use Rattle.rhai_scope.proofs.LastTrue.{last_more}

-- a fact that holds anyway holds after an error
pub whatever : {T E P : Type 0} (r : Result T E) → P → OnErr r P
whatever (Ok x) p = tt
whatever (Err e) p = p

-- a fact that holds after both holds
pub either : {T E P : Type 0} (r : Result T E) → OnOk r P → OnErr r P → P
either (Ok x) ok err = ok
either (Err e) ok err = err

-- ---- the last entry of a name

last_named : (i : ℕ) (name : List ℕ) (es : List Entry) → last_item (trues_from i (are_named (names_of es) name)) ≡ option_map (λ k. i + k) (last_position name es)
last_named i name [] = refl
last_named i name (e ∷ es) = last_more i (pointwise nat_eq e.name name) (are_named (names_of es) name) (last_position name es) (last_named (suc i) name es)

unlisted : (ps : List ℕ) → option_and_then last_item (unless_empty ps) ≡ last_item ps
unlisted [] = refl
unlisted (p ∷ ps) = refl

from_none : (o : Option ℕ) → option_map (λ k. 0 + k) o ≡ o
from_none None = refl
from_none (Some k) = let same_place : 0 + k ≡ k = omega arith in ap Some same_place

pub last_listed : (p : NameIndex) (text : List ℕ) (es : List Entry) → ListsNames p (names_of es) → IsUtf8 text → option_and_then last_item (listed p text) ≡ last_position (chars text) es
last_listed p text es lists u =
    ap (option_and_then last_item) (lists.places text u)
    ∙ unlisted (trues_from 0 (are_named (names_of es) (chars text)))
    ∙ last_named 0 (chars text) es
    ∙ from_none (last_position (chars text) es)

-- one of the later entries has the name, or only one of the first may have it
pub later : (name : List ℕ) (es fs : List Entry) (k : ℕ) → last_position name fs ≡ Some k → last_position name (es ++ fs) ≡ Some (length es + k)
later name [] fs k h = let same_place : k ≡ 0 + k = omega arith in h ∙ ap Some same_place
later name (e ∷ es) fs k h =
    let more : suc (length es + k) ≡ length (e ∷ es) + k = omega arith in
    ap (λ o. later_or_here o (pointwise nat_eq e.name name)) (later name es fs k h) ∙ ap Some more

earlier : (name : List ℕ) (es fs : List Entry) → last_position name fs ≡ None → last_position name (es ++ fs) ≡ last_position name es
earlier name [] fs h = h
earlier name (e ∷ es) fs h = ap (λ o. later_or_here o (pointwise nat_eq e.name name)) (earlier name es fs h)

pub within : (x : Index) (es : List Entry) → IsIndexOf x (names_of es) → x.indexed ≤ length es
within x es index = subst (λ n. x.indexed ≤ n) (length-map es (λ e. e.name)) index.within

pub few : (x : Index) (es : List Entry) → IsIndexOf x (names_of es) → length es ≤ x.indexed + most_walked
few x es index = subst (λ n. n ≤ x.indexed + most_walked) (length-map es (λ e. e.name)) index.few

-- the first entries
first_names : (x : Index) (es : List Entry) → IsIndexOf x (names_of es) → ListsNames x.places (names_of (take x.indexed es))
first_names x es index = subst (ListsNames x.places) (take-map (λ e. e.name) x.indexed es) index.lists

-- the result of the lists if none of the other entries has the name
pub found_listed : (x : Index) (es : List Entry) (text : List ℕ) → IsIndexOf x (names_of es) → IsUtf8 text → last_position (chars text) (drop x.indexed es) ≡ None
    → option_and_then last_item (listed x.places text) ≡ last_position (chars text) es
found_listed x es text index u none =
    let name = chars text in
    last_listed x.places text (take x.indexed es) (first_names x es index) u
    ∙ sym (ap (last_position name) (sym (take-append-drop x.indexed es)) ∙ earlier name (take x.indexed es) (drop x.indexed es) none)

-- ---- adding names

abbrev pub index : ℕ → NameIndex → Index
index n p = record { indexed = n; places = p }

module _ (n : ℕ) (p : NameIndex) (ns : List (List ℕ)) where
  -- and not indexing them
  pub walked_with : (ms : List (List ℕ)) → IsIndexOf (index n p) ns → length ns + length ms ≤ n + most_walked → IsIndexOf (index n p) (ns ++ ms)
  walked_with ms x h =
      let long = length-append ns ms in
      record { within = omega (arith, x.within); few = omega arith; lists = subst (ListsNames p) (sym (take-append-le n ns ms x.within)) x.lists }

  -- all are indexed
  pub all_listed : n ≡ length ns → ListsNames p ns → IsIndexOf (index n p) ns
  all_listed all lists = record { within = omega arith; few = omega arith; lists = subst (ListsNames p) (sym (take_all n ns (omega arith))) lists }

  -- all but the last few are indexed
  pub listed_with : (ms : List (List ℕ)) → n ≡ length ns → ListsNames p ns → length ms ≤ most_walked → IsIndexOf (index n p) (ns ++ ms)
  listed_with ms all lists h = walked_with ms (all_listed all lists) (omega arith)

-- the names of some first entries, and of the others up to an index
pub first_and_others : (es : List Entry) (i j : ℕ) → i ≤ j → names_of (take i es) ++ names_of (take (j - i) (drop i es)) ≡ names_of (take j es)
first_and_others es i j h =
    let all : i + (j - i) ≡ j = omega arith in
    sym (map-append (λ e. e.name) (take i es) (take (j - i) (drop i es))) ∙ ap names_of (sym (take-add i (j - i) es) ∙ ap (λ k. take k es) all)

module _ (x : Index) (es : List Entry) (indexed : IsIndexOf x (names_of es)) where
  pub listed_first : ListsNames x.places (names_of (take x.indexed es))
  listed_first = first_names x es indexed

  pub length_first : length (names_of (take x.indexed es)) ≡ x.indexed
  length_first = length-map (take x.indexed es) (λ e. e.name) ∙ length-take-le x.indexed es (within x es indexed)

  -- those that weren't indexed are
  pub listed_others : (p : NameIndex) → ListsNames p (names_of (take x.indexed es) ++ names_of (take (length es - x.indexed) (drop x.indexed es))) → ListsNames p (names_of es)
  listed_others p lists =
      subst (ListsNames p) (first_and_others es x.indexed (length es) (within x es indexed) ∙ ap names_of (take_all (length es) es (omega arith))) lists

  -- only the first ones are still indexed
  pub first_again : (p : NameIndex) → ListsNames p (names_of (take x.indexed es)) → IsIndexOf (index x.indexed p) (names_of es)
  first_again p lists = record { within = indexed.within; few = indexed.few; lists = subst (ListsNames p) (sym (take-map (λ e. e.name) x.indexed es)) lists }

  -- ---- removing entries from the end

  pub rewound : (size : ℕ) → x.indexed ≤ size → IsIndexOf x (names_of (take size es))
  rewound size h =
      let all = length-map es (λ e. e.name) in
      let cut = length-map (take size es) (λ e. e.name) in
      let short = length-take size es in
      let inside = indexed.within in
      let walked = indexed.few in
      record {
        within = omega arith;
        few = omega arith;
        lists = subst (ListsNames x.places) (sym (take-map (λ e. e.name) x.indexed (take size es) ∙ ap names_of (take-take x.indexed size es h))) (first_names x es indexed);
      }

  pub length_kept : (size : ℕ) → size ≤ x.indexed → size ≡ length (names_of (take size es))
  length_kept size h = let inside = within x es indexed in sym (length-map (take size es) (λ e. e.name) ∙ length-take-le size es (omega arith))

  pub unlisted_end : (size : ℕ) → size ≤ x.indexed → ListsNames x.places (names_of (take size es) ++ names_of (take (x.indexed - size) (drop size es)))
  unlisted_end size h = subst (ListsNames x.places) (sym (first_and_others es size x.indexed h)) (first_names x es indexed)

-- ---- removing a name from the middle

module _ (p r : NameIndex) (w place : ℕ) (ms ns : List (List ℕ)) (n : List ℕ) (is : length ms ≡ place) (x : IsIndexOf (index w p) (ms ++ n ∷ ns)) where
  pub walked_gone : w ≤ place → IsIndexOf (index w p) (ms ++ ns)
  walked_gone h =
      let long = length-append ms (n ∷ ns) in
      let short = length-append ms ns in
      let few = x.few in
      let below : w ≤ length ms = omega arith in
      record {
        within = omega arith;
        few = omega arith;
        lists = subst (ListsNames p) (take-append-le w ms (n ∷ ns) below ∙ sym (take-append-le w ms ns below)) x.lists;
      }

  pub listed_gone : place < w → ((ks : List (List ℕ)) → ListsNames p (ms ++ n ∷ ks) → ListsNames r (ms ++ ks)) → IsIndexOf (index (w - 1) r) (ms ++ ns)
  listed_gone h gone =
      let k = w - 1 - length ms in
      let long = length-append ms (n ∷ ns) in
      let short = length-append ms ns in
      let inside = x.within in
      let few = x.few in
      let with_it : w ≡ length ms + suc k = omega arith in
      let without : w - 1 ≡ length ms + k = omega arith in
      record {
        within = omega arith;
        few = omega arith;
        lists = subst (ListsNames r) (sym (ap (λ i. take i (ms ++ ns)) without ∙ take-append-add ms ns k))
            (gone (take k ns) (subst (ListsNames p) (ap (λ i. take i (ms ++ n ∷ ns)) with_it ∙ take-append-add ms (n ∷ ns) (suc k)) x.lists));
      }
