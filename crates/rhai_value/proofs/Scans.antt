-- Scans: their equation, their steps over lists and maps, and scans that are equal up to a renaming of cells.
use Rattle.std.proofs.Common.{◌≡◌, ℕ, zero, suc, ◌+◌, ◌-◌, ◌≤◌, ◌<◌, List, [], ◌∷◌, ◌++◌, length, set, get_or, take, drop, append_assoc, add-one, refl, sym, ap, ap₂, ◌∙◌, arith}
use Rattle.std.proofs.Math.ListN.{drop_of_length-le}
use Rattle.std.proofs.Math.Seq.{drop-cons}
use Rattle.std.proofs.lemmas.Grind.{take-set_at}
use Rattle.std.proofs.lemmas.List.{append-nil, take_all, take_at}
use Rattle.rhai_value.specs.Rows.{trees_of}
use Rattle.rhai_value.specs.Tree.{Tree, node, Content, leaf, branch, fields, holder, Trees, no_trees, tree_then, Fields, no_fields, field_then, nodes, nodes_content, nodes_trees, nodes_fields}
use Rattle.rhai_value.specs.Scan.{Visiting, AddsNoNodes, tree_before, field_before, each_scanned, fields_scanned, content_scanned, children_scanned, scan_in, scan}

-- visits that agree on small values agree on their children
module _ {S : Type 0} (f h : Visiting S) (n : ℕ) (same : (v : S) (t : Tree) → nodes t ≤ n → f v t ≡ h v t) where
  each_same : (v : S) (ts : Trees) → nodes_trees ts ≤ n → each_scanned f v ts ≡ each_scanned h v ts
  each_same v no_trees few = refl
  each_same v (tree_then t ts) few =
      let e = same v t (omega arith) in
      ap₂ tree_before e (ap (λ x. each_scanned f x.0 ts) e ∙ each_same (h v t).0 ts (omega arith))

  fields_same : (v : S) (fs : Fields) → nodes_fields fs ≤ n → fields_scanned f v fs ≡ fields_scanned h v fs
  fields_same v no_fields few = refl
  fields_same v (field_then k t fs) few =
      let e = same v t (omega arith) in
      ap₂ (field_before k) e (ap (λ x. fields_scanned f x.0 fs) e ∙ fields_same (h v t).0 fs (omega arith))

  content_same : (v : S) (c : Content) → nodes_content c ≤ n → content_scanned f v c ≡ content_scanned h v c
  content_same v (leaf l) few = refl
  content_same v (branch k ts) few = ap (λ x. (x.0, branch k x.1)) (each_same v ts few)
  content_same v (fields fs) few = ap (λ x. (x.0, fields x.1)) (fields_same v fs few)
  content_same v (holder c) few = refl

  children_same : (v : S) (t : Tree) → nodes t ≤ suc n → children_scanned f v t ≡ children_scanned h v t
  children_same v (node c g m) few = ap (λ x. (x.0, node x.1 g m)) (content_same v c (omega arith))

module _ {S : Type 0} (f : Visiting S) (adds : AddsNoNodes f) where
  -- if the bound suffices, one more changes nothing
  enough : (n : ℕ) (v : S) (t : Tree) → nodes t ≤ n → scan_in f n v t ≡ scan_in f (suc n) v t
  enough zero v (node c g m) few = absurd (omega arith)
  enough (suc n) v t few = children_same (scan_in f n) (scan_in f (suc n)) n (enough n) (f v t).0 (f v t).1 (omega (arith, adds v t))

  enough_by : (k : ℕ) (v : S) (t : Tree) → scan_in f (nodes t) v t ≡ scan_in f (k + nodes t) v t
  enough_by zero v t = ap (λ n. scan_in f n v t) (omega arith)
  enough_by (suc k) v t =
      let e : suc (k + nodes t) ≡ suc k + nodes t = omega arith in
      enough_by k v t ∙ enough (k + nodes t) v t (omega arith) ∙ ap (λ n. scan_in f n v t) e

  bounded : (n : ℕ) (v : S) (t : Tree) → nodes t ≤ n → scan_in f n v t ≡ scan f v t
  unfolding scan
  bounded n v t few =
      let e : n - nodes t + nodes t ≡ n = omega arith in
      ap (λ k. scan_in f k v t) (sym e) ∙ sym (enough_by (n - nodes t) v t)

  -- the value is visited, and then the children of the result: the number of nodes isn't mentioned
  pub scan_opens : (v : S) (t : Tree) → scan f v t ≡ children_scanned (scan f) (f v t).0 (f v t).1
  unfolding scan
  scan_opens v (node c g m) =
      children_same (scan_in f (nodes_content c)) (scan f) (nodes_content c) (bounded (nodes_content c)) (f v (node c g m)).0 (f v (node c g m)).1 (adds v (node c g m))

-- A scan has passed these items: scanning the rest completes the whole.
pub record OnThroughItems {S : Type 0} (f : Visiting S) (first now : S) (all : Trees) (done : List Tree) (rest : Trees) : Type 0 where
  pub ends : (w : S) (us : List Tree) → (w, trees_of us) ≡ each_scanned f now rest → (w, trees_of (done ++ us)) ≡ each_scanned f first all

settled : {A : Type 0} (xs ys : List A) (n : ℕ) → n ≡ length ys → length xs ≡ length ys → take n (xs ++ drop (length xs) ys) ≡ xs
settled xs ys n e long =
    ap₂ (λ k zs. take k (xs ++ zs)) (e ∙ sym long) (drop_of_length-le ys (omega arith)) ∙ take_at xs [] (length xs) refl

-- a list with item i changed: the items after it
pub behind : (xs : List Tree) (i : ℕ) (u : Tree) → i < length xs → drop (i + 1) (set xs i u) ≡ drop (i + 1) xs
behind [] i u l = absurd (omega arith)
behind (x ∷ xs) zero u l = refl
behind (x ∷ xs) (suc i) u l =
    let e : suc i + 1 ≡ suc (i + 1) = omega arith in
    ap (λ k. drop k (x ∷ set xs i u)) e ∙ behind xs i u (omega arith) ∙ ap (λ k. drop k (x ∷ xs)) (sym e)

pub nodes_drop : (xs : List Tree) (i : ℕ) → nodes_trees (trees_of (drop i xs)) ≤ nodes_trees (trees_of xs)
nodes_drop xs zero = omega arith
nodes_drop [] (suc i) = omega arith
nodes_drop (x ∷ xs) (suc i) = omega (arith, nodes_drop xs i)

abbrev head_or : {A : Type 0} → A → List A → A
head_or a [] = a
head_or a (x ∷ xs) = x

module _ {S : Type 0} (f : Visiting S) (first now later : S) where
  -- the scan advances by an item
  module _ (all : Trees) (xs old : List Tree) (i : ℕ) (x u : Tree) (on : OnThroughItems f first now all (take i xs) (trees_of (drop i old))) (rest : drop i xs ≡ drop i old) (lt : i < length xs) (long : length xs ≡ length old) (is : x ≡ get_or xs i x) (did : (later, u) ≡ f now x) where
    this_first : drop i xs ≡ x ∷ drop (i + 1) xs
    this_first = drop-cons xs i x lt ∙ ap₂ (λ y k. y ∷ drop k xs) (sym is) (sym (add-one i))

    old_first : drop i old ≡ get_or old i x ∷ drop (i + 1) old
    old_first = drop-cons old i x (omega arith) ∙ ap (λ k. get_or old i x ∷ drop k old) (sym (add-one i))

    both : x ∷ drop (i + 1) xs ≡ get_or old i x ∷ drop (i + 1) old
    both = sym this_first ∙ rest ∙ old_first

    next : drop i old ≡ x ∷ drop (i + 1) old
    next = old_first ∙ ap (λ y. y ∷ drop (i + 1) old) (ap (head_or x) (sym both))

    pub items_rest : drop (i + 1) (set xs i u) ≡ drop (i + 1) old
    items_rest = behind xs i u lt ∙ ap (drop 1) both

    pub items_on : OnThroughItems f first later all (take (i + 1) (set xs i u)) (trees_of (drop (i + 1) old))
    items_on = record {
      ends = λ w us p.
          let q : (w, tree_then u (trees_of us)) ≡ each_scanned f now (trees_of (drop i old)) =
          ap₂ tree_before did (p ∙ ap (λ a. each_scanned f a.0 (trees_of (drop (i + 1) old))) did) ∙ ap (λ ys. each_scanned f now (trees_of ys)) (sym next) in
          ap (λ ys. (w, trees_of ys)) (ap (λ ys. ys ++ us) (take-set_at xs i (i + 1) u refl lt) ∙ append_assoc (take i xs) (u ∷ []) us) ∙ on.ends w (u ∷ us) q;
    }

  -- the scan has reached the end of the items
  pub items_end : (all : Trees) (xs old : List Tree) (i n : ℕ) → OnThroughItems f first now all (take i xs) (trees_of (drop i old)) → length xs ≡ length old → length xs ≤ i → n ≡ length old
      → (now, trees_of (take n (xs ++ drop (length xs) old))) ≡ each_scanned f first all
  items_end all xs old i n on long le e =
      let none : drop i old ≡ [] = drop_of_length-le old (omega arith) in
      let whole : take i xs ++ [] ≡ xs = append-nil (take i xs) ∙ take_all i xs le in
      ap (λ ys. (now, trees_of ys)) (settled xs old n e long ∙ sym whole) ∙ on.ends now [] (ap (λ ys. each_scanned f now (trees_of ys)) (sym none))

-- a scan begins
pub items_start : {S : Type 0} (f : Visiting S) (first : S) (xs : List Tree) → OnThroughItems f first first (trees_of xs) [] (trees_of xs)
items_start f first xs = record { ends = λ w us p. p }
