-- The steps of a search for plain values.
use Rattle.std.proofs.Common.{◌≡◌, ℕ, ℤ, ◌&&◌, ◌||◌, ◌⊎◌, not, nat_eq, Bool, true, false, List, ◌∷◌, Option, Some, None, IfSome, IfOk, Result, Ok, Err, is_some, refl, sym, ap, ap₂, ◌∙◌, subst, subst₂, inl, inr, eq-eqb}
use Rattle.std.proofs.lemmas.Bool.{cases_eq}
use Rattle.rhai_value.specs.declared.value.access_mode.AccessMode.{AccessMode}
use Rattle.rhai_value.specs.declared.cells.store.Cell.{Cell}
use Rattle.rhai_value.specs.Tree.{Tree, node, Leaf, Kind, leaf, branch, fields, holder, Trees, no_trees, tree_then, Fields, no_fields, field_then, cell_of}
use Rattle.rhai_value.specs.Store.{at}
use Rattle.rhai_value.specs.Walk.{is_open, opened, visit_of, entry}
use Rattle.rhai_value.proofs.ForCallers.{each_weaker}
use Rattle.rhai_show.specs.Plain.{plain}
use Rattle.rhai_show.specs.Clean.{are_plain, values_in, has_left, Apart, Names, AllName, FieldsName, Clean, Searched}
use Rattle.rhai_show.proofs.Plains.{plain-opened}
use Rattle.rhai_show.proofs.Cleans.{named_plain, clean_same, clean_more, unequal}

-- if both tests hold, the first does
first_of_both : (a b : Bool) → (a && b) ≡ true → a ≡ true
first_of_both true b e = refl
first_of_both false b e = cc

second_of_both : (a b : Bool) → (a && b) ≡ true → b ≡ true
second_of_both true b e = e
second_of_both false b e = cc

left_is : (a b : Bool) → a ≡ true → b ≡ false → (a && not b) ≡ true
left_is true false e f = refl
left_is true true e f = cc
left_is false b e f = cc

not_left : (a b : Bool) → b ≡ true → (a && not b) ≡ false
not_left true true e = refl
not_left false true e = refl
not_left a false e = cc

not_seen : (a b : Bool) → a ≡ false → (a && not b) ≡ false
not_seen false b e = refl
not_seen true b e = cc

not_open : (b : Bool) → not b ≡ true → b ≡ false
not_open false e = refl
not_open true e = cc

-- a cell that is open hasn't been left
pub left_apart : (seen path : List ℕ) → Apart path (has_left seen path)
left_apart seen path c o = not_left (is_open c seen) (is_open c path) o

left_more : (seen later path : List ℕ) → ((c : ℕ) → is_open c seen ≡ true → is_open c later ≡ true) → (c : ℕ) → has_left seen path c ≡ true → has_left later path c ≡ true
left_more seen later path more c h = left_is _ _ (more c (first_of_both _ _ h)) (not_open _ (second_of_both _ _ h))

-- no value is left
pub searched_none : (s : List Cell) (path seen : List ℕ) → Clean s (has_left seen path) → Searched s path seen seen no_trees
searched_none s path seen clean = record { clean = clean; more = λ c h. h; named = tt }

-- a leaf, and a value with children
pub searched_leaf : (s : List Cell) (path seen : List ℕ) (t : Tree) → Clean s (has_left seen path) → ((d : ℕ → Bool) → Names d t) → Searched s path seen seen (tree_then t no_trees)
searched_leaf s path seen t clean named = record { clean = clean; more = λ c h. h; named = (named _, tt) }

pub searched_branch : (s : List Cell) (path seen later : List ℕ) (t : Tree) (ts : Trees) → ((d : ℕ → Bool) → AllName d ts → Names d t) → Searched s path seen later ts → Searched s path seen later (tree_then t no_trees)
searched_branch s path seen later t ts named h = record { clean = h.clean; more = h.more; named = (named _ h.named, tt) }

-- one value, and then the others
pub searched_more : (s : List Cell) (path seen mid later : List ℕ) (t : Tree) (ts : Trees) → Searched s path seen mid (tree_then t no_trees) → Searched s path mid later ts → Searched s path seen later (tree_then t ts)
searched_more s path seen mid later t ts h k = record {
  clean = k.clean;
  more = λ c o. k.more c (h.more c o);
  named = (each_weaker (λ c. has_left mid path c ≡ true) (λ c. has_left later path c ≡ true) (left_more mid later path k.more) t h.named.0, k.named);
}

-- A search through children has reached these: nothing wrong so far.
pub record SoFar (s : List Cell) (path first seen : List ℕ) (rest all : Trees) : Type 0 where
  pub clean : Clean s (has_left seen path)
  pub answer : are_plain s path rest ≡ are_plain s path all
  pub searched : (later : List ℕ) → Searched s path seen later rest → Searched s path first later all

pub so_far_starts : (s : List Cell) (path seen : List ℕ) (ts all : Trees) → ts ≡ all → Clean s (has_left seen path) → SoFar s path seen seen ts all
so_far_starts s path seen ts all e clean = rw e (record { clean = clean; answer = refl; searched = λ later h. h })

and_true : (a b : Bool) → a ≡ true → b ≡ (a && b)
and_true true b e = refl
and_true false b e = cc

and_false : (a b : Bool) → a ≡ false → (a && b) ≡ false
and_false false b e = refl
and_false true b e = cc

module _ (s : List Cell) (path first seen : List ℕ) (t : Tree) (rest left all : Trees) (is : rest ≡ tree_then t left) (h : SoFar s path first seen rest all) where
  pub so_far_turns : (later : List ℕ) → true ≡ is_some (plain s path t) → Searched s path seen later (tree_then t no_trees) → SoFar s path first later left all
  so_far_turns later b one = record {
    clean = one.clean;
    answer = and_true (is_some (plain s path t)) (are_plain s path left) (sym b) ∙ ap (are_plain s path) (sym is) ∙ h.answer;
    searched = λ end k. h.searched end (rw is (searched_more s path seen later end t left one k));
  }

  pub so_far_stops : false ≡ is_some (plain s path t) → false ≡ are_plain s path all
  so_far_stops b = sym (sym h.answer ∙ ap (are_plain s path) is ∙ and_false (is_some (plain s path t)) (are_plain s path left) (sym b))

module _ (s : List Cell) (path first seen : List ℕ) (rest all : Trees) (is : rest ≡ no_trees) (h : SoFar s path first seen rest all) where
  pub so_far_answer : true ≡ are_plain s path all
  so_far_answer = sym (sym h.answer ∙ ap (are_plain s path) is)

  pub so_far_ends : Searched s path first seen all
  so_far_ends = h.searched seen (rw is (searched_none s path seen h.clean))

opened_of : (o : Option Tree) (b : Bool) (t : Tree) → Some t ≡ opened (visit_of o b) → (o ≡ Some t) × (b ≡ false)
opened_of None b t e = cc
opened_of (Some u) true t e = cc
opened_of (Some u) false t e = (cc, refl)

-- a holder whose cell opens
module _ (s : List Cell) (path seen : List ℕ) (c : ℕ) (g : ℤ) (m : AccessMode) (t : Tree) (is : Some t ≡ entry s path (node (holder c) g m)) where
  is_there : (at s c ≡ Some t) × (is_open c path ≡ false)
  is_there = opened_of (at s c) (is_open c path) t is

  none_seen : (o : Bool) → None ≡ opened (visit_of (Some t) o) → o ≡ true
  none_seen true e = refl
  none_seen false e = cc

  is_seen : None ≡ entry s seen (node (holder c) g m) → is_open c seen ≡ true
  is_seen e = none_seen (is_open c seen) (e ∙ ap (λ o. opened (visit_of o (is_open c seen))) is_there.0)

  -- its cell was left before, so it isn't searched again
  pub again_searched : None ≡ entry s seen (node (holder c) g m) → Clean s (has_left seen path) → Searched s path seen seen (tree_then (node (holder c) g m) no_trees)
  again_searched e clean = record { clean = clean; more = λ x h. h; named = (left_is _ _ (is_seen e) is_there.1, tt) }

  pub again_plain : None ≡ entry s seen (node (holder c) g m) → Clean s (has_left seen path) → true ≡ is_some (plain s path (node (holder c) g m))
  again_plain e clean = sym (named_plain s (has_left seen path) clean path (left_apart seen path) (node (holder c) g m) (left_is _ _ (is_seen e) is_there.1))

  -- its cell is new
  is_new : (u : Tree) → Some u ≡ entry s seen (node (holder c) g m) → is_open c seen ≡ false
  is_new u e = (opened_of (at s c) (is_open c seen) u e).1

  same_left : is_open c seen ≡ false → (x : ℕ) → has_left seen path x ≡ has_left (c ∷ seen) (c ∷ path) x
  same_left new x = elim (cases_eq x c) [
    | inl e ↦
        let here : is_open x (c ∷ path) ≡ true = ap (λ b. b || is_open x path) (eq-eqb x c e) in
        not_seen (is_open x seen) (is_open x path) (ap (λ y. is_open y seen) e ∙ new) ∙ sym (not_left (is_open x (c ∷ seen)) (is_open x (c ∷ path)) here)
    | inr away ↦
        let off = unequal x c away in
        sym (ap₂ (λ a b. (a || is_open x seen) && not (b || is_open x path)) off off)
  ]

  pub inside_clean : (u : Tree) → Some u ≡ entry s seen (node (holder c) g m) → Clean s (has_left seen path) → Clean s (has_left (c ∷ seen) (c ∷ path))
  inside_clean u e clean = clean_same s (has_left seen path) (has_left (c ∷ seen) (c ∷ path)) (same_left (is_new u e)) clean

  closes : (later : List ℕ) (x : ℕ) → has_left later (c ∷ path) x ≡ true → has_left later path x ≡ true
  closes later x h = left_is _ _ (first_of_both _ _ h) (or_off (nat_eq x c) (is_open x path) (not_open _ (second_of_both _ _ h)))
    where
      or_off : (a b : Bool) → (a || b) ≡ false → b ≡ false
      or_off true b e = cc
      or_off false b e = e

  only : (later : List ℕ) (x : ℕ) → has_left later path x ≡ true → (x ≡ c) ⊎ (has_left later (c ∷ path) x ≡ true)
  only later x h = elim (cases_eq x c) [
    | inl e ↦ inl e
    | inr away ↦ inr (ap (λ b. is_open x later && not (b || is_open x path)) (unequal x c away) ∙ h)
  ]

  -- it closes again, and its cell has been left
  pub inside_searched : (later : List ℕ) → Searched s (c ∷ path) (c ∷ seen) later (tree_then t no_trees) → Searched s path seen later (tree_then (node (holder c) g m) no_trees)
  inside_searched later h =
      let here : is_open c (c ∷ seen) ≡ true = ap (λ b. b || is_open c seen) (eq-eqb c c refl) in
      let open_now : is_open c (c ∷ path) ≡ true = ap (λ b. b || is_open c path) (eq-eqb c c refl) in
      let own : has_left later path c ≡ true = left_is _ _ (h.more c here) is_there.1 in
      record {
        clean = clean_more s (has_left later (c ∷ path)) (has_left later path) c t h.clean is_there.0 (not_left (is_open c later) (is_open c (c ∷ path)) open_now) h.named.0 (closes later) (only later) own;
        more = λ x o. h.more x (or_on (nat_eq x c) (is_open x seen) o);
        named = (own, tt);
      }
    where
      or_on : (a b : Bool) → b ≡ true → (a || b) ≡ true
      or_on true b e = refl
      or_on false b e = e

-- the same for a value that is a holder, with the path and the seen cells given by what was opened
module _ (s : List Cell) (path next seen : List ℕ) (v t : Tree) (c : ℕ) (g : ℤ) (m : AccessMode) (e : v ≡ node (holder c) g m) (is : Some t ≡ entry s path v) (on : IfSome (cell_of v) (λ k. next ≡ k ∷ path)) (clean : Clean s (has_left seen path)) where
  here : Some t ≡ entry s path (node (holder c) g m)
  here = is ∙ ap (entry s path) e

  next_is : next ≡ c ∷ path
  next_is = subst (λ x. IfSome (cell_of x) (λ k. next ≡ k ∷ path)) e on

  pub again_answers : None ≡ entry s seen v → true ≡ is_some (plain s path v)
  again_answers none = rw e (again_plain s path seen c g m t here (none ∙ ap (entry s seen) e) clean)

  pub again_leaves : (after : List ℕ) → None ≡ entry s seen v → after ≡ seen → Searched s path seen after (tree_then v no_trees)
  again_leaves after none same = rw (same, e) (again_searched s path seen c g m t here (none ∙ ap (entry s seen) e) clean)

  module _ (after : List ℕ) (u : Tree) (new : Some u ≡ entry s seen v) (in_seen : IfSome (cell_of v) (λ k. after ≡ k ∷ seen)) where
    after_is : after ≡ c ∷ seen
    after_is = subst (λ x. IfSome (cell_of x) (λ k. after ≡ k ∷ seen)) e in_seen

    pub inside_requires : Clean s (has_left after next)
    inside_requires = rw (next_is, after_is) (inside_clean s path seen c g m t here u (new ∙ ap (entry s seen) e) clean)

    pub inside_answers : (b : Bool) → b ≡ is_some (plain s next t) → b ≡ is_some (plain s path v)
    inside_answers b h = h ∙ ap (λ p. is_some (plain s p t)) next_is ∙ sym (ap is_some (plain-opened s path v t c g m e is))

    pub inside_leaves : (later : List ℕ) → Searched s next after later (tree_then t no_trees) → Searched s path seen later (tree_then v no_trees)
    inside_leaves later h =
        let told : Searched s (c ∷ path) (c ∷ seen) later (tree_then t no_trees) = subst₂ (λ p q. Searched s p q later (tree_then t no_trees)) next_is after_is h in
        rw e (inside_searched s path seen c g m t here later told)

-- children and leaves
pub branch_leaves : (s : List Cell) (path seen later : List ℕ) (v : Tree) (k : Kind) (ts : Trees) (g : ℤ) (m : AccessMode) → v ≡ node (branch k ts) g m → Searched s path seen later ts → Searched s path seen later (tree_then v no_trees)
branch_leaves s path seen later v k ts g m e h = rw e (searched_branch s path seen later (node (branch k ts) g m) ts (λ d n. n) h)

named_values : (d : ℕ → Bool) (fs : Fields) → AllName d (values_in fs) → FieldsName d fs
named_values d no_fields n = tt
named_values d (field_then k t fs) n = (n.0, named_values d fs n.1)

pub map_leaves : (s : List Cell) (path seen later : List ℕ) (v : Tree) (fs : Fields) (g : ℤ) (m : AccessMode) → v ≡ node (fields fs) g m → Searched s path seen later (values_in fs) → Searched s path seen later (tree_then v no_trees)
map_leaves s path seen later v fs g m e h = rw e (searched_branch s path seen later (node (fields fs) g m) (values_in fs) (λ d n. named_values d fs n) h)

pub leaf_leaves : (s : List Cell) (path seen : List ℕ) (v : Tree) (l : Leaf) (g : ℤ) (m : AccessMode) → v ≡ node (leaf l) g m → Clean s (has_left seen path) → Searched s path seen seen (tree_then v no_trees)
leaf_leaves s path seen v l g m e clean = rw e (searched_leaf s path seen (node (leaf l) g m) clean (λ d. tt))

-- an equivalent answer
pub answered : {E : Type 0} (r : Result Bool E) (a b : Bool) → a ≡ b → IfOk r (λ x. x ≡ b) → IfOk r (λ x. x ≡ a)
answered r a b e h = rw e h

-- an equivalent search
pub searched_by : {E : Type 0} (r : Result Bool E) (P Q : Type 0) → (P → Q) → IfOk r (λ b. b ≡ true → P) → IfOk r (λ b. b ≡ true → Q)
searched_by (Ok b) P Q f h = λ yes. f (h yes)
searched_by (Err e) P Q f h = tt
