-- A search for plain values through the frames of a walk, the innermost first.
use Rattle.std.proofs.Common.{◌≡◌, ℕ, ◌+◌, ◌*◌, ◌≤◌, ◌&&◌, Bool, true, false, List, [], ◌∷◌, is_some, refl, sym, ap, ap₂, ◌∙◌, subst, arith}
use Rattle.rhai_value.specs.declared.cells.store.Cell.{Cell}
use Rattle.rhai_value.specs.Rows.{Rows, trees_of, fields_of}
use Rattle.rhai_value.specs.Tree.{Tree, Fields, no_fields, field_then, no_trees, tree_then}
use Rattle.rhai_show.specs.Clean.{are_plain, values_in, has_left, Clean, HasNoHolder, HaveNoHolders, FieldsHaveNoHolders, Searched}
use Rattle.rhai_show.specs.Plain.{plain}
use Rattle.rhai_show.specs.Rests.{Keyed, items_keyed, rows_keyed, trees_in, closed_by, HasOpen, rest_weight, Level, path_left, HaveOpen}
use Rattle.rhai_show.specs.Weights.{weight}
use Rattle.rhai_show.proofs.Rests.{weight_left}
use Rattle.rhai_show.proofs.Searches.{searched_none, searched_more}

-- values with keys, or without
pub items_trees : (xs : List Tree) → trees_in (items_keyed xs) ≡ trees_of xs
items_trees [] = refl
items_trees (x ∷ xs) = ap (tree_then x) (items_trees xs)

pub rows_trees : (rs : Rows) → trees_in (rows_keyed rs) ≡ values_in (fields_of rs)
rows_trees [] = refl
rows_trees (r ∷ rs) = ap (tree_then r.1) (rows_trees rs)

pub values_free : (fs : Fields) → FieldsHaveNoHolders fs → HaveNoHolders (values_in fs)
values_free no_fields h = tt
values_free (field_then k t fs) h = (h.0, values_free fs h.1)

-- whether all remaining values are plain
abbrev pub answer_left : List Cell → List ℕ → List Level → Bool
answer_left s path [] = true
answer_left s path (l ∷ ls) = are_plain s path (trees_in l.1) && answer_left s (closed_by l.0 path) ls

-- the remaining values contain no holder
abbrev pub NoneLeft : List Level → Type 0
NoneLeft [] = Unit {0}
NoneLeft (l ∷ ls) = HaveNoHolders (trees_in l.1) × NoneLeft ls

-- if the values of each level are searched, so is the whole
abbrev pub Finds : List Cell → Tree → List ℕ → List ℕ → List ℕ → List ℕ → List Level → Type 0
Finds s t first before path seen [] = Searched s first before seen (tree_then t no_trees)
Finds s t first before path seen (l ∷ ls) =
    (later : List ℕ) → Searched s path seen later (trees_in l.1) → Clean s (has_left later (closed_by l.0 path)) × Finds s t first before (closed_by l.0 path) later ls

-- The search is inside a value, and has found no value that isn't plain.
pub record Searching (s : List Cell) (t : Tree) (first before path seen : List ℕ) (ls : List Level) : Type 0 where
  pub path_after : path_left path ls ≡ first
  pub have_open : HaveOpen path ls
  pub clean : Clean s (has_left seen path)
  pub answer : answer_left s path ls ≡ is_some (plain s first t)
  pub found : Finds s t first before path seen ls
  pub free : HasNoHolder t → NoneLeft ls
  pub below : weight_left s path ls ≤ 2 * weight s first t + 1

both_of : (a b c : Bool) → (a && (b && c)) ≡ ((a && b) && c)
both_of true b c = refl
both_of false b c = refl

module _ (s : List Cell) (t : Tree) (first before path seen : List ℕ) (b : Bool) (c : Keyed) (cs : List Keyed) (ls : List Level) (h : Searching s t first before path seen ((b, c ∷ cs) ∷ ls)) where
  -- a value is found plain
  pub clean_on : (next later : List ℕ) → next ≡ path → true ≡ is_some (plain s path c.1) → Searched s path seen later (tree_then c.1 no_trees) → Searching s t first before next later ((b, cs) ∷ ls)
  clean_on next later same is one = subst (λ p. Searching s t first before p later ((b, cs) ∷ ls)) (sym same) (record {
    path_after = h.path_after;
    have_open = h.have_open;
    clean = one.clean;
    answer = ap (λ x. (x && are_plain s path (trees_in cs)) && answer_left s (closed_by b path) ls) is ∙ h.answer;
    found = λ end k. h.found end (searched_more s path seen later end c.1 (trees_in cs) one k);
    free = λ none. let n = h.free none in (n.0.1, n.1);
    below = omega (arith, h.below);
  })

  -- a value is entered
  pub clean_down : (next later : List ℕ) (d : Bool) (ks : List Keyed) → closed_by d next ≡ path → HasOpen d next → rest_weight (weight s next) ks ≤ weight s path c.1 → Clean s (has_left later next)
      → are_plain s next (trees_in ks) ≡ is_some (plain s path c.1) → ((end : List ℕ) → Searched s next later end (trees_in ks) → Searched s path seen end (tree_then c.1 no_trees))
      → (HasNoHolder c.1 → HaveNoHolders (trees_in ks)) → Searching s t first before next later ((d, ks) ∷ (b, cs) ∷ ls)
  clean_down next later d ks back own less clean answer found free =
      let others = (b, cs) ∷ ls in
      let same = ap (λ p. weight_left s p others) back in
      record {
        path_after = ap (λ p. path_left p others) back ∙ h.path_after;
        have_open = (own, subst (λ p. HaveOpen p others) (sym back) h.have_open);
        clean = clean;
        answer = ap₂ (λ x y. x && y) answer (ap (λ p. answer_left s p others) back) ∙ both_of (is_some (plain s path c.1)) (are_plain s path (trees_in cs)) (answer_left s (closed_by b path) ls) ∙ h.answer;
        found = λ end k. let one = found end k in
            subst (λ p. Clean s (has_left end p) × Finds s t first before p end others) (sym back) (one.clean, λ last j. h.found last (searched_more s path seen end last c.1 (trees_in cs) one j));
        free = λ none. let n = h.free none in (free n.0.0, (n.0.1, n.1));
        below = omega (arith, h.below, same, less);
      }

-- a value is finished
pub clean_up : (s : List Cell) (t : Tree) (first before path next seen : List ℕ) (b : Bool) (ls : List Level) → Searching s t first before path seen ((b, []) ∷ ls) → next ≡ closed_by b path → Searching s t first before next seen ls
clean_up s t first before path next seen b ls h back =
    let found = h.found seen (searched_none s path seen h.clean) in
    subst (λ p. Searching s t first before p seen ls) (sym back) (record { path_after = h.path_after; have_open = h.have_open.1; clean = found.0; answer = h.answer; found = found.1; free = λ none. (h.free none).1; below = omega (arith, h.below) })
