-- Opening and closing cells.
use Rattle.std.proofs.Common.{◌≡◌, ℕ, Bool, true, false, cond, nat_eq, ◌||◌, List, [], ◌∷◌, ◌++◌, reverse, subst, Some, refl, sym, ap, ◌∙◌, arith, eqb-true}
use Rattle.std.proofs.lemmas.List.{reverse-append}
use Rattle.std.proofs.lemmas.Bool.Decides.{nat_tests}
use Rattle.std.specs.List.{list_any}
use Rattle.std.specs.Ordering.{nat_cmp, is_eq}
use Rattle.std.specs.BTreeSet.{BTreeSet, contains, UpdatesBy}
use Rattle.rhai_value.specs.declared.cells.store.Cell.{Cell}
use Rattle.rhai_value.specs.Tree.{Tree, node, leaf, branch, fields, holder, cell_of}
use Rattle.rhai_value.specs.Store.{at}
use Rattle.rhai_value.specs.Walk.{is_open, visit_of, opened, entry}
use Rattle.rhai_value.specs.Opened.{IsOpened}

is_eq-nat_cmp : (c q : ℕ) → is_eq (nat_cmp c q) ≡ nat_eq q c
is_eq-nat_cmp c q = grind (arith, nat_tests)

or_else : (a b : Bool) → cond a true b ≡ a || b
or_else true b = refl
or_else false b = refl

-- a cell opens that wasn't open
pub opened-more : (order longer : List ℕ) (c : ℕ) (cells more : BTreeSet ℕ) → IsOpened (reverse order) cells → UpdatesBy nat_cmp (nat_cmp c) cells more true → contains nat_cmp cells c ≡ false → longer ≡ order ++ (c ∷ []) → IsOpened (reverse longer) more
opened-more order longer c cells more h u none e =
    rw (e, reverse-append order (c ∷ [])) (record {
      same = λ q. u.0 q ∙ ap (λ b. cond b true (contains nat_cmp cells q)) (is_eq-nat_cmp c q) ∙ or_else (nat_eq q c) (contains nat_cmp cells q) ∙ ap (λ b. nat_eq q c || b) (h.same q);
      once = (sym (h.same c) ∙ none, h.once);
    })

or_off : (a b : Bool) → (a ≡ true → b ≡ false) → cond a false (a || b) ≡ b
or_off true b h = sym (h refl)
or_off false b h = refl

-- the cell opened last closes
pub opened-less : (order shorter : List ℕ) (c : ℕ) (cells fewer : BTreeSet ℕ) → IsOpened (reverse order) cells → order ≡ shorter ++ (c ∷ []) → UpdatesBy nat_cmp (nat_cmp c) cells fewer false → IsOpened (reverse shorter) fewer
opened-less order shorter c cells fewer opened e u =
    let h : IsOpened (c ∷ reverse shorter) cells = subst (λ p. IsOpened p cells) (ap reverse e ∙ reverse-append shorter (c ∷ [])) opened in
    record {
      same = λ q. u.0 q ∙ ap (λ b. cond b false (contains nat_cmp cells q)) (is_eq-nat_cmp c q) ∙ ap (cond (nat_eq q c) false) (h.same q)
          ∙ or_off (nat_eq q c) (is_open q (reverse shorter)) (λ x. ap (λ x. is_open x (reverse shorter)) (eqb-true q c x) ∙ h.once.0);
      once = h.once.1;
    }

-- the result of opening a cell that can be read, if it is open, and if it isn't
pub entry-read : (s : List Cell) (path : List ℕ) (t u : Tree) (c : ℕ) (b : Bool) → Some c ≡ cell_of t → Some u ≡ at s c → is_open c path ≡ b → entry s path t ≡ opened (visit_of (Some u) b)
entry-read s path (node (leaf l) g m) u c b e f h = cc
entry-read s path (node (branch k ts) g m) u c b e f h = cc
entry-read s path (node (fields fs) g m) u c b e f h = cc
entry-read s path (node (holder d) g m) u c b e f h = let same : c ≡ d = cc in rw (← same) (rw (← f, h) refl)

-- ---- the open cells: the first ones and those after them

or_among : (a b d : Bool) → (a || (b || d)) ≡ ((a || b) || d)
or_among true b d = refl
or_among false b d = refl

open_append : (c : ℕ) (ps qs : List ℕ) → is_open c (ps ++ qs) ≡ (is_open c ps || is_open c qs)
open_append c [] qs = refl
open_append c (p ∷ ps) qs = ap (λ b. nat_eq c p || b) (open_append c ps qs) ∙ or_among (nat_eq c p) (is_open c ps) (is_open c qs)

open_first : (c : ℕ) (first : List ℕ) → is_open c (reverse first) ≡ list_any (λ p. nat_eq p c) first
open_first c [] = refl
open_first c (p ∷ first) =
    let h = open_first c first in
    let e = ap (is_open c) (reverse-append (p ∷ []) first) ∙ open_append c (reverse first) (p ∷ []) in
    e ∙ grind (arith, nat_tests)

pub open_either : (c : ℕ) (deep first : List ℕ) → is_open c (deep ++ reverse first) ≡ (is_open c deep || list_any (λ p. nat_eq p c) first)
open_either c deep first = open_append c deep (reverse first) ∙ ap (λ b. is_open c deep || b) (open_first c first)
