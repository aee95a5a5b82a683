-- The separate borrows from a value and its store agree with the borrow from both.
use Rattle.std.proofs.Common.{◌≡◌, ◌<◌, ℕ, List, length, Option, Some, None, option_map, IfSome, slice_get, option_and_then, refl, sym, ap, ◌∙◌, subst}
use Rattle.std.specs.Borrow.{MutBor, Fml, follows_if, name_if_some}
use Rattle.std.specs.Option.{ghost_name_of}
use denote.Follow.{follows_by}
use Rattle.rhai_value.specs.declared.cells.store.Cell.{Cell}
use Rattle.rhai_value.specs.declared.cells.whole.Own.{Own}
use Rattle.rhai_value.specs.declared.cells.chain.Site.TheVariants.{InCell}
use Rattle.rhai_value.specs.contracts.value.dynamic.Dynamic as dynamic
use Rattle.rhai_value.specs.contracts.cells.store.Store as store
use Rattle.rhai_value.specs.Tree.{Tree, node, leaf, branch, fields, holder, cell_of}
use Rattle.rhai_value.specs.Store.{at, unmarked}
use Rattle.rhai_value.specs.End.{first, first_cell, site_cell, value_with_first, store_with_first}
use Rattle.rhai_value.specs.Lent.{own_lent, far_lent, own_at, own_ref, either_of, content_in, put_in}
use Rattle.rhai_value.proofs.Stores.{content_is}
use Rattle.rhai_value.proofs.Walks.{at_within}

-- the final value, where y is the borrow from it, and p the whole borrow
abbrev pub OwnSide : MutBor Tree → Option (MutBor Tree) → Fml
OwnSide v y = follows_if dynamic.the_row dynamic.the_row v.ghost_name (ghost_name_of y) (λ w. w) v.now

abbrev pub OwnLent : MutBor Tree → Tree → Option (MutBor Tree) → Fml
OwnLent v t p = follows_if dynamic.the_row dynamic.the_row v.ghost_name (own_lent (cell_of t) (ghost_name_of p)) (λ w. value_with_first w t) v.now

own_at_side : (v : MutBor Tree) (t : Tree) (r : Option (MutBor Tree)) → OwnSide v (own_at (cell_of t) v) ≡ OwnLent v t (either_of (own_at (cell_of t) v) r)
unfolding follows_by
own_at_side v (node (leaf l) g n) r = refl
own_at_side v (node (branch k ts) g n) r = refl
own_at_side v (node (fields fs) g n) r = refl
own_at_side v (node (holder c) g n) r = refl

pub own_name : (o : Option Own) → ghost_name_of (option_map (λ w. w.value) o) ≡ name_if_some (λ w. w.value.ghost_name) o
own_name None = refl
own_name (Some w) = refl

pub own_side : (v : MutBor Tree) (y r p : Option (MutBor Tree)) → y ≡ own_ref v → p ≡ either_of y r → OwnSide v y ≡ OwnLent v v.now p
own_side v y r p e f = ap (OwnSide v) e ∙ own_at_side v v.now r ∙ ap (λ z. OwnLent v v.now (either_of z r)) (sym e) ∙ ap (OwnLent v v.now) (sym f)

-- the same for the store, where r is the borrow from its cell x
abbrev pub FarSide : MutBor (List Cell) → Option ℕ → Option (MutBor Tree) → Fml
FarSide m x r = follows_if store.the_row dynamic.the_row m.ghost_name (ghost_name_of r) (put_in x m.now) m.now

abbrev pub FarLent : MutBor (List Cell) → Tree → Option (MutBor Tree) → Fml
FarLent m t p = follows_if store.the_row dynamic.the_row m.ghost_name (far_lent (cell_of t) (ghost_name_of p)) (λ w. store_with_first w m.now t) m.now

pub no_cell : (s : List Cell) (x : Option ℕ) (y : Tree) → x ≡ None → Some y ≡ content_in x s → ⊥
no_cell s x y e f = let g : Some y ≡ None = f ∙ ap (λ z. content_in z s) e in cc

cell_is : (s : List Cell) (c : ℕ) (u : Option Tree) (x : Option ℕ) (y : Tree) → x ≡ site_cell (option_map (λ _. InCell c) u) → Some y ≡ content_in x s → x ≡ Some c
cell_is s c None x y e f = absurd (no_cell s x y e f)
cell_is s c (Some u) x y e f = e

far_at_side : (m : MutBor (List Cell)) (v : MutBor Tree) (t : Tree) (x : Option ℕ) (r : Option (MutBor Tree)) → x ≡ first_cell m.now t → option_map (λ d. d.now) r ≡ content_in x m.now
    → FarSide m x r ≡ FarLent m t (either_of (own_at (cell_of t) v) r)
unfolding follows_by
far_at_side m v (node (leaf l) g n) x None e f = refl
far_at_side m v (node (leaf l) g n) x (Some y) e f = absurd (no_cell m.now x y.now e f)
far_at_side m v (node (branch k ts) g n) x None e f = refl
far_at_side m v (node (branch k ts) g n) x (Some y) e f = absurd (no_cell m.now x y.now e f)
far_at_side m v (node (fields fs) g n) x None e f = refl
far_at_side m v (node (fields fs) g n) x (Some y) e f = absurd (no_cell m.now x y.now e f)
far_at_side m v (node (holder c) g n) x None e f = refl
far_at_side m v (node (holder c) g n) x (Some y) e f = ap (λ z. FarSide m z (Some y)) (cell_is m.now c (at m.now c) x y.now e f)

pub far_side : (m : MutBor (List Cell)) (v : MutBor Tree) (x : Option ℕ) (y r p : Option (MutBor Tree)) → x ≡ first_cell m.now v.now → option_map (λ d. d.now) r ≡ content_in x m.now → y ≡ own_ref v → p ≡ either_of y r
    → FarSide m x r ≡ FarLent m v.now p
far_side m v x y r p e f g h = far_at_side m v v.now x r e f ∙ ap (λ z. FarLent m v.now (either_of z r)) (sym g) ∙ ap (FarLent m v.now) (sym h)

within_at : (s : List Cell) (c : ℕ) (u : Option Tree) → at s c ≡ u → IfSome (site_cell (option_map (λ _. InCell c) u)) (λ k. k < length s)
within_at s c None e = tt
within_at s c (Some u) e = at_within s c u e

within_first : (s : List Cell) (t : Tree) → IfSome (first_cell s t) (λ k. k < length s)
within_first s (node (leaf l) g n) = tt
within_first s (node (branch k ts) g n) = tt
within_first s (node (fields fs) g n) = tt
within_first s (node (holder c) g n) = within_at s c (at s c) refl

pub is_within : (s : List Cell) (t : Tree) (x : Option ℕ) → x ≡ first_cell s t → IfSome x (λ k. k < length s)
is_within s t x e = subst (λ z. IfSome z (λ k. k < length s)) (sym e) (within_first s t)

-- a borrow from an unmarked cell is of the value read there
lost_of : (o : Option Cell) (u : Tree) → option_and_then unmarked o ≡ Some u → None ≡ option_map (λ x. x.content) o → ⊥
lost_of None u e f = cc
lost_of (Some x) u e f = cc

lost : (s : List Cell) (c : ℕ) (u : Tree) → at s c ≡ Some u → None ≡ option_map (λ x. x.content) (slice_get s c) → ⊥
lost s c u = lost_of (slice_get s c) u

there : (o : Option Cell) (u : Tree) → (r : Option (MutBor Tree)) → option_map (λ d. d.now) r ≡ option_map (λ x. x.content) o → IfSome r (λ d. IfSome o (λ x. d.now ≡ x.content))
there None u None e = tt
there None u (Some d) e = absurd (cc)
there (Some x) u None e = absurd (cc)
there (Some x) u (Some d) e = cc

pub same_content : (s : List Cell) (c : ℕ) (u : Option Tree) (r : Option (MutBor Tree)) → at s c ≡ u → option_map (λ d. d.now) r ≡ content_in (site_cell (option_map (λ _. InCell c) u)) s → option_map (λ d. d.now) r ≡ u
same_content s c None r e f = f
same_content s c (Some u) None e f = absurd (lost s c u e f)
same_content s c (Some u) (Some d) e f = ap Some (content_is s c u d.now e (there (slice_get s c) u (Some d) f))

found_at : (s : List Cell) (v : MutBor Tree) (t : Tree) (r : Option (MutBor Tree)) → v.now ≡ t → option_map (λ d. d.now) r ≡ content_in (first_cell s t) s
    → option_map (λ d. d.now) (either_of (own_at (cell_of t) v) r) ≡ first s t
found_at s v (node (leaf l) g n) r e f = ap Some e
found_at s v (node (branch k ts) g n) r e f = ap Some e
found_at s v (node (fields fs) g n) r e f = ap Some e
found_at s v (node (holder c) g n) r e f = same_content s c (at s c) r refl f

pub is_found : (s : List Cell) (v : MutBor Tree) (x : Option ℕ) (y r p : Option (MutBor Tree)) → x ≡ first_cell s v.now → option_map (λ d. d.now) r ≡ content_in x s → y ≡ own_ref v → p ≡ either_of y r
    → option_map (λ d. d.now) p ≡ first s v.now
is_found s v x y r p e f g h = ap (option_map (λ d. d.now)) (h ∙ ap (λ z. either_of z r) g) ∙ found_at s v v.now r refl (f ∙ ap (λ z. content_in z s) e)

own_if : (v : MutBor Tree) (t : Tree) (r : Option (MutBor Tree)) → cell_of t ≡ None → IfSome (either_of (own_at (cell_of t) v) r) (λ d. d.ghost_name ≡ v.ghost_name)
own_if v (node (leaf l) g n) r e = refl
own_if v (node (branch k ts) g n) r e = refl
own_if v (node (fields fs) g n) r e = refl
own_if v (node (holder c) g n) r e = absurd (cc)

if_none : (v : MutBor Tree) (p : Option (MutBor Tree)) → (cell_of v.now ≡ None → IfSome p (λ d. d.ghost_name ≡ v.ghost_name)) → IfSome p (λ d. cell_of v.now ≡ None → d.ghost_name ≡ v.ghost_name)
if_none v None h = tt
if_none v (Some d) h = h

pub is_own : (v : MutBor Tree) (y r p : Option (MutBor Tree)) → y ≡ own_ref v → p ≡ either_of y r → IfSome p (λ d. cell_of v.now ≡ None → d.ghost_name ≡ v.ghost_name)
is_own v y r p e f = if_none v p (λ n. subst (λ z. IfSome z (λ d. d.ghost_name ≡ v.ghost_name)) (sym (f ∙ ap (λ z. either_of z r) e)) (own_if v v.now r n))
