-- The separate borrows of the held value from a value and its store agree with the borrow from both.
use Rattle.std.proofs.Common.{◌≡◌, ◌<◌, ℕ, ℤ, List, [], ◌∷◌, zero, suc, length, Option, Some, None, option_map, IfSome, refl, sym, ap, ◌∙◌, subst}
use Rattle.std.specs.Borrow.{MutBor, Fml, follows_if}
use Rattle.std.specs.Option.{ghost_name_of}
use mathlib.Core.Option as maybe
use denote.Follow.{follows_by}
use Rattle.rhai_value.specs.declared.cells.store.Cell.{Cell}
use Rattle.rhai_value.specs.declared.value.access_mode.AccessMode.{AccessMode}
use Rattle.rhai_value.specs.declared.cells.chain.Site.TheVariants.{Here, InCell}
use Rattle.rhai_value.specs.contracts.value.dynamic.Dynamic as dynamic
use Rattle.rhai_value.specs.contracts.cells.store.Store as store
use Rattle.rhai_value.specs.Tree.{Tree, node, leaf, branch, fields, holder, cell_of}
use Rattle.rhai_value.specs.End.{End, end, held, stuck, closed, end_of, end_at, held_in, held_cell, site_of, value_after, store_after}
use Rattle.rhai_value.specs.Walk.{Visit, entered, barred, revisited, visit, visit_map, unentered, walk_in}
use Rattle.rhai_value.specs.Lent.{own_lent, far_lent, own_at, own_ref, either_of, content_in}
use Rattle.rhai_value.proofs.Chains.{end_alone}
use Rattle.rhai_value.proofs.Ends.{stands}
use Rattle.rhai_value.proofs.InStores.{cell_within}
use Rattle.rhai_value.proofs.Lent.{OwnSide, FarSide, no_cell, same_content}

-- a chain from a holder does not end at the holder itself
abbrev pub FarEnd : End → Type 0
FarEnd (held Here v) = ⊥
FarEnd (held (InCell c) v) = Unit {0}
FarEnd (stuck v) = Unit {0}
FarEnd closed = Unit {0}

far_visit : (t : Tree) (o : Visit Tree) (go : Tree → End) → ((x : Tree) → FarEnd (go x)) → FarEnd (end_at t (visit_map go o))
far_visit t (entered x) go h = h x
far_visit t barred go h = tt
far_visit t revisited go h = tt

far_none : (t : Tree) (o : Visit Tree) → FarEnd (end_at t (unentered o))
far_none t (entered x) = tt
far_none t barred = tt
far_none t revisited = tt

far_in : (n : ℕ) (s : List Cell) (c : ℕ) (path : List ℕ) (t : Tree) → FarEnd (walk_in end_of n s (c ∷ path) t)
far_in zero s c path (node (leaf l) g m) = tt
far_in (suc n) s c path (node (leaf l) g m) = tt
far_in zero s c path (node (branch k ts) g m) = tt
far_in zero s c path (node (fields fs) g m) = tt
far_in (suc n) s c path (node (branch k ts) g m) = tt
far_in (suc n) s c path (node (fields fs) g m) = tt
far_in zero s c path (node (holder d) g m) = far_none (node (holder d) g m) (visit s (c ∷ path) d)
far_in (suc n) s c path (node (holder d) g m) = far_visit (node (holder d) g m) (visit s (c ∷ path) d) (walk_in end_of n s (d ∷ c ∷ path)) (λ x. far_in n s d (c ∷ path) x)

far_from : (n : ℕ) (s : List Cell) (c : ℕ) (g : ℤ) (m : AccessMode) → FarEnd (walk_in end_of n s [] (node (holder c) g m))
far_from zero s c g m = far_none (node (holder c) g m) (visit s [] c)
far_from (suc n) s c g m = far_visit (node (holder c) g m) (visit s [] c) (walk_in end_of n s (c ∷ [])) (λ x. far_in n s c [] x)

pub far_end : (s : List Cell) (c : ℕ) (g : ℤ) (m : AccessMode) → FarEnd (end s [] (node (holder c) g m))
unfolding end
far_end s c g m = far_from (length s) s c g m

abbrev OwnHeld : MutBor Tree → List Cell → Tree → Option (MutBor Tree) → Fml
OwnHeld v s t p = follows_if dynamic.the_row dynamic.the_row v.ghost_name (own_lent (cell_of t) (ghost_name_of p)) (λ w. value_after (λ _. w) (end s [] t) t) v.now

own_whole : (v : MutBor Tree) (s : List Cell) (t : Tree) → None ≡ cell_of t → follows_if dynamic.the_row dynamic.the_row v.ghost_name (maybe.some v.ghost_name) (λ w. w) v.now ≡ follows_if dynamic.the_row dynamic.the_row v.ghost_name (maybe.some v.ghost_name) (λ w. value_after (λ _. w) (end s [] t) t) v.now
own_whole v s t e = ap (λ z. follows_if dynamic.the_row dynamic.the_row v.ghost_name (maybe.some v.ghost_name) (λ w. value_after (λ _. w) z t) v.now) (end_alone s t e)

own_at_held : (v : MutBor Tree) (s : List Cell) (t : Tree) (r : Option (MutBor Tree)) → OwnSide v (own_at (cell_of t) v) ≡ OwnHeld v s t (either_of (own_at (cell_of t) v) r)
unfolding follows_by
own_at_held v s (node (leaf l) g n) r = own_whole v s (node (leaf l) g n) refl
own_at_held v s (node (branch k ts) g n) r = own_whole v s (node (branch k ts) g n) refl
own_at_held v s (node (fields fs) g n) r = own_whole v s (node (fields fs) g n) refl
own_at_held v s (node (holder c) g n) r = refl

pub own_held : (v : MutBor Tree) (s : List Cell) (y r p : Option (MutBor Tree)) → y ≡ own_ref v → p ≡ either_of y r → OwnSide v y ≡ OwnHeld v s v.now p
own_held v s y r p e f = ap (OwnSide v) e ∙ own_at_held v s v.now r ∙ ap (λ z. OwnHeld v s v.now (either_of z r)) (sym e) ∙ ap (OwnHeld v s v.now) (sym f)

abbrev FarHeld : MutBor (List Cell) → Tree → Option (MutBor Tree) → Fml
FarHeld m t p = follows_if store.the_row dynamic.the_row m.ghost_name (far_lent (cell_of t) (ghost_name_of p)) (λ w. store_after (λ _. w) (end m.now [] t) m.now) m.now

far_put : (m : MutBor (List Cell)) (e : End) (x : Option ℕ) (y : MutBor Tree) → x ≡ held_cell e → Some y.now ≡ content_in x m.now
    → FarSide m x (Some y) ≡ follows_if store.the_row dynamic.the_row m.ghost_name (maybe.some y.ghost_name) (λ w. store_after (λ _. w) e m.now) m.now
far_put m (held Here v) x y e f = absurd (no_cell m.now x y.now e f)
far_put m (held (InCell k) v) x y e f = ap (λ z. FarSide m z (Some y)) e
far_put m (stuck v) x y e f = absurd (no_cell m.now x y.now e f)
far_put m closed x y e f = absurd (no_cell m.now x y.now e f)

no_far : (m : MutBor (List Cell)) (t : Tree) (x : Option ℕ) (y : Tree) → None ≡ cell_of t → x ≡ held_cell (end m.now [] t) → Some y ≡ content_in x m.now → ⊥
no_far m t x y n e f = no_cell m.now x y (e ∙ ap held_cell (sym (end_alone m.now t n))) f

far_at_held : (m : MutBor (List Cell)) (v : MutBor Tree) (t : Tree) (x : Option ℕ) (r : Option (MutBor Tree)) → x ≡ held_cell (end m.now [] t) → option_map (λ d. d.now) r ≡ content_in x m.now
    → FarSide m x r ≡ FarHeld m t (either_of (own_at (cell_of t) v) r)
unfolding follows_by
far_at_held m v (node (leaf l) g n) x None e f = refl
far_at_held m v (node (leaf l) g n) x (Some y) e f = absurd (no_far m (node (leaf l) g n) x y.now refl e f)
far_at_held m v (node (branch k ts) g n) x None e f = refl
far_at_held m v (node (branch k ts) g n) x (Some y) e f = absurd (no_far m (node (branch k ts) g n) x y.now refl e f)
far_at_held m v (node (fields fs) g n) x None e f = refl
far_at_held m v (node (fields fs) g n) x (Some y) e f = absurd (no_far m (node (fields fs) g n) x y.now refl e f)
far_at_held m v (node (holder c) g n) x None e f = refl
far_at_held m v (node (holder c) g n) x (Some y) e f = far_put m (end m.now [] (node (holder c) g n)) x y e f

pub far_held : (m : MutBor (List Cell)) (v : MutBor Tree) (x : Option ℕ) (y r p : Option (MutBor Tree)) → x ≡ held_cell (end m.now [] v.now) → option_map (λ d. d.now) r ≡ content_in x m.now → y ≡ own_ref v → p ≡ either_of y r
    → FarSide m x r ≡ FarHeld m v.now p
far_held m v x y r p e f g h = far_at_held m v v.now x r e f ∙ ap (λ z. FarHeld m v.now (either_of z r)) (sym g) ∙ ap (FarHeld m v.now) (sym h)

within_at : (s : List Cell) (t : Tree) (e : End) → e ≡ end s [] t → IfSome (held_cell e) (λ k. k < length s)
within_at s t (held Here v) q = tt
within_at s t (held (InCell c) v) q = cell_within s t c (ap site_of q)
within_at s t (stuck v) q = tt
within_at s t closed q = tt

pub held_within : (s : List Cell) (t : Tree) (x : Option ℕ) → x ≡ held_cell (end s [] t) → IfSome x (λ k. k < length s)
held_within s t x e = subst (λ z. IfSome z (λ k. k < length s)) (sym e) (within_at s t (end s [] t) refl)

far_found : (s : List Cell) (t : Tree) (e : End) (r : Option (MutBor Tree)) → e ≡ end s [] t → FarEnd e → option_map (λ d. d.now) r ≡ content_in (held_cell e) s → option_map (λ d. d.now) r ≡ held_in e
far_found s t (held Here v) r q h f = absurd h
far_found s t (held (InCell c) v) r q h f = same_content s c (Some v) r (stands s t (InCell c) v q) f
far_found s t (stuck v) r q h f = f
far_found s t closed r q h f = f

found_at : (s : List Cell) (v : MutBor Tree) (t : Tree) (r : Option (MutBor Tree)) → v.now ≡ t → option_map (λ d. d.now) r ≡ content_in (held_cell (end s [] t)) s
    → option_map (λ d. d.now) (either_of (own_at (cell_of t) v) r) ≡ held_in (end s [] t)
found_at s v (node (leaf l) g n) r e f = ap Some e ∙ ap held_in (end_alone s (node (leaf l) g n) refl)
found_at s v (node (branch k ts) g n) r e f = ap Some e ∙ ap held_in (end_alone s (node (branch k ts) g n) refl)
found_at s v (node (fields fs) g n) r e f = ap Some e ∙ ap held_in (end_alone s (node (fields fs) g n) refl)
found_at s v (node (holder c) g n) r e f = far_found s (node (holder c) g n) (end s [] (node (holder c) g n)) r refl (far_end s c g n) f

pub held_found : (s : List Cell) (v : MutBor Tree) (x : Option ℕ) (y r p : Option (MutBor Tree)) → x ≡ held_cell (end s [] v.now) → option_map (λ d. d.now) r ≡ content_in x s → y ≡ own_ref v → p ≡ either_of y r
    → option_map (λ d. d.now) p ≡ held_in (end s [] v.now)
held_found s v x y r p e f g h = ap (option_map (λ d. d.now)) (h ∙ ap (λ z. either_of z r) g) ∙ found_at s v v.now r refl (f ∙ ap (λ z. content_in z s) e)
