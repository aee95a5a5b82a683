-- The separate borrows of a held part from a value and its store agree with the borrow from both.
use Rattle.std.proofs.Common.{◌≡◌, ℕ, ℤ, Bool, true, false, if◌then◌else◌, List, [], ◌∷◌, zero, suc, Option, Some, None, Result, Ok, Err, option_map, option_and_then, is_some, IfOk, IfErr, slice_get, Bor, refl, sym, ap, ◌∙◌}
use Rattle.std.specs.Borrow.{MutBor, GName, Fml, RattleType, follows_if, name_if_ok}
use Rattle.std.specs.Option.{ghost_name_of}
use mathlib.Core.Option as maybe
use denote.Follow.{follows_by}
use Rattle.rhai_value.specs.declared.cells.store.Cell.{Cell}
use Rattle.rhai_value.specs.declared.value.access_mode.AccessMode.{AccessMode}
use Rattle.rhai_value.specs.declared.cells.chain.Site.TheVariants.{Here, InCell}
use Rattle.rhai_value.specs.declared.value.type_id.TypeId.{TypeId}
use Rattle.rhai_value.specs.contracts.value.dynamic.Dynamic as dynamic
use Rattle.rhai_value.specs.contracts.cells.store.Store as store
use Rattle.rhai_value.specs.Tree.{Tree, node, Content, content_of, leaf, branch, fields, holder, cell_of}
use Rattle.rhai_value.specs.Store.{at, put, unmarked}
use Rattle.rhai_value.specs.Types.{is_type, tree_type, is_content_type, typed_content, type_name}
use Rattle.rhai_value.specs.End.{End, end, held, stuck, closed, held_in, held_cell, held_part, site_of, end_type, end_name, value_after, store_after}
use Rattle.rhai_value.specs.Kinds.{one_type}
use Rattle.rhai_value.specs.Lent.{own_lent, far_lent, either_of, content_in, put_in, edited, edit_in}
use Rattle.rhai_value.proofs.Chains.{end_alone}
use Rattle.rhai_value.proofs.Ends.{stands}
use Rattle.rhai_value.proofs.InStores.{none_of_holder, part_alone}
use Rattle.rhai_value.proofs.LentHeld.{FarEnd, far_end}

-- writing a cell's own content to it changes nothing
own_put : (s : List Cell) (c : ℕ) (v : Tree) → Some v ≡ content_in (Some c) s → put s c v ≡ s
own_put [] c v e = refl
own_put (x ∷ s) zero v e = let same : v ≡ x.content = cc in ap (λ t. record { content = t; is_marked = x.is_marked } ∷ s) same
own_put (x ∷ s) (suc c) v e = ap (λ z. x ∷ z) (own_put s c v e)

pub put_back : (x : Option ℕ) (s : List Cell) (v : Tree) → Some v ≡ content_in x s → put_in x s v ≡ s
put_back None s v e = refl
put_back (Some c) s v e = own_put s c v e

read_mark : (marked : Bool) (u v : Tree) → unmarked (record { content = u; is_marked = marked }) ≡ Some v → Some u ≡ Some v
read_mark true u v e = cc
read_mark false u v e = e

read_of : (o : Option Cell) (v : Tree) → option_and_then unmarked o ≡ Some v → option_map (λ x. x.content) o ≡ Some v
read_of None v e = cc
read_of (Some x) v e = read_mark x.is_marked x.content v e

-- the content of an unmarked cell
pub read_at : (s : List Cell) (c : ℕ) (v : Tree) → at s c ≡ Some v → content_in (Some c) s ≡ Some v
read_at s c v e = read_of (slice_get s c) v e

far_content : (s : List Cell) (t : Tree) (e : End) → e ≡ end s [] t → FarEnd e → content_in (held_cell e) s ≡ held_in e
far_content s t (held Here v) q h = absurd h
far_content s t (held (InCell c) v) q h = read_at s c v (stands s t (InCell c) v q)
far_content s t (stuck v) q h = refl
far_content s t closed q h = refl

-- a value with a part is held at its own site, and is of the part's type
own_place_at : (s : List Cell) (t : Tree) (k : TypeId) → None ≡ cell_of t → k ≡ tree_type t → (Some Here ≡ site_of (end s [] t)) × (k ≡ end_type (end s [] t))
own_place_at s t k alone same = (ap site_of (end_alone s t alone), same ∙ ap end_type (end_alone s t alone))

pub own_place : {A : Type 0} (content : A → Content) (part : Tree → Option A) (k : TypeId) → is_content_type k ≡ true → ((t : Tree) → option_map content (part t) ≡ typed_content k t)
    → (s : List Cell) (t : Tree) → is_some (part t) ≡ true → (Some Here ≡ site_of (end s [] t)) × (k ≡ end_type (end s [] t))
own_place {A = A} content part k constructs reads s t has = here (part t) refl has
  where
    same_type : (a : A) (b : Bool) → is_type k (tree_type t) ≡ b → Some (content a) ≡ (if b then Some (content_of t) else None) → k ≡ tree_type t
    same_type a true same e = one_type k (tree_type t) same
    same_type a false other e = cc

    here : (o : Option A) → part t ≡ o → is_some o ≡ true → (Some Here ≡ site_of (end s [] t)) × (k ≡ end_type (end s [] t))
    here None e p = cc
    here (Some a) e p =
        own_place_at s t k (part_alone part t a (none_of_holder content part k constructs reads) e) (same_type a (is_type k (tree_type t)) refl (sym (ap (option_map content) e) ∙ reads t))

-- An edit of the held value, and the borrow of a part of it, which no holder has itself.
module _ (T : RattleType) {M : Type 0} (meaning : T.Denot → M) (edit : T.Denot → Tree → Tree) (part : Tree → Option M) (none : (c : ℕ) (g : ℤ) (m : AccessMode) → part (node (holder c) g m) ≡ None) where
  abbrev pub Has : Option (MutBor T.Denot) → Option M
  Has o = option_map (λ r. meaning r.now) o

  either_none : (o : Option (MutBor T.Denot)) → o ≡ either_of o None
  either_none None = refl
  either_none (Some d) = refl

  -- for a value that isn't a holder there is no borrow from the store, and a holder has no part itself
  no_part : (r : Option (MutBor T.Denot)) → Has r ≡ None → None ≡ r
  no_part None e = refl
  no_part (Some d) e = cc

  no_far : (s : List Cell) (t : Tree) (x : Option ℕ) (r : Option (MutBor T.Denot)) → None ≡ cell_of t → x ≡ held_cell (end s [] t) → Has r ≡ option_and_then part (content_in x s) → None ≡ r
  no_far s t x r n e f = no_part r (f ∙ ap (λ z. option_and_then part (content_in z s)) (e ∙ ap held_cell (sym (end_alone s t n))))

  no_own : (c : ℕ) (g : ℤ) (m : AccessMode) (o : Option (MutBor T.Denot)) → Has o ≡ part (node (holder c) g m) → None ≡ o
  no_own c g m o h = no_part o (h ∙ none c g m)

  -- the value, where o is the borrow from it, and n the name of the whole borrow
  abbrev pub OwnPart : MutBor Tree → Tree → Option (MutBor T.Denot) → Fml
  OwnPart v t o = follows_if dynamic.the_row T v.ghost_name (ghost_name_of o) (λ w. edit w t) v.now

  abbrev pub OwnHeld : MutBor Tree → List Cell → Tree → maybe.Option GName → Fml
  OwnHeld v s t n = follows_if dynamic.the_row T v.ghost_name (own_lent (cell_of t) n) (λ w. value_after (edit w) (end s [] t) t) v.now

  own_alone : (v : MutBor Tree) (s : List Cell) (t : Tree) (x : Option ℕ) (o r : Option (MutBor T.Denot)) → None ≡ cell_of t → x ≡ held_cell (end s [] t) → Has r ≡ option_and_then part (content_in x s)
      → OwnPart v t o ≡ OwnHeld v s t (ghost_name_of (either_of o r))
  own_alone v s t x o r n e f =
      ap (OwnPart v t) (either_none o ∙ ap (either_of o) (no_far s t x r n e f))
      ∙ ap (λ z. follows_if dynamic.the_row T v.ghost_name (own_lent z (ghost_name_of (either_of o r))) (λ w. edit w t) v.now) n
      ∙ ap (λ z. follows_if dynamic.the_row T v.ghost_name (own_lent (cell_of t) (ghost_name_of (either_of o r))) (λ w. value_after (edit w) z t) v.now) (end_alone s t n)

  pub own_at : (v : MutBor Tree) (s : List Cell) (t : Tree) (x : Option ℕ) (o r : Option (MutBor T.Denot)) → x ≡ held_cell (end s [] t) → Has o ≡ part t → Has r ≡ option_and_then part (content_in x s)
      → OwnPart v t o ≡ OwnHeld v s t (ghost_name_of (either_of o r))
  unfolding follows_by
  own_at v s (node (leaf l) g m) x o r e h f = own_alone v s (node (leaf l) g m) x o r refl e f
  own_at v s (node (branch b ts) g m) x o r e h f = own_alone v s (node (branch b ts) g m) x o r refl e f
  own_at v s (node (fields fs) g m) x o r e h f = own_alone v s (node (fields fs) g m) x o r refl e f
  own_at v s (node (holder c) g m) x o r e h f = ap (OwnPart v (node (holder c) g m)) (sym (no_own c g m o h))

  -- the store, where r is the borrow from its cell x
  abbrev pub FarPart : MutBor (List Cell) → Option ℕ → Option (MutBor T.Denot) → Fml
  FarPart m x r = follows_if store.the_row T m.ghost_name (ghost_name_of r) (λ w. edit_in x (edit w) m.now) m.now

  abbrev pub FarHeld : MutBor (List Cell) → Tree → maybe.Option GName → Fml
  FarHeld m t n = follows_if store.the_row T m.ghost_name (far_lent (cell_of t) n) (λ w. store_after (edit w) (end m.now [] t) m.now) m.now

  far_put : (m : MutBor (List Cell)) (t : Tree) (e : End) (x : Option ℕ) (d : MutBor T.Denot) → e ≡ end m.now [] t → FarEnd e → x ≡ held_cell e → Has (Some d) ≡ option_and_then part (content_in x m.now)
      → FarPart m x (Some d) ≡ follows_if store.the_row T m.ghost_name (maybe.some d.ghost_name) (λ w. store_after (edit w) e m.now) m.now
  far_put m t (held Here v) x d q h e f = absurd h
  far_put m t (held (InCell c) v) x d q h e f =
      ap (λ z. FarPart m z (Some d)) e
      ∙ ap (λ z. follows_if store.the_row T m.ghost_name (maybe.some d.ghost_name) (λ w. edited c (edit w) z m.now) m.now) (read_at m.now c v (stands m.now t (InCell c) v q))
  far_put m t (stuck v) x d q h e f = let g : Has (Some d) ≡ None = f ∙ ap (λ z. option_and_then part (content_in z m.now)) e in absurd (cc)
  far_put m t closed x d q h e f = let g : Has (Some d) ≡ None = f ∙ ap (λ z. option_and_then part (content_in z m.now)) e in absurd (cc)

  far_holder : (m : MutBor (List Cell)) (c : ℕ) (g : ℤ) (n : AccessMode) (x : Option ℕ) (r : Option (MutBor T.Denot)) → x ≡ held_cell (end m.now [] (node (holder c) g n)) → Has r ≡ option_and_then part (content_in x m.now)
      → FarPart m x r ≡ FarHeld m (node (holder c) g n) (ghost_name_of r)
  unfolding follows_by
  far_holder m c g n x None e f = refl
  far_holder m c g n x (Some d) e f = far_put m (node (holder c) g n) (end m.now [] (node (holder c) g n)) x d refl (far_end m.now c g n) e f

  pub far_at : (m : MutBor (List Cell)) (t : Tree) (x : Option ℕ) (o r : Option (MutBor T.Denot)) → x ≡ held_cell (end m.now [] t) → Has o ≡ part t → Has r ≡ option_and_then part (content_in x m.now)
      → FarPart m x r ≡ FarHeld m t (ghost_name_of (either_of o r))
  unfolding follows_by
  far_at m (node (leaf l) g n) x o r e h f = ap (FarPart m x) (sym (no_far m.now (node (leaf l) g n) x r refl e f))
  far_at m (node (branch b ts) g n) x o r e h f = ap (FarPart m x) (sym (no_far m.now (node (branch b ts) g n) x r refl e f))
  far_at m (node (fields fs) g n) x o r e h f = ap (FarPart m x) (sym (no_far m.now (node (fields fs) g n) x r refl e f))
  far_at m (node (holder c) g n) x o r e h f = far_holder m c g n x r e f ∙ ap (λ z. FarHeld m (node (holder c) g n) (ghost_name_of (either_of z r))) (no_own c g n o h)

  -- the borrow is of the held part
  found_alone : (s : List Cell) (t : Tree) (x : Option ℕ) (o r : Option (MutBor T.Denot)) → None ≡ cell_of t → x ≡ held_cell (end s [] t) → Has o ≡ part t → Has r ≡ option_and_then part (content_in x s)
      → Has (either_of o r) ≡ held_part part (end s [] t)
  found_alone s t x o r n e h f = ap Has (sym (either_none o ∙ ap (either_of o) (no_far s t x r n e f))) ∙ h ∙ ap (held_part part) (end_alone s t n)

  pub found : (s : List Cell) (t : Tree) (x : Option ℕ) (o r : Option (MutBor T.Denot)) → x ≡ held_cell (end s [] t) → Has o ≡ part t → Has r ≡ option_and_then part (content_in x s)
      → Has (either_of o r) ≡ held_part part (end s [] t)
  found s (node (leaf l) g n) x o r e h f = found_alone s (node (leaf l) g n) x o r refl e h f
  found s (node (branch b ts) g n) x o r e h f = found_alone s (node (branch b ts) g n) x o r refl e h f
  found s (node (fields fs) g n) x o r e h f = found_alone s (node (fields fs) g n) x o r refl e h f
  found s (node (holder c) g n) x o r e h f =
      ap (λ z. Has (either_of z r)) (sym (no_own c g n o h)) ∙ f ∙ ap (λ z. option_and_then part (content_in z s)) e
      ∙ ap (option_and_then part) (far_content s (node (holder c) g n) (end s [] (node (holder c) g n)) refl (far_end s c g n))

  -- the same for the result
  abbrev pub Out : Type 0
  Out = Result (MutBor T.Denot) (Bor (List ℕ))

  abbrev pub name_out : Out → maybe.Option GName
  name_out p = name_if_ok (λ d. d.ghost_name) p

  abbrev pub IsEither : Option (MutBor T.Denot) → Out → Type 0
  IsEither y p = IfOk p (λ v. y ≡ Some v)

  abbrev pub IsNeither : Option (MutBor T.Denot) → TypeId → Out → Type 0
  IsNeither y i p = IfErr p (λ name. (y ≡ None) × (name.now ≡ type_name i))

  name_is : (y : Option (MutBor T.Denot)) (i : TypeId) (p : Out) → IsEither y p → IsNeither y i p → ghost_name_of y ≡ name_out p
  name_is y i (Ok v) a b = ap ghost_name_of a
  name_is y i (Err e) a b = ap ghost_name_of b.0

  pub own_side : (v : MutBor Tree) (s : List Cell) (x : Option ℕ) (i : TypeId) (o r : Option (MutBor T.Denot)) (p : Out) → x ≡ held_cell (end s [] v.now) → Has o ≡ part v.now → Has r ≡ option_and_then part (content_in x s) → IsEither (either_of o r) p → IsNeither (either_of o r) i p
      → OwnPart v v.now o ≡ OwnHeld v s v.now (name_out p)
  own_side v s x i o r p e h f a b = own_at v s v.now x o r e h f ∙ ap (OwnHeld v s v.now) (name_is (either_of o r) i p a b)

  pub far_side : (m : MutBor (List Cell)) (t : Tree) (x : Option ℕ) (i : TypeId) (o r : Option (MutBor T.Denot)) (p : Out) → x ≡ held_cell (end m.now [] t) → Has o ≡ part t → Has r ≡ option_and_then part (content_in x m.now) → IsEither (either_of o r) p → IsNeither (either_of o r) i p
      → FarPart m x r ≡ FarHeld m t (name_out p)
  far_side m t x i o r p e h f a b = far_at m t x o r e h f ∙ ap (FarHeld m t) (name_is (either_of o r) i p a b)

  pub is_part : (s : List Cell) (t : Tree) (x : Option ℕ) (o r : Option (MutBor T.Denot)) (p : Out) → x ≡ held_cell (end s [] t) → Has o ≡ part t → Has r ≡ option_and_then part (content_in x s) → IsEither (either_of o r) p
      → IfOk p (λ v. held_part part (end s [] t) ≡ Some (meaning v.now))
  is_part s t x o r (Ok v) e h f a = sym (found s t x o r e h f) ∙ ap Has a
  is_part s t x o r (Err n) e h f a = tt

  pub is_name : (s : List Cell) (t : Tree) (x : Option ℕ) (i : TypeId) (o r : Option (MutBor T.Denot)) (p : Out) → x ≡ held_cell (end s [] t) → i ≡ end_type (end s [] t) → Has o ≡ part t → Has r ≡ option_and_then part (content_in x s) → IsNeither (either_of o r) i p
      → IfErr p (λ name. (held_part part (end s [] t) ≡ None) × (name.now ≡ end_name (end s [] t)))
  is_name s t x i o r (Ok v) e j h f b = tt
  is_name s t x i o r (Err n) e j h f b = (sym (found s t x o r e h f) ∙ ap Has b.0, b.1 ∙ ap type_name j)
