-- The separate borrows from a value and its store, as one type, agree with the borrow from both.
use Rattle.std.proofs.Common.{◌≡◌, ℕ, ℤ, false, List, Option, Some, None, option_map, option_and_then, refl, sym, ap, ◌∙◌}
use Rattle.std.specs.Borrow.{MutBor, Fml, RattleType, follows_if}
use Rattle.std.specs.Option.{ghost_name_of}
use mathlib.Core.Option as maybe
use denote.Follow.{follows_by}
use Rattle.rhai_value.specs.declared.value.access_mode.AccessMode.{AccessMode}
use Rattle.rhai_value.specs.declared.cells.chain.Site.TheVariants.{InCell}
use Rattle.rhai_value.specs.declared.cells.store.Cell.{Cell}
use Rattle.rhai_value.specs.declared.value.type_id.TypeId.{TypeId}
use Rattle.rhai_value.specs.declared.value.type_id.TypeId.TheVariants as id
use Rattle.rhai_value.specs.contracts.value.dynamic.Dynamic as dynamic
use Rattle.rhai_value.specs.contracts.cells.store.Store as store
use Rattle.rhai_value.specs.End.{first, first_cell, site_cell, value_with_first, store_with_first}
use Rattle.rhai_value.specs.Lent.{own_lent, far_lent, either_of, content_in, edited, edit_in}
use Rattle.rhai_value.specs.Store.{at, put}
use Rattle.rhai_value.specs.Tree.{Tree, node, leaf, branch, fields, holder, cell_of}
use Rattle.rhai_value.specs.Types.{is_type}
use Rattle.rhai_value.proofs.ForCallers.{own_at, far_at, found, read_at}
use Rattle.rhai_variant.specs.Reads.{viewed, written_as}
use Rattle.rhai_cast.specs.Casts.{locked, lock_cell, lock_written, own_viewed}

-- a holder is of no type but `Dynamic`
of_holder : (k : TypeId) → is_type k id.Dynamic ≡ false → is_type k id.Shared ≡ false → (c : ℕ) (g : ℤ) (m : AccessMode) → viewed k (node (holder c) g m) ≡ None
of_holder id.Dynamic p q c g m = absurd (cc)
of_holder id.Shared p q c g m = absurd (cc)
of_holder _ p q c g m = refl

viewed_is : (k : TypeId) (t : Tree) → ((c : ℕ) (g : ℤ) (m : AccessMode) → viewed k (node (holder c) g m) ≡ None) → own_viewed k t ≡ viewed k t
viewed_is k (node (leaf l) g m) none = refl
viewed_is k (node (branch b ts) g m) none = refl
viewed_is k (node (fields fs) g m) none = refl
viewed_is k (node (holder c) g m) none = sym (none c g m)

module _ (T : RattleType) (tree : T.Denot → Tree) where
  abbrev pub Has : Option (MutBor T.Denot) → Option Tree
  Has o = option_map (λ r. tree r.now) o

  -- the separate borrows: of the value, where o is from it, and of the store, where r is from its cell x
  abbrev pub OwnSide : TypeId → MutBor Tree → Option (MutBor T.Denot) → Fml
  OwnSide k v o = follows_if dynamic.the_row T v.ghost_name (ghost_name_of o) (λ w. written_as k (tree w) v.now) v.now

  abbrev pub FarSide : TypeId → MutBor (List Cell) → Option ℕ → Option (MutBor T.Denot) → Fml
  FarSide k m x r = follows_if store.the_row T m.ghost_name (ghost_name_of r) (λ w. edit_in x (written_as k (tree w)) m.now) m.now

  -- the borrow from both
  abbrev pub OwnLock : TypeId → MutBor Tree → MutBor (List Cell) → Option (MutBor T.Denot) → Fml
  OwnLock k v m p = follows_if dynamic.the_row T v.ghost_name (own_lent (cell_of v.now) (ghost_name_of p)) (λ w. (lock_written k (record { value = v; store = m }) (tree w)).value.now) v.now

  abbrev pub FarLock : TypeId → MutBor Tree → MutBor (List Cell) → Option (MutBor T.Denot) → Fml
  FarLock k v m p = follows_if store.the_row T m.ghost_name (far_lent (cell_of v.now) (ghost_name_of p)) (λ w. (lock_written k (record { value = v; store = m }) (tree w)).store.now) m.now

  -- ---- a `Dynamic`: the first content

  whole : (v : MutBor Tree) (t : Tree) (o r : Option (MutBor T.Denot)) → None ≡ cell_of t → Has o ≡ Some t
      → follows_if dynamic.the_row T v.ghost_name (ghost_name_of o) tree v.now ≡ follows_if dynamic.the_row T v.ghost_name (ghost_name_of (either_of o r)) tree v.now
  whole v t None r n h = cc
  whole v t (Some d) r n h = refl

  nothing : (o : Option (MutBor T.Denot)) → Has o ≡ None → None ≡ o
  nothing None h = refl
  nothing (Some d) h = cc

  own_first : (v : MutBor Tree) (t : Tree) (o r : Option (MutBor T.Denot)) → Has o ≡ own_viewed id.Dynamic t
      → follows_if dynamic.the_row T v.ghost_name (ghost_name_of o) (λ w. written_as id.Dynamic (tree w) t) v.now ≡ follows_if dynamic.the_row T v.ghost_name (own_lent (cell_of t) (ghost_name_of (either_of o r))) (λ w. value_with_first (tree w) t) v.now
  unfolding follows_by
  own_first v (node (leaf l) g m) o r h = whole v (node (leaf l) g m) o r refl h
  own_first v (node (branch b ts) g m) o r h = whole v (node (branch b ts) g m) o r refl h
  own_first v (node (fields fs) g m) o r h = whole v (node (fields fs) g m) o r refl h
  own_first v (node (holder c) g m) o r h = ap (λ z. follows_if dynamic.the_row T v.ghost_name (ghost_name_of z) (λ w. tree w) v.now) (sym (nothing o h))

  first_put : (m : MutBor (List Cell)) (c : ℕ) (u : Option Tree) (x : Option ℕ) (d : MutBor T.Denot) → at m.now c ≡ u → x ≡ site_cell (option_map (λ _. InCell c) u) → Has (Some d) ≡ option_and_then (viewed id.Dynamic) (content_in x m.now)
      → FarSide id.Dynamic m x (Some d) ≡ follows_if store.the_row T m.ghost_name (maybe.some d.ghost_name) (λ w. put m.now c (tree w)) m.now
  first_put m c None x d a e f = let g : Has (Some d) ≡ None = f ∙ ap (λ z. option_and_then (viewed id.Dynamic) (content_in z m.now)) e in absurd (cc)
  first_put m c (Some y) x d a e f =
      ap (λ z. FarSide id.Dynamic m z (Some d)) e
      ∙ ap (λ z. follows_if store.the_row T m.ghost_name (maybe.some d.ghost_name) (λ w. edited c (written_as id.Dynamic (tree w)) z m.now) m.now) (read_at m.now c y a)

  no_first : (s : List Cell) (x : Option ℕ) (r : Option (MutBor T.Denot)) → x ≡ None → Has r ≡ option_and_then (viewed id.Dynamic) (content_in x s) → None ≡ r
  no_first s x r e f = nothing r (f ∙ ap (λ z. option_and_then (viewed id.Dynamic) (content_in z s)) e)

  far_holder : (m : MutBor (List Cell)) (c : ℕ) (g : ℤ) (n : AccessMode) (x : Option ℕ) (r : Option (MutBor T.Denot)) → x ≡ first_cell m.now (node (holder c) g n) → Has r ≡ option_and_then (viewed id.Dynamic) (content_in x m.now)
      → FarSide id.Dynamic m x r ≡ follows_if store.the_row T m.ghost_name (ghost_name_of r) (λ w. put m.now c (tree w)) m.now
  unfolding follows_by
  far_holder m c g n x None e f = refl
  far_holder m c g n x (Some d) e f = first_put m c (at m.now c) x d refl e f

  far_first : (m : MutBor (List Cell)) (t : Tree) (x : Option ℕ) (o r : Option (MutBor T.Denot)) → x ≡ first_cell m.now t → Has o ≡ own_viewed id.Dynamic t → Has r ≡ option_and_then (viewed id.Dynamic) (content_in x m.now)
      → FarSide id.Dynamic m x r ≡ follows_if store.the_row T m.ghost_name (far_lent (cell_of t) (ghost_name_of (either_of o r))) (λ w. store_with_first (tree w) m.now t) m.now
  unfolding follows_by
  far_first m (node (leaf l) g n) x o r e h f = ap (FarSide id.Dynamic m x) (sym (no_first m.now x r e f))
  far_first m (node (branch b ts) g n) x o r e h f = ap (FarSide id.Dynamic m x) (sym (no_first m.now x r e f))
  far_first m (node (fields fs) g n) x o r e h f = ap (FarSide id.Dynamic m x) (sym (no_first m.now x r e f))
  far_first m (node (holder c) g n) x o r e h f =
      far_holder m c g n x r e f ∙ ap (λ z. follows_if store.the_row T m.ghost_name (ghost_name_of (either_of z r)) (λ w. put m.now c (tree w)) m.now) (nothing o h)

  first_in : (s : List Cell) (c : ℕ) (u : Option Tree) (x : Option ℕ) (r : Option (MutBor T.Denot)) → at s c ≡ u → x ≡ site_cell (option_map (λ _. InCell c) u) → Has r ≡ option_and_then (viewed id.Dynamic) (content_in x s) → Has r ≡ u
  first_in s c None x r a e f = f ∙ ap (λ z. option_and_then (viewed id.Dynamic) (content_in z s)) e
  first_in s c (Some y) x r a e f = f ∙ ap (λ z. option_and_then (viewed id.Dynamic) (content_in z s)) e ∙ ap (option_and_then (viewed id.Dynamic)) (read_at s c y a)

  found_own : (t : Tree) (o r : Option (MutBor T.Denot)) → Has o ≡ Some t → Has (either_of o r) ≡ Some t
  found_own t None r h = cc
  found_own t (Some d) r h = h

  found_first : (s : List Cell) (t : Tree) (x : Option ℕ) (o r : Option (MutBor T.Denot)) → x ≡ first_cell s t → Has o ≡ own_viewed id.Dynamic t → Has r ≡ option_and_then (viewed id.Dynamic) (content_in x s) → Has (either_of o r) ≡ first s t
  found_first s (node (leaf l) g n) x o r e h f = found_own (node (leaf l) g n) o r h
  found_first s (node (branch b ts) g n) x o r e h f = found_own (node (branch b ts) g n) o r h
  found_first s (node (fields fs) g n) x o r e h f = found_own (node (fields fs) g n) o r h
  found_first s (node (holder c) g n) x o r e h f = ap (λ z. Has (either_of z r)) (sym (nothing o h)) ∙ first_in s c (at s c) x r refl e f

  -- ---- any type

  abbrev pub IsLent : TypeId → List Cell → Tree → Option ℕ → Option (MutBor T.Denot) → Option (MutBor T.Denot) → Type 0
  IsLent k s t x o r = (x ≡ lock_cell k s t) × (Has o ≡ own_viewed k t) × (Has r ≡ option_and_then (viewed k) (content_in x s))

  pub own_lock : (k : TypeId) (v : MutBor Tree) (m : MutBor (List Cell)) (x : Option ℕ) (o r : Option (MutBor T.Denot)) → is_type k id.Shared ≡ false → IsLent k m.now v.now x o r → OwnSide k v o ≡ OwnLock k v m (either_of o r)
  own_lock id.Dynamic v m x o r p h = own_first v v.now o r h.1
  own_lock id.Shared v m x o r p h = absurd (cc)
  own_lock k v m x o r p h = let none = of_holder k refl p in own_at T tree (λ w. written_as k (tree w)) (viewed k) none v m.now v.now x o r h.0 (h.1 ∙ viewed_is k v.now none) h.2

  pub far_lock : (k : TypeId) (v : MutBor Tree) (m : MutBor (List Cell)) (x : Option ℕ) (o r : Option (MutBor T.Denot)) → is_type k id.Shared ≡ false → IsLent k m.now v.now x o r → FarSide k m x r ≡ FarLock k v m (either_of o r)
  far_lock id.Dynamic v m x o r p h = far_first m v.now x o r h.0 h.1 h.2
  far_lock id.Shared v m x o r p h = absurd (cc)
  far_lock k v m x o r p h = let none = of_holder k refl p in far_at T tree (λ w. written_as k (tree w)) (viewed k) none m v.now x o r h.0 (h.1 ∙ viewed_is k v.now none) h.2

  pub lock_found : (k : TypeId) (s : List Cell) (t : Tree) (x : Option ℕ) (o r : Option (MutBor T.Denot)) → is_type k id.Shared ≡ false → IsLent k s t x o r → Has (either_of o r) ≡ locked k s t
  lock_found id.Dynamic s t x o r p h = found_first s t x o r h.0 h.1 h.2
  lock_found id.Shared s t x o r p h = absurd (cc)
  lock_found k s t x o r p h = let none = of_holder k refl p in found T tree (λ w. written_as k (tree w)) (viewed k) none s t x o r h.0 (h.1 ∙ viewed_is k t none) h.2
