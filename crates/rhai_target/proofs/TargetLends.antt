-- The separate borrows from a target and the store agree with the borrow from both.
use Rattle.std.proofs.Common.{◌≡◌, ℕ, true, false, List, Option, Some, None, is_some, option_map, slice_get, refl, sym, ap, ◌∙◌, subst}
use Rattle.std.specs.Borrow.{MutBor, GName, Fml, follows_if}
use Rattle.std.specs.Option.{ghost_name_of, option_map_or}
use denote.Follow.{follows_by}
use Rattle.rhai_value.specs.declared.cells.store.Cell.{Cell}
use Rattle.rhai_value.specs.contracts.value.dynamic.Dynamic as dynamic
use Rattle.rhai_value.specs.contracts.cells.store.Store as store
use Rattle.rhai_value.specs.Tree.{Tree}
use Rattle.rhai_value.specs.Store.{content_at, is_marked_at}
use Rattle.rhai_target.specs.declared.target.Target.{Target}
use Rattle.rhai_target.specs.declared.target.Target.TheVariants.{RefMut, SharedValue, TempValue, Bit, BitField, BlobByte, StringChar, StringSlice}
use Rattle.rhai_target.specs.Target.{mark_in, IsMarkedIn, value_in, with_value, put_marked}
use Rattle.rhai_target.specs.Lent.{target_row, own_name, far_name, own_value, marked_value, either_of}

abbrev Has : Option (MutBor Tree) → Option Tree
Has o = option_map (λ d. d.now) o

-- a target without a mark is the source of the borrow itself, and one with a mark borrows from the cell
abbrev pub OwnSide : MutBor Target → Option (MutBor Tree) → Fml
OwnSide t o = follows_if target_row dynamic.the_row t.ghost_name (ghost_name_of o) (λ w. with_value w t.now) t.now

abbrev pub OwnLent : MutBor Target → Option ℕ → GName → Fml
OwnLent t k n = follows_if target_row dynamic.the_row t.ghost_name (own_name k n) (λ w. with_value w t.now) t.now

abbrev pub FarSide : MutBor Target → MutBor (List Cell) → Option (MutBor Tree) → Fml
FarSide t m r = follows_if store.the_row dynamic.the_row m.ghost_name (ghost_name_of r) (λ w. put_marked (mark_in t.now) w m.now) m.now

abbrev pub FarLent : MutBor Target → MutBor (List Cell) → Option ℕ → GName → Fml
FarLent t m k n = follows_if store.the_row dynamic.the_row m.ghost_name (far_name k n) (λ w. put_marked (mark_in t.now) w m.now) m.now

-- if one exists, the other doesn't
abbrev Apart : Option ℕ → Option Tree → Type 0
Apart None None = ⊥
Apart None (Some v) = Unit {0}
Apart (Some c) None = Unit {0}
Apart (Some c) (Some v) = ⊥

apart : (t : Target) → Apart (mark_in t) (own_value t)
apart (RefMut r) = tt
apart (SharedValue c v) = tt
apart (TempValue v) = tt
apart (Bit r v place) = tt
apart (BitField r v mask shift) = tt
apart (BlobByte r v index) = tt
apart (StringChar r v index) = tt
apart (StringSlice r v start end exclusive) = tt

own_at : (t : MutBor Target) (k : Option ℕ) (o r : Option (MutBor Tree)) (p : MutBor Tree) → Apart k (Has o) → either_of o r ≡ Some p → OwnSide t o ≡ OwnLent t k p.ghost_name
unfolding follows_by
own_at t None None r p h e = absurd h
own_at t None (Some d) r p h e = ap (OwnSide t) e
own_at t (Some c) None r p h e = refl
own_at t (Some c) (Some d) r p h e = absurd h

far_at : (t : MutBor Target) (m : MutBor (List Cell)) (s : List Cell) (k : Option ℕ) (o r : Option (MutBor Tree)) (p : MutBor Tree) → Apart k (Has o) → Has r ≡ marked_value k s → either_of o r ≡ Some p → FarSide t m r ≡ FarLent t m k p.ghost_name
unfolding follows_by
far_at t m s None None r p h f e = absurd h
far_at t m s None (Some d) None p h f e = refl
far_at t m s None (Some d) (Some u) p h f e = absurd (cc)
far_at t m s (Some c) None r p h f e = ap (FarSide t m) e
far_at t m s (Some c) (Some d) r p h f e = absurd h

pub own_side : (t : MutBor Target) (o r : Option (MutBor Tree)) (p : MutBor Tree) → Has o ≡ own_value t.now → either_of o r ≡ Some p → OwnSide t o ≡ OwnLent t (mark_in t.now) p.ghost_name
own_side t o r p h e = own_at t (mark_in t.now) o r p (subst (Apart (mark_in t.now)) (sym h) (apart t.now)) e

pub far_side : (t : MutBor Target) (m : MutBor (List Cell)) (o r : Option (MutBor Tree)) (p : MutBor Tree) → Has o ≡ own_value t.now → Has r ≡ marked_value (mark_in t.now) m.now → either_of o r ≡ Some p
    → FarSide t m r ≡ FarLent t m (mark_in t.now) p.ghost_name
far_side t m o r p h f e = far_at t m m.now (mark_in t.now) o r p (subst (Apart (mark_in t.now)) (sym h) (apart t.now)) f e

-- the borrow is of the working value
value_of : (s : List Cell) (t : Target) → either_of (own_value t) (marked_value (mark_in t) s) ≡ value_in s t
value_of s (RefMut r) = refl
value_of s (SharedValue c v) = refl
value_of s (TempValue v) = refl
value_of s (Bit r v place) = refl
value_of s (BitField r v mask shift) = refl
value_of s (BlobByte r v index) = refl
value_of s (StringChar r v index) = refl
value_of s (StringSlice r v start end exclusive) = refl

has_either : (o r : Option (MutBor Tree)) → Has (either_of o r) ≡ either_of (Has o) (Has r)
has_either None r = refl
has_either (Some d) r = refl

has_value : (s : List Cell) (t : Target) (o r : Option (MutBor Tree)) → Has o ≡ own_value t → Has r ≡ marked_value (mark_in t) s → Has (either_of o r) ≡ value_in s t
has_value s t o r h f = has_either o r ∙ ap (λ z. either_of z (Has r)) h ∙ ap (either_of (own_value t)) f ∙ value_of s t

pub is_value : (s : List Cell) (t : Target) (o r : Option (MutBor Tree)) (p : MutBor Tree) → Has o ≡ own_value t → Has r ≡ marked_value (mark_in t) s → either_of o r ≡ Some p → value_in s t ≡ Some p.now
is_value s t o r p h f e = sym (has_value s t o r h f) ∙ ap Has e

content_of : (o : Option Cell) → option_map_or (λ x. x.is_marked) o false ≡ true → is_some (option_map (λ x. x.content) o) ≡ true
content_of None h = cc
content_of (Some x) h = refl

marked_content : (s : List Cell) (c : ℕ) → is_marked_at s c ≡ true → is_some (content_at s c) ≡ true
marked_content s c h = content_of (slice_get s c) h

value_there : (s : List Cell) (t : Target) → IsMarkedIn s t → is_some (value_in s t) ≡ true
value_there s (RefMut r) h = refl
value_there s (SharedValue c v) h = marked_content s c h
value_there s (TempValue v) h = refl
value_there s (Bit r v place) h = refl
value_there s (BitField r v mask shift) h = refl
value_there s (BlobByte r v index) h = refl
value_there s (StringChar r v index) h = refl
value_there s (StringSlice r v start end exclusive) h = refl

some_has : (o : Option (MutBor Tree)) → is_some (Has o) ≡ is_some o
some_has None = refl
some_has (Some d) = refl

pub is_there : (s : List Cell) (t : Target) (o r : Option (MutBor Tree)) → Has o ≡ own_value t → Has r ≡ marked_value (mark_in t) s → IsMarkedIn s t → is_some (either_of o r) ≡ true
is_there s t o r h f g = sym (some_has (either_of o r)) ∙ ap is_some (has_value s t o r h f) ∙ value_there s t g
