-- Writes to items of lists, and to leaves of values.
use Rattle.std.proofs.Common.{◌≡◌, ℕ, zero, suc, ℤ, pos, ◌<◌, List, [], ◌∷◌, length, slice_get, slice_set, Option, Some, None, option_map, refl, sym, ap, arith}
use Rattle.std.proofs.Math.Nat.{mod-eq_of_lt}
use Rattle.rhai_value.specs.Tree.{Tree, node, Leaf, int, text, blob, tag_of, mode_of}
use Rattle.rhai_value.specs.Parts.{leaf_part, leaf_int, leaf_text, leaf_blob, int_of, text_of, blob_of}
use Rattle.rhai_value.specs.Bytes.{low_byte}
use Rattle.rhai_target.specs.Change.{with_leaf, on_int, on_bytes, on_text}

pub item_written : (items : List ℕ) (index x : ℕ) → index < length items → slice_get (slice_set items index x) index ≡ Some x
item_written [] index x h = absurd (omega arith)
item_written (y ∷ ys) zero x h = refl
item_written (y ∷ ys) (suc index) x h = item_written ys index x (omega arith)

pub other_items : (items : List ℕ) (index i x : ℕ) → (i ≡ index → ⊥) → slice_get (slice_set items index x) i ≡ slice_get items i
other_items [] index i x h = refl
other_items (y ∷ ys) zero zero x h = absurd (h refl)
other_items (y ∷ ys) zero (suc i) x h = refl
other_items (y ∷ ys) (suc index) zero x h = refl
other_items (y ∷ ys) (suc index) (suc i) x h = other_items ys index i x (λ e. h (ap suc e))

pub item_kept : (items : List ℕ) (index x : ℕ) → slice_get items index ≡ Some x → slice_set items index x ≡ items
item_kept [] index x h = refl
item_kept (y ∷ ys) zero x h = let same : y ≡ x = cc in ap (λ z. z ∷ ys) (sym same)
item_kept (y ∷ ys) (suc index) x h = ap (λ zs. y ∷ zs) (item_kept ys index x h)

pub byte_kept : (b : ℕ) → b < 256 → low_byte (pos b) ≡ b
byte_kept b h = mod-eq_of_lt h

pub leaf_tag : (l : Option Leaf) (t : Tree) → tag_of (with_leaf l t) ≡ tag_of t
leaf_tag None t = refl
leaf_tag (Some l) (node c g m) = refl

pub leaf_mode : (l : Option Leaf) (t : Tree) → mode_of (with_leaf l t) ≡ mode_of t
leaf_mode None t = refl
leaf_mode (Some l) (node c g m) = refl

-- a part of a leaf is changed by its function
pub changed : {A : Type 0} (part : Leaf → Option A) (make : A → Leaf) → ((a : A) → part (make a) ≡ Some a) → (f : A → A) (t : Tree) (o : Option A) → leaf_part part t ≡ o
    → leaf_part part (with_leaf (option_map (λ a. make (f a)) o) t) ≡ option_map f o
changed part make has f t None e = e
changed part make has f (node c g m) (Some a) e = has (f a)

pub int_changed : (f : ℤ → ℤ) (t : Tree) → int_of (on_int f t) ≡ option_map f (int_of t)
int_changed f t = changed leaf_int int (λ n. refl) f t (int_of t) refl

pub bytes_changed : (f : List ℕ → List ℕ) (t : Tree) → blob_of (on_bytes f t) ≡ option_map f (blob_of t)
bytes_changed f t = changed leaf_blob blob (λ n. refl) f t (blob_of t) refl

pub text_changed : (f : List ℕ → List ℕ) (t : Tree) → text_of (on_text f t) ≡ option_map f (text_of t)
text_changed f t = changed leaf_text text (λ n. refl) f t (text_of t) refl
