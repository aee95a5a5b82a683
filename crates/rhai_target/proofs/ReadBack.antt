-- A part that was written back is held afterwards, and writing a part over itself changes nothing.
use Rattle.std.proofs.Common.{◌≡◌, ℕ, ℤ, pos, ◌<◌, ◌^◌, ◌*ℤ◌, ◌+◌, Bool, true, false, ◌&&◌, List, [], length, slice_get, slice_set, Option, Some, None, option_map, option_and_then, refl, sym, ap, ◌∙◌, w64, FitsSigned}
use Rattle.std.specs.Int.{int_wrap}
use Rattle.rhai_value.specs.declared.cells.chain.Site.TheVariants.{Here, InCell}
use Rattle.rhai_value.specs.declared.cells.store.Cell.{Cell}
use Rattle.rhai_value.specs.Tree.{Tree, node, Leaf, leaf, branch, fields, holder, unit, bool, int, char, text, blob, host, cell_of}
use Rattle.rhai_value.specs.Parts.{leaf_part, leaf_int, leaf_text, leaf_blob, bool_of, int_of, char_of, text_of, blob_of}
use Rattle.rhai_value.specs.Store.{put}
use Rattle.rhai_value.specs.End.{End, held, stuck, closed, end, held_part, value_after, store_after}
use Rattle.rhai_value.proofs.ForCallers.{end_own}
use Rattle.rhai_bits.specs.Bits.{bit, int_of_bits, with_bit, with_field, field}
use Rattle.rhai_value.specs.Bytes.{low_byte}
use Rattle.rhai_target.specs.Change.{Change, with_leaf, bit_change, field_change, byte_change, char_change, value_changed, store_changed, end_changed}
use Rattle.rhai_target.proofs.EndsAfter.{end_put}
use Rattle.rhai_target.proofs.FromBelow.{put-same, stands}
use Rattle.rhai_bits.proofs.IntBits.{bit_written, other_bits, bit_kept, outside_field, inside_field, field_written, field_kept}
use Rattle.rhai_target.proofs.Items.{changed, item_written, other_items, item_kept, byte_kept}

-- a part of leaves
module _ {A : Type 0} (part : Leaf → Option A) (make : A → Leaf) (has : (a : A) → part (make a) ≡ Some a) (is : (l : Leaf) (a : A) → part l ≡ Some a → make a ≡ l) where
  abbrev on : (A → A) → Tree → Tree
  on f t = with_leaf (option_map (λ a. make (f a)) (leaf_part part t)) t

  no_holder : (t : Tree) (a : A) → leaf_part part t ≡ Some a → cell_of t ≡ None
  no_holder (node (leaf l) g m) a e = refl
  no_holder (node (branch k ts) g m) a e = refl
  no_holder (node (fields fs) g m) a e = refl
  no_holder (node (holder c) g m) a e = cc

  held_at : (f : A → A) (s : List Cell) (t : Tree) (a : A) (e : End) → e ≡ end s [] t → held_part (leaf_part part) e ≡ Some a
      → held_part (leaf_part part) (end (store_after (on f) e s) [] (value_after (on f) e t)) ≡ Some (f a)
  held_at f s t a (held Here v) here some =
      let read = changed part make has f v (leaf_part part v) refl ∙ ap (option_map f) some in
      ap (held_part (leaf_part part)) (end_own s [] (on f v) (no_holder (on f v) (f a) read)) ∙ read
  held_at f s t a (held (InCell c) v) here some =
      let read = changed part make has f v (leaf_part part v) refl ∙ ap (option_map f) some in
      ap (held_part (leaf_part part)) (end_put s c v (on f v) (stands s t (InCell c) v here) (no_holder v a some) (no_holder (on f v) (f a) read) t (sym here)) ∙ read
  held_at f s t a (stuck v) here some = cc
  held_at f s t a closed here some = cc

  over_itself : (f : A → A) (t : Tree) (a : A) → leaf_part part t ≡ Some a → f a ≡ a → on f t ≡ t
  over_itself f (node (leaf l) g m) a e same = ap (λ o. with_leaf (option_map (λ x. make (f x)) o) (node (leaf l) g m)) e ∙ ap (λ x. node (leaf x) g m) (ap make same ∙ is l a e)
  over_itself f (node (branch k ts) g m) a e same = refl
  over_itself f (node (fields fs) g m) a e same = refl
  over_itself f (node (holder c) g m) a e same = refl

  kept_at : (f : A → A) (s : List Cell) (t : Tree) (a : A) (e : End) → e ≡ end s [] t → held_part (leaf_part part) e ≡ Some a → f a ≡ a
      → (value_after (on f) e t ≡ t) × (store_after (on f) e s ≡ s)
  kept_at f s t a (held Here v) here some same = (over_itself f v a some same ∙ sym (stands s t Here v here), refl)
  kept_at f s t a (held (InCell c) v) here some same = (refl, ap (put s c) (over_itself f v a some same) ∙ put-same s c v (stands s t (InCell c) v here))
  kept_at f s t a (stuck v) here some same = cc
  kept_at f s t a closed here some same = cc

  -- a change by a value x
  module _ {X : Type 0} (by : X → A → A) (o : Option X) (x : X) (given : o ≡ Some x) (s : List Cell) (t : Tree) (a : A) (some : held_part (leaf_part part) (end s [] t) ≡ Some a) where
    abbrev change : Option X → Change
    change p = option_map (λ y. on (by y)) p

    made_held : held_part (leaf_part part) (end_changed (change o) s t) ≡ Some (by x a)
    made_held = ap (λ p. held_part (leaf_part part) (end_changed (change p) s t)) given ∙ held_at (by x) s t a (end s [] t) refl some

    made_kept : by x a ≡ a → (value_changed (change o) (end s [] t) t ≡ t) × (store_changed (change o) (end s [] t) s ≡ s)
    made_kept same =
        let kept = kept_at (by x) s t a (end s [] t) refl some same in
        (ap (λ p. value_changed (change p) (end s [] t) t) given ∙ kept.0, ap (λ p. store_changed (change p) (end s [] t) s) given ∙ kept.1)

int_is : (l : Leaf) (n : ℤ) → leaf_int l ≡ Some n → int n ≡ l
int_is unit n e = cc
int_is (bool b) n e = cc
int_is (int k) n e = cc
int_is (char c) n e = cc
int_is (text x) n e = cc
int_is (blob bs) n e = cc
int_is (host h) n e = cc

text_is : (l : Leaf) (x : List ℕ) → leaf_text l ≡ Some x → text x ≡ l
text_is unit x e = cc
text_is (bool b) x e = cc
text_is (int k) x e = cc
text_is (char c) x e = cc
text_is (text y) x e = cc
text_is (blob bs) x e = cc
text_is (host h) x e = cc

blob_is : (l : Leaf) (x : List ℕ) → leaf_blob l ≡ Some x → blob x ≡ l
blob_is unit x e = cc
blob_is (bool b) x e = cc
blob_is (int k) x e = cc
blob_is (char c) x e = cc
blob_is (text y) x e = cc
blob_is (blob bs) x e = cc
blob_is (host h) x e = cc

module _ (s : List Cell) (t v : Tree) where
  -- bits
  bit_held : (place : ℕ) (n : ℤ) (b : Bool) → held_part int_of (end s [] t) ≡ Some n → held_part bool_of (end s [] v) ≡ Some b
      → held_part int_of (end_changed (bit_change s v place) s t) ≡ Some (with_bit place b n)
  bit_held place n b some given = made_held leaf_int int (λ m. refl) int_is (with_bit place) (held_part bool_of (end s [] v)) b given s t n some

  pub bit_read : (place : ℕ) (n : ℤ) (b : Bool) → place < 64 → held_part int_of (end s [] t) ≡ Some n → held_part bool_of (end s [] v) ≡ Some b
      → option_map (λ m. bit m place) (held_part int_of (end_changed (bit_change s v place) s t)) ≡ Some b
  bit_read place n b low some given = ap (option_map (λ m. bit m place)) (bit_held place n b some given) ∙ ap Some (bit_written place b n low)

  pub other_bits_read : (place i : ℕ) (n : ℤ) (b : Bool) → i < 64 → (i ≡ place → ⊥) → held_part int_of (end s [] t) ≡ Some n → held_part bool_of (end s [] v) ≡ Some b
      → option_map (λ m. bit m i) (held_part int_of (end_changed (bit_change s v place) s t)) ≡ Some (bit n i)
  other_bits_read place i n b low away some given = ap (option_map (λ m. bit m i)) (bit_held place n b some given) ∙ ap Some (other_bits place i b n low away)

  pub same_bit_keeps : (place : ℕ) (n : ℤ) → FitsSigned w64 n → held_part int_of (end s [] t) ≡ Some n → held_part bool_of (end s [] v) ≡ Some (bit n place)
      → (value_changed (bit_change s v place) (end s [] t) t ≡ t) × (store_changed (bit_change s v place) (end s [] t) s ≡ s)
  same_bit_keeps place n fits some given = made_kept leaf_int int (λ m. refl) int_is (with_bit place) (held_part bool_of (end s [] v)) (bit n place) given s t n some (bit_kept place n fits)

  -- fields
  field_held : (mask : ℤ) (shift : ℕ) (n x : ℤ) → held_part int_of (end s [] t) ≡ Some n → held_part int_of (end s [] v) ≡ Some x
      → held_part int_of (end_changed (field_change s v mask shift) s t) ≡ Some (with_field mask shift x n)
  field_held mask shift n x some given = made_held leaf_int int (λ m. refl) int_is (with_field mask shift) (held_part int_of (end s [] v)) x given s t n some

  pub outside_read : (mask : ℤ) (shift i : ℕ) (n x : ℤ) → i < 64 → bit mask i ≡ false → held_part int_of (end s [] t) ≡ Some n → held_part int_of (end s [] v) ≡ Some x
      → option_map (λ m. bit m i) (held_part int_of (end_changed (field_change s v mask shift) s t)) ≡ Some (bit n i)
  outside_read mask shift i n x low out some given = ap (option_map (λ m. bit m i)) (field_held mask shift n x some given) ∙ ap Some (outside_field mask x n shift i low out)

  pub inside_read : (mask : ℤ) (shift i : ℕ) (n x : ℤ) → i < 64 → shift < 64 → FitsSigned w64 x → bit mask i ≡ true → held_part int_of (end s [] t) ≡ Some n → held_part int_of (end s [] v) ≡ Some x
      → option_map (λ m. bit m i) (held_part int_of (end_changed (field_change s v mask shift) s t)) ≡ Some (bit (int_wrap w64 (x *ℤ pos (2 ^ shift))) i)
  inside_read mask shift i n x low by fits inside some given = ap (option_map (λ m. bit m i)) (field_held mask shift n x some given) ∙ ap Some (inside_field mask x n shift i low by fits inside)

  pub field_read : (mask : ℤ) (shift : ℕ) (n x : ℤ) → FitsSigned w64 mask → held_part int_of (end s [] t) ≡ Some n → held_part int_of (end s [] v) ≡ Some x
      → option_map (field mask shift) (held_part int_of (end_changed (field_change s v mask shift) s t)) ≡ Some (int_of_bits (λ i. bit mask (i + shift) && bit x i))
  field_read mask shift n x fits some given = ap (option_map (field mask shift)) (field_held mask shift n x some given) ∙ ap Some (field_written mask x n shift fits)

  pub same_field_keeps : (mask : ℤ) (shift : ℕ) (n : ℤ) → FitsSigned w64 n → ((i : ℕ) → i < shift → bit mask i ≡ false) → held_part int_of (end s [] t) ≡ Some n
      → held_part int_of (end s [] v) ≡ Some (field mask shift n)
      → (value_changed (field_change s v mask shift) (end s [] t) t ≡ t) × (store_changed (field_change s v mask shift) (end s [] t) s ≡ s)
  same_field_keeps mask shift n fits none some given =
      made_kept leaf_int int (λ m. refl) int_is (with_field mask shift) (held_part int_of (end s [] v)) (field mask shift n) given s t n some (field_kept mask n shift fits none)

  -- bytes
  byte_held : (index : ℕ) (bs : List ℕ) (n : ℤ) → held_part blob_of (end s [] t) ≡ Some bs → held_part int_of (end s [] v) ≡ Some n
      → held_part blob_of (end_changed (byte_change s v index) s t) ≡ Some (slice_set bs index (low_byte n))
  byte_held index bs n some given = made_held leaf_blob blob (λ x. refl) blob_is (λ m x. slice_set x index (low_byte m)) (held_part int_of (end s [] v)) n given s t bs some

  pub byte_read : (index : ℕ) (bs : List ℕ) (n : ℤ) → index < length bs → held_part blob_of (end s [] t) ≡ Some bs → held_part int_of (end s [] v) ≡ Some n
      → option_and_then (λ x. slice_get x index) (held_part blob_of (end_changed (byte_change s v index) s t)) ≡ Some (low_byte n)
  byte_read index bs n low some given = ap (option_and_then (λ x. slice_get x index)) (byte_held index bs n some given) ∙ item_written bs index (low_byte n) low

  pub other_bytes_read : (index i : ℕ) (bs : List ℕ) (n : ℤ) → (i ≡ index → ⊥) → held_part blob_of (end s [] t) ≡ Some bs → held_part int_of (end s [] v) ≡ Some n
      → option_and_then (λ x. slice_get x i) (held_part blob_of (end_changed (byte_change s v index) s t)) ≡ slice_get bs i
  other_bytes_read index i bs n away some given = ap (option_and_then (λ x. slice_get x i)) (byte_held index bs n some given) ∙ other_items bs index i (low_byte n) away

  pub same_byte_keeps : (index b : ℕ) (bs : List ℕ) → b < 256 → slice_get bs index ≡ Some b → held_part blob_of (end s [] t) ≡ Some bs → held_part int_of (end s [] v) ≡ Some (pos b)
      → (value_changed (byte_change s v index) (end s [] t) t ≡ t) × (store_changed (byte_change s v index) (end s [] t) s ≡ s)
  same_byte_keeps index b bs low stood some given =
      made_kept leaf_blob blob (λ x. refl) blob_is (λ m x. slice_set x index (low_byte m)) (held_part int_of (end s [] v)) (pos b) given s t bs some
      (ap (slice_set bs index) (byte_kept b low) ∙ item_kept bs index b stood)

  -- characters
  char_held : (index : ℕ) (cs : List ℕ) (c : ℕ) → held_part text_of (end s [] t) ≡ Some cs → held_part char_of (end s [] v) ≡ Some c
      → held_part text_of (end_changed (char_change s v index) s t) ≡ Some (slice_set cs index c)
  char_held index cs c some given = made_held leaf_text text (λ x. refl) text_is (λ d x. slice_set x index d) (held_part char_of (end s [] v)) c given s t cs some

  pub char_read : (index : ℕ) (cs : List ℕ) (c : ℕ) → index < length cs → held_part text_of (end s [] t) ≡ Some cs → held_part char_of (end s [] v) ≡ Some c
      → option_and_then (λ x. slice_get x index) (held_part text_of (end_changed (char_change s v index) s t)) ≡ Some c
  char_read index cs c low some given = ap (option_and_then (λ x. slice_get x index)) (char_held index cs c some given) ∙ item_written cs index c low

  pub other_chars_read : (index i : ℕ) (cs : List ℕ) (c : ℕ) → (i ≡ index → ⊥) → held_part text_of (end s [] t) ≡ Some cs → held_part char_of (end s [] v) ≡ Some c
      → option_and_then (λ x. slice_get x i) (held_part text_of (end_changed (char_change s v index) s t)) ≡ slice_get cs i
  other_chars_read index i cs c away some given = ap (option_and_then (λ x. slice_get x i)) (char_held index cs c some given) ∙ other_items cs index i c away

  pub same_char_keeps : (index c : ℕ) (cs : List ℕ) → slice_get cs index ≡ Some c → held_part text_of (end s [] t) ≡ Some cs → held_part char_of (end s [] v) ≡ Some c
      → (value_changed (char_change s v index) (end s [] t) t ≡ t) × (store_changed (char_change s v index) (end s [] t) s ≡ s)
  same_char_keeps index c cs stood some given = made_kept leaf_text text (λ x. refl) text_is (λ d x. slice_set x index d) (held_part char_of (end s [] v)) c given s t cs some (item_kept cs index c stood)
