-- Write-backs of values that are equal up to a renaming of cells.
use Rattle.std.proofs.Common.{◌≡◌, ℕ, ℤ, true, List, [], length, Option, Some, None, option_map, refl, subst}
use Rattle.rhai_text.specs.Text.{with_slice}
use Rattle.rhai_value.specs.declared.value.access_mode.AccessMode.{AccessMode}
use Rattle.rhai_value.specs.declared.cells.store.Cell.{Cell}
use Rattle.rhai_value.specs.Tree.{Tree, node, Leaf, leaf}
use Rattle.rhai_value.specs.Parts.{leaf_part, leaf_bool, leaf_int, leaf_char, leaf_text, leaf_blob}
use Rattle.rhai_value.specs.Store.{marked_with, is_marked_at}
use Rattle.rhai_value.specs.End.{End, end, held_part, held_cell}
use Rattle.rhai_value.specs.Relation.{Renaming, paired, Related, Alike, Respect, IsOneToOne, RelatedCells, RelatedEnds}
use Rattle.rhai_value.proofs.ForCallers.{by_trees, same_end, same_held_leaf, same_value_after, same_store_after, length_store_after, marked_store_after}
use Rattle.rhai_show.specs.declared.form.Form.TheVariants.{Display}
use Rattle.rhai_target.specs.declared.slice.Slice.{Slice}
use Rattle.rhai_target.specs.Change.{Change, with_leaf, on_text, sliced, bit_change, field_change, byte_change, char_change, slice_change, value_changed, store_changed}
use Rattle.rhai_target.proofs.FromBelow.{same_set_mark, same_held_cell, same_printed}

-- a change of a part of leaves
same_leaf : {A : Type 0} (r : Renaming) (g : A → Leaf) (o : Option A) (l : Leaf) (k : ℤ) (m : AccessMode) → Related r (with_leaf (option_map g o) (node (leaf l) k m)) (with_leaf (option_map g o) (node (leaf l) k m))
same_leaf r g None l k m = (refl, refl, refl)
same_leaf r g (Some a) l k m = (refl, refl, refl)

pub same_leaf_change : {A : Type 0} (r : Renaming) (part : Leaf → Option A) (g : A → Leaf) → Respect r (λ t. with_leaf (option_map g (leaf_part part t)) t) (λ t. with_leaf (option_map g (leaf_part part t)) t)
same_leaf_change r part g =
    by_trees r (λ t u. Related r (with_leaf (option_map g (leaf_part part t)) t) (with_leaf (option_map g (leaf_part part u)) u))
    (λ l k m. same_leaf r g (part l) l k m) (λ k ts us i m e. ((refl, e), refl, refl)) (λ fs hs i m e. (e, refl, refl)) (λ c d i m e. (e, refl, refl))

-- a change by the held part of a leaf
alike_self : {A : Type 0} (r : Renaming) (f : A → Tree → Tree) → ((a : A) → Respect r (f a) (f a)) → (o : Option A) → Alike (Respect r) (option_map f o) (option_map f o)
alike_self r f same None = tt
alike_self r f same (Some a) = same a

by_held : {A : Type 0} (r : Renaming) (part : Leaf → Option A) (f : A → Tree → Tree) → ((a : A) → Respect r (f a) (f a)) → (s z : List Cell) (v w : Tree)
    → IsOneToOne r → RelatedCells r s z → Related r v w
    → Alike (Respect r) (option_map f (held_part (leaf_part part) (end s [] v))) (option_map f (held_part (leaf_part part) (end z [] w)))
by_held r part f same s z v w one cells h =
    let o = held_part (leaf_part part) (end s [] v) in
    subst (λ p. Alike (Respect r) (option_map f o) (option_map f p)) (same_held_leaf r part _ _ (same_end r s z v w one cells h)) (alike_self r f same o)

pub same_bit_change : (r : Renaming) (s z : List Cell) (v w : Tree) (place : ℕ) → IsOneToOne r → RelatedCells r s z → Related r v w
    → Alike (Respect r) (bit_change s v place) (bit_change z w place)
same_bit_change r s z v w place = by_held r leaf_bool _ (λ b. same_leaf_change r leaf_int _) s z v w

pub same_field_change : (r : Renaming) (s z : List Cell) (v w : Tree) (mask : ℤ) (shift : ℕ) → IsOneToOne r → RelatedCells r s z → Related r v w
    → Alike (Respect r) (field_change s v mask shift) (field_change z w mask shift)
same_field_change r s z v w mask shift = by_held r leaf_int _ (λ n. same_leaf_change r leaf_int _) s z v w

pub same_byte_change : (r : Renaming) (s z : List Cell) (v w : Tree) (index : ℕ) → IsOneToOne r → RelatedCells r s z → Related r v w
    → Alike (Respect r) (byte_change s v index) (byte_change z w index)
same_byte_change r s z v w index = by_held r leaf_int _ (λ n. same_leaf_change r leaf_blob _) s z v w

pub same_char_change : (r : Renaming) (s z : List Cell) (v w : Tree) (index : ℕ) → IsOneToOne r → RelatedCells r s z → Related r v w
    → Alike (Respect r) (char_change s v index) (char_change z w index)
same_char_change r s z v w index = by_held r leaf_char _ (λ c. same_leaf_change r leaf_text _) s z v w

-- marks on paired cells
pub same_marked_with : (r : Renaming) (s z : List Cell) (o p : Option ℕ) → IsOneToOne r → RelatedCells r s z → Alike (λ c d. paired r c d ≡ true) o p → RelatedCells r (marked_with o s) (marked_with p z)
same_marked_with r s z None None one cells h = cells
same_marked_with r s z (Some c) (Some d) one cells h = same_set_mark r s z c d true one cells h
same_marked_with r s z None (Some d) one cells h = absurd h
same_marked_with r s z (Some c) None one cells h = absurd h

pub same_slice_change : (r : Renaming) (s z : List Cell) (t u v w : Tree) (slice : Slice) → IsOneToOne r → RelatedCells r s z → Related r t u → Related r v w
    → Alike (Respect r) (slice_change s t v slice) (slice_change z u w slice)
same_slice_change r s z t u v w slice one cells h q =
    let n = marked_with (held_cell (end s [] t)) s in
    let m = marked_with (held_cell (end z [] u)) z in
    let marked : RelatedCells r n m = same_marked_with r s z _ _ one cells (same_held_cell r _ _ (same_end r s z t u one cells h)) in
    subst (λ p. Respect r (on_text (sliced n v slice)) (on_text (λ cs. with_slice cs slice.start slice.end slice.exclusive (p Display)))) (same_printed r n m v w one marked q)
    (same_leaf_change r leaf_text _)

-- the state after a write-back
pub same_value_changed : (r : Renaming) (c d : Change) (t u : Tree) (e o : End) → Alike (Respect r) c d → Related r t u → RelatedEnds r e o
    → Related r (value_changed c e t) (value_changed d o u)
same_value_changed r None None t u e o k h q = h
same_value_changed r (Some f) (Some g) t u e o k h q = same_value_after r f g t u k h e o q
same_value_changed r None (Some g) t u e o k h q = absurd k
same_value_changed r (Some f) None t u e o k h q = absurd k

pub same_store_changed : (r : Renaming) (c d : Change) (s z : List Cell) (e o : End) → Alike (Respect r) c d → IsOneToOne r → RelatedCells r s z → RelatedEnds r e o
    → RelatedCells r (store_changed c e s) (store_changed d o z)
same_store_changed r None None s z e o k one cells q = cells
same_store_changed r (Some f) (Some g) s z e o k one cells q = same_store_after r f g s z k one cells e o q
same_store_changed r None (Some g) s z e o k one cells q = absurd k
same_store_changed r (Some f) None s z e o k one cells q = absurd k

-- no cell is made, and no mark is set or cleared
pub length_changed : (c : Change) (e : End) (s : List Cell) → length (store_changed c e s) ≡ length s
length_changed None e s = refl
length_changed (Some f) e s = length_store_after f e s

pub marked_changed : (c : Change) (e : End) (s : List Cell) (d : ℕ) → is_marked_at (store_changed c e s) d ≡ is_marked_at s d
marked_changed None e s d = refl
marked_changed (Some f) e s d = marked_store_after f e s d
