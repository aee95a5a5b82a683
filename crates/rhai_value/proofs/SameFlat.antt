-- First contents, marks and flat values of related values, and a write seen through all holders of a cell.
use Rattle.std.proofs.Common.{◌≡◌, ℕ, zero, suc, Bool, true, false, List, [], ◌∷◌, slice_get, Option, Some, None, is_some, is_none, unwrap_or, ◌||◌, option_and_then, option_map, refl, sym, ap, ap₂, ◌∙◌, length}
use Rattle.rhai_value.specs.declared.cells.store.Cell.{Cell}
use Rattle.rhai_value.specs.Tree.{Tree, node, leaf, branch, fields, holder, cell_of, copy}
use Rattle.rhai_value.specs.Store.{at, put, unmarked}
use Rattle.rhai_value.specs.End.{End, held, stuck, closed, end, first, first_site, value_with_first, store_with_first, flat, flattened, flattened_holder, value_ahead, first_cell, held_cell, site_cell}
use Rattle.rhai_value.specs.Seen.{flat_source}
use Rattle.rhai_value.specs.declared.cells.chain.Site.TheVariants.{Here, InCell}
use Rattle.rhai_value.specs.Locked.{is_locked, is_one_locked, is_field_locked}
use Rattle.rhai_value.specs.Relation.{Renaming, paired, Related, Alike, IsOneToOne, RelatedCells, RelatedEnds}
use Rattle.rhai_value.proofs.Chains.{end_alone, end_barred, end_near}
use Rattle.rhai_value.proofs.RelatedCells.{by_ends, get_unchanged, same_put, length_changed}
use Rattle.rhai_value.proofs.SameTrees.{by_related, by_trees, same_copy}
use Rattle.rhai_value.proofs.SameWalks.{same_at, same_end}
use Rattle.rhai_value.proofs.Zips.{by_alike}

pub same_first : (r : Renaming) (s z : List Cell) → RelatedCells r s z → (t u : Tree) → Related r t u → Alike (Related r) (first s t) (first z u)
same_first r s z cells = by_trees r (λ t u. Alike (Related r) (first s t) (first z u)) (λ l g m. (refl, refl, refl)) (λ k ts us g m e. ((refl, e), refl, refl)) (λ fs hs g m e. (e, refl, refl)) (λ c d g m p. same_at r s z c d cells p)

-- of related values, both are locked or neither
same_none : {A B : Type 0} (R : A → B → Type 0) (o : Option A) (q : Option B) → Alike R o q → is_none o ≡ is_none q
same_none R = by_alike R (λ o q. is_none o ≡ is_none q) refl (λ a b h. refl)

pub same_locked : (r : Renaming) (s z : List Cell) → RelatedCells r s z → (t u : Tree) → Related r t u → is_locked s t ≡ is_locked z u
same_locked r s z cells = by_related r (λ t u. is_locked s t ≡ is_locked z u) (λ ts us. is_one_locked s ts ≡ is_one_locked z us) (λ fs hs. is_field_locked s fs ≡ is_field_locked z hs)
    (λ l g m. refl) (λ k ts us g m e h. h) (λ fs hs g m e h. h) (λ c d g m p. same_none (Related r) (at s c) (at z d) (same_at r s z c d cells p)) refl (λ t u ts us p q. ap₂ (λ a b. a || b) p q) refl (λ k t u fs hs p q. ap₂ (λ a b. a || b) p q)

same_value_ahead : (r : Renaming) (e f : End) → RelatedEnds r e f → Alike (Related r) (value_ahead e) (value_ahead f)
same_value_ahead r = by_ends r (λ e f. Alike (Related r) (value_ahead e) (value_ahead f)) (λ x y k. k) (λ c d x y p k. k) (λ x y k. k) tt

same_or : (r : Renaming) (t u : Tree) (o q : Option Tree) → Related r t u → Alike (Related r) o q → Related r (unwrap_or o t) (unwrap_or q u)
same_or r t u o q h = by_alike (Related r) (λ o q. Related r (unwrap_or o t) (unwrap_or q u)) h (λ x y k. k) o q

pub same_flat : (r : Renaming) (s z : List Cell) (t u : Tree) → IsOneToOne r → RelatedCells r s z → Related r t u → Related r (flat s t) (flat z u)
same_flat r s z t u one cells h =
    same_copy r _ _ (same_or r t u _ _ h (same_value_ahead r (end s [] t) (end z [] u) (same_end r s z t u one cells h)))

same_flattened_holder : (r : Renaming) (o q : Option Tree) (t u : Tree) → Alike (Related r) o q → Related r t u → (e f : End) → RelatedEnds r e f
    → Related r (flattened_holder o e t) (flattened_holder q f u)
same_flattened_holder r o q t u h k e f same = by_alike (Related r) (λ o q. Related r (flattened_holder o e t) (flattened_holder q f u)) k
    (λ x y p. by_ends r (λ e f. Related r (flattened_holder (Some x) e t) (flattened_holder (Some y) f u)) (λ v w p. same_copy r v w p) (λ c d v w q p. same_copy r v w p) (λ v w p. same_copy r v w p) k e f same) o q h

pub same_flattened : (r : Renaming) (s z : List Cell) (t u : Tree) → IsOneToOne r → RelatedCells r s z → Related r t u → Related r (flattened s t) (flattened z u)
same_flattened r s z t u one cells = by_trees r (λ t u. Related r (flattened s t) (flattened z u)) (λ l g m. (refl, refl, refl)) (λ k ts us g m e. ((refl, e), refl, refl)) (λ fs hs g m e. (e, refl, refl))
    (λ c d g m p. same_flattened_holder r (at s c) (at z d) (node (holder c) g m) (node (holder d) g m) (same_at r s z c d cells p) (p, refl, refl) (end s [] (node (holder c) g m)) (end z [] (node (holder d) g m)) (same_end r s z (node (holder c) g m) (node (holder d) g m) one cells (p, refl, refl))) t u

-- the source of a holder whose cell has no holder is the cell's content, that of one whose cell
-- opens the value at the chain's end; a value that isn't a holder, and a holder whose cell doesn't
-- open, have none
pub near_source : (s : List Cell) (t w : Tree) (c : ℕ) → Some (InCell c) ≡ first_site s t → Some w ≡ first s t → None ≡ cell_of w → Some w ≡ flat_source s t
near_source s (node (leaf l) g m) w c p q alone = cc
near_source s (node (branch k ts) g m) w c p q alone = cc
near_source s (node (fields fs) g m) w c p q alone = cc
near_source s (node (holder d) g m) w c p q alone = rw (sym q, sym (end_near s (node (holder d) g m) w d refl q alone)) refl

pub far_source : (s : List Cell) (t w : Tree) (c : ℕ) → Some (InCell c) ≡ first_site s t → Some w ≡ first s t → value_ahead (end s [] t) ≡ flat_source s t
far_source s (node (leaf l) g m) w c p q = cc
far_source s (node (branch k ts) g m) w c p q = cc
far_source s (node (fields fs) g m) w c p q = cc
far_source s (node (holder d) g m) w c p q = rw (sym q) refl

pub own_source : (s : List Cell) (t : Tree) → Some Here ≡ first_site s t → None ≡ flat_source s t
own_source s (node (leaf l) g m) p = refl
own_source s (node (branch k ts) g m) p = refl
own_source s (node (fields fs) g m) p = refl
own_source s (node (holder d) g m) p = at_none (at s d) p
  where
    at_none : (o : Option Tree) → Some Here ≡ option_map (λ x. InCell d) o → None ≡ option_and_then (λ x. value_ahead (end s [] (node (holder d) g m))) o
    at_none None e = cc
    at_none (Some x) e = cc

pub barred_source : (s : List Cell) (t : Tree) → None ≡ first s t → None ≡ flat_source s t
barred_source s (node (leaf l) g m) q = refl
barred_source s (node (branch k ts) g m) q = refl
barred_source s (node (fields fs) g m) q = refl
barred_source s (node (holder d) g m) q = rw (sym q) refl

-- the flat value is the copy of the source, or of the value itself if it has none
flat_at : (s : List Cell) (t u : Tree) (e : End) → unwrap_or (value_ahead e) t ≡ u → end s [] t ≡ e → flat s t ≡ copy u
flat_at s t u e h p = ap (λ e. copy (unwrap_or (value_ahead e) t)) p ∙ ap copy h

pub flat_by_source : (s : List Cell) (t : Tree) → flat s t ≡ copy (unwrap_or (flat_source s t) t)
flat_by_source s (node (leaf l) g m) = flat_at s (node (leaf l) g m) _ _ refl (sym (end_alone s (node (leaf l) g m) refl))
flat_by_source s (node (branch k ts) g m) = flat_at s (node (branch k ts) g m) _ _ refl (sym (end_alone s (node (branch k ts) g m) refl))
flat_by_source s (node (fields fs) g m) = flat_at s (node (fields fs) g m) _ _ refl (sym (end_alone s (node (fields fs) g m) refl))
flat_by_source s (node (holder c) g m) = by_cell (at s c) refl
  where
    by_cell : (o : Option Tree) → at s c ≡ o → flat s (node (holder c) g m) ≡ copy (unwrap_or (option_and_then (λ x. value_ahead (end s [] (node (holder c) g m))) (at s c)) (node (holder c) g m))
    by_cell None e = rw e (flat_at s (node (holder c) g m) _ _ refl (sym (end_barred s (node (holder c) g m) (sym e))))
    by_cell (Some x) e = rw e refl

-- a value is flattened to the copy of its source, and unchanged if it has none
kept_holder : (o : Option Tree) (e : End) (t : Tree) → None ≡ option_and_then (λ x. value_ahead e) o → t ≡ flattened_holder o e t
kept_holder None e t h = refl
kept_holder (Some x) (held site v) t h = cc
kept_holder (Some x) (stuck v) t h = cc
kept_holder (Some x) closed t h = refl

pub flattened_kept : (s : List Cell) (t : Tree) → None ≡ flat_source s t → t ≡ flattened s t
flattened_kept s (node (leaf l) g m) h = refl
flattened_kept s (node (branch k ts) g m) h = refl
flattened_kept s (node (fields fs) g m) h = refl
flattened_kept s (node (holder c) g m) h = kept_holder (at s c) (end s [] (node (holder c) g m)) (node (holder c) g m) h

copied_holder : (o : Option Tree) (e : End) (t v : Tree) → Some v ≡ option_and_then (λ x. value_ahead e) o → copy v ≡ flattened_holder o e t
copied_holder None e t v h = cc
copied_holder (Some x) (held site u) t v h = let same : v ≡ u = cc in ap copy same
copied_holder (Some x) (stuck u) t v h = let same : v ≡ u = cc in ap copy same
copied_holder (Some x) closed t v h = cc

pub flattened_copied : (s : List Cell) (t v : Tree) → Some v ≡ flat_source s t → copy v ≡ flattened s t
flattened_copied s (node (leaf l) g m) v h = cc
flattened_copied s (node (branch k ts) g m) v h = cc
flattened_copied s (node (fields fs) g m) v h = cc
flattened_copied s (node (holder c) g m) v h = copied_holder (at s c) (end s [] (node (holder c) g m)) (node (holder c) g m) v h

written_there : (b : Bool) (t v w : Tree) → unmarked (record { content = t; is_marked = b }) ≡ Some v → unmarked (record { content = w; is_marked = b }) ≡ Some w
written_there true t v w e = cc
written_there false t v w e = refl

-- a value written to a readable cell is read there
pub at_put : (s : List Cell) (c : ℕ) (v w : Tree) → at s c ≡ Some v → at (put s c w) c ≡ Some w
at_put [] c v w e = cc
at_put (x ∷ s) zero v w e = written_there x.is_marked x.content v w e
at_put (x ∷ s) (suc c) v w e = at_put s c v w e

pub seen_by_all : (s : List Cell) (t u v w : Tree) → first s t ≡ Some v → is_some (cell_of t) ≡ true → cell_of u ≡ cell_of t → first (store_with_first w s t) u ≡ Some w
seen_by_all s (node (holder c) g m) (node (holder d) h n) v w e is same = let f : d ≡ c = cc in ap (at (put s c w)) f ∙ at_put s c v w e
seen_by_all s (node (holder c) g m) (node (leaf k) h n) v w e is same = cc
seen_by_all s (node (holder c) g m) (node (branch k ts) h n) v w e is same = cc
seen_by_all s (node (holder c) g m) (node (fields fs) h n) v w e is same = cc
seen_by_all s (node (fields fs) g m) u v w e is same = cc
seen_by_all s (node (leaf l) g m) u v w e is same = cc
seen_by_all s (node (branch k ts) g m) u v w e is same = cc

pub others_stay : (s : List Cell) (t w : Tree) (c : ℕ) → (cell_of t ≡ Some c → ⊥) → slice_get (store_with_first w s t) c ≡ slice_get s c
others_stay s (node (leaf l) g m) w c h = refl
others_stay s (node (branch k ts) g m) w c h = refl
others_stay s (node (fields fs) g m) w c h = refl
others_stay s (node (holder d) g m) w c h = get_unchanged _ s d c (λ e. h (ap Some (sym e)))

-- writes over the first contents of related values leave related values and stores
pub same_value_with_first : (r : Renaming) (x y : Tree) → Related r x y → (t u : Tree) → Related r t u → Related r (value_with_first x t) (value_with_first y u)
same_value_with_first r x y h = by_trees r (λ t u. Related r (value_with_first x t) (value_with_first y u)) (λ l g m. h) (λ k ts us g m e. h) (λ fs hs g m e. h) (λ c d g m e. (e, refl, refl))

pub same_store_with_first : (r : Renaming) (s z : List Cell) (x y : Tree) → IsOneToOne r → RelatedCells r s z → Related r x y → (t u : Tree) → Related r t u → RelatedCells r (store_with_first x s t) (store_with_first y z u)
same_store_with_first r s z x y one cells h = by_trees r (λ t u. RelatedCells r (store_with_first x s t) (store_with_first y z u)) (λ l g m. cells) (λ k ts us g m e. cells) (λ fs hs g m e. cells) (λ c d g m e. same_put r s z c d x y one cells e h)

pub length_with_first : (x : Tree) (s : List Cell) (t : Tree) → length (store_with_first x s t) ≡ length s
length_with_first x s (node (leaf l) g m) = refl
length_with_first x s (node (branch k ts) g m) = refl
length_with_first x s (node (fields fs) g m) = refl
length_with_first x s (node (holder c) g m) = length_changed _ s c

cell_alike : (r : Renaming) (o q : Option Tree) (c d : ℕ) → paired r c d ≡ true → Alike (Related r) o q
    → Alike (λ a b. paired r a b ≡ true) (site_cell (option_map (λ x. InCell c) o)) (site_cell (option_map (λ x. InCell d) q))
cell_alike r None None c d p h = tt
cell_alike r (Some x) (Some y) c d p h = p
cell_alike r None (Some y) c d p h = absurd h
cell_alike r (Some x) None c d p h = absurd h

pub same_first_cell : (r : Renaming) (s z : List Cell) (t u : Tree) → RelatedCells r s z → Related r t u → Alike (λ c d. paired r c d ≡ true) (first_cell s t) (first_cell z u)
same_first_cell r s z t u cells = by_trees r (λ t u. Alike (λ c d. paired r c d ≡ true) (first_cell s t) (first_cell z u)) (λ l g m. tt) (λ k ts us g m e. tt) (λ fs hs g m e. tt)
    (λ c d g m p. cell_alike r (at s c) (at z d) c d p (same_at r s z c d cells p)) t u

pub same_held_cell : (r : Renaming) (e f : End) → RelatedEnds r e f → Alike (λ c d. paired r c d ≡ true) (held_cell e) (held_cell f)
same_held_cell r = by_ends r (λ e f. Alike (λ c d. paired r c d ≡ true) (held_cell e) (held_cell f)) (λ t u h. tt) (λ c d t u p h. p) (λ t u h. tt) tt
