-- Marks that are set and cleared.
use Rattle.std.proofs.Common.{◌≡◌, ℕ, zero, suc, ◌<◌, Bool, true, false, List, [], ◌∷◌, length, get_or, slice_set, Option, Some, None, is_some, option_map, IfSome, refl, sym, ap, ◌∙◌, arith}
use Rattle.std.specs.Option.{option_map_or}
use Rattle.rhai_value.specs.declared.cells.chain.Site.{Site}
use Rattle.rhai_value.specs.declared.cells.chain.Site.TheVariants.{Here, InCell}
use Rattle.rhai_value.specs.declared.cells.store.Cell.{Cell}
use Rattle.rhai_value.specs.Tree.{Tree, node, leaf, branch, fields, holder, cell_of}
use Rattle.rhai_value.specs.Store.{at, unmarked, put, is_marked_at, set_mark, shared_store}
use Rattle.rhai_value.specs.Lent.{IsOpen}
use Rattle.rhai_value.specs.End.{End, held, stuck, closed, end, site_of, site_cell, first_cell, held_cell, IsWithin, first, first_site, store_with_first}
use Rattle.rhai_value.proofs.Ends.{stands}
use Rattle.rhai_value.proofs.InStores.{cell_within}
use Rattle.rhai_value.proofs.Stores.{changed_index}
use Rattle.rhai_value.proofs.Walks.{at_within}
use Rattle.rhai_value.proofs.RelatedCells.{get_unchanged, marked_put, marked_added}

-- a mark, by the index of its cell
pub mark_at : (s : List Cell) (c : ℕ) (x : Cell) (b : Bool) → c < length s → x ≡ get_or s c x → slice_set s c (record { content = x.content; is_marked = b }) ≡ set_mark s c b
mark_at s c x b = changed_index (λ y. record { content = y.content; is_marked = b }) s c x

-- the cell of the first content is in the store, and so is that of the held value
first_within_at : (s : List Cell) (c : ℕ) (o : Option Tree) → at s c ≡ o → IsWithin s (option_map (λ x. InCell c) o)
first_within_at s c None e = tt
first_within_at s c (Some t) e = at_within s c t e

pub first_within : (s : List Cell) (t : Tree) → IsWithin s (first_site s t)
first_within s (node (leaf l) g m) = tt
first_within s (node (branch k ts) g m) = tt
first_within s (node (fields fs) g m) = tt
first_within s (node (holder c) g m) = first_within_at s c (at s c) refl

held_within_at : (s : List Cell) (t : Tree) (p : Option Site) → p ≡ site_of (end s [] t) → IsWithin s p
held_within_at s t None e = tt
held_within_at s t (Some Here) e = tt
held_within_at s t (Some (InCell c)) e = cell_within s t c e

pub held_within : (s : List Cell) (t : Tree) → IsWithin s (site_of (end s [] t))
held_within s t = held_within_at s t (site_of (end s [] t)) refl

-- a cell has the mark that was set
pub mark_stands : (s : List Cell) (c : ℕ) (b : Bool) → c < length s → is_marked_at (set_mark s c b) c ≡ b
mark_stands [] c b l = absurd (omega arith)
mark_stands (x ∷ s) zero b l = refl
mark_stands (x ∷ s) (suc c) b l = mark_stands s c b (omega arith)

restored : (b : Bool) (t : Tree) → is_some (unmarked (record { content = t; is_marked = b })) ≡ true → b ≡ false
restored true t e = cc
restored false t e = refl

-- setting and clearing a mark leaves the store unchanged
pub cleared : (s : List Cell) (c : ℕ) → is_some (at s c) ≡ true → set_mark (set_mark s c true) c false ≡ s
cleared [] c e = refl
cleared (x ∷ s) zero e = ap (λ b. record { content = x.content; is_marked = b } ∷ s) (sym (restored x.is_marked x.content e))
cleared (x ∷ s) (suc c) e = ap (λ z. x ∷ z) (cleared s c e)

-- a write to a marked cell remains when the mark is cleared
pub written_and_cleared : (s : List Cell) (c : ℕ) (w : Tree) → is_some (at s c) ≡ true → set_mark (put (set_mark s c true) c w) c false ≡ put s c w
written_and_cleared [] c w e = refl
written_and_cleared (x ∷ s) zero w e = ap (λ b. record { content = w; is_marked = b } ∷ s) (sym (restored x.is_marked x.content e))
written_and_cleared (x ∷ s) (suc c) w e = ap (λ z. x ∷ z) (written_and_cleared s c w e)

-- setting or clearing the mark of another cell keeps each mark
pub others_marked : (s : List Cell) (c d : ℕ) (b : Bool) → (d ≡ c → ⊥) → is_marked_at (set_mark s c b) d ≡ is_marked_at s d
others_marked s c d b h = ap (λ o. option_map_or (λ x. x.is_marked) o false) (get_unchanged _ s c d h)

at_marked : (s : List Cell) (c : ℕ) → at (set_mark s c true) c ≡ None
at_marked [] c = refl
at_marked (x ∷ s) zero = refl
at_marked (x ∷ s) (suc c) = at_marked s c

-- no holder of a marked cell has a first content
pub closed_by_mark : (s : List Cell) (t : Tree) (c : ℕ) → cell_of t ≡ Some c → first (set_mark s c true) t ≡ None
closed_by_mark s (node (leaf l) g m) c e = cc
closed_by_mark s (node (branch k ts) g m) c e = cc
closed_by_mark s (node (fields fs) g m) c e = cc
closed_by_mark s (node (holder d) g m) c e = let same : d ≡ c = cc in ap (at (set_mark s c true)) same ∙ at_marked s c

pub marked_shared : (s : List Cell) (t : Tree) (d : ℕ) → is_marked_at (shared_store s t) d ≡ is_marked_at s d
marked_shared s (node (leaf l) g m) d = marked_added s (node (leaf l) g m) d
marked_shared s (node (branch k ts) g m) d = marked_added s (node (branch k ts) g m) d
marked_shared s (node (fields fs) g m) d = marked_added s (node (fields fs) g m) d
marked_shared s (node (holder c) g m) d = refl

pub marked_with_first : (w : Tree) (s : List Cell) (t : Tree) (d : ℕ) → is_marked_at (store_with_first w s t) d ≡ is_marked_at s d
marked_with_first w s (node (leaf l) g m) d = refl
marked_with_first w s (node (branch k ts) g m) d = refl
marked_with_first w s (node (fields fs) g m) d = refl
marked_with_first w s (node (holder c) g m) d = marked_put s c d w

-- the cell of a first content or a held value can be read
first_read_at : (s : List Cell) (d c : ℕ) (o : Option Tree) → at s d ≡ o → site_cell (option_map (λ x. InCell d) o) ≡ Some c → is_some (at s c) ≡ true
first_read_at s d c None e h = cc
first_read_at s d c (Some v) e h = let same : d ≡ c = cc in ap (λ i. is_some (at s i)) (sym same) ∙ ap is_some e

pub first_read : (s : List Cell) (t : Tree) (c : ℕ) → first_cell s t ≡ Some c → is_some (at s c) ≡ true
first_read s (node (leaf l) g m) c h = cc
first_read s (node (branch k ts) g m) c h = cc
first_read s (node (fields fs) g m) c h = cc
first_read s (node (holder d) g m) c h = first_read_at s d c (at s d) refl h

held_read_at : (s : List Cell) (t : Tree) (c : ℕ) (e : End) → e ≡ end s [] t → held_cell e ≡ Some c → is_some (at s c) ≡ true
held_read_at s t c (held Here v) is h = cc
held_read_at s t c (held (InCell d) v) is h = let same : d ≡ c = cc in ap (λ i. is_some (at s i)) (sym same) ∙ ap is_some (stands s t (InCell d) v is)
held_read_at s t c (stuck v) is h = cc
held_read_at s t c closed is h = cc

pub held_read : (s : List Cell) (t : Tree) (c : ℕ) → held_cell (end s [] t) ≡ Some c → is_some (at s c) ≡ true
held_read s t c h = held_read_at s t c (end s [] t) refl h

open_at : (s : List Cell) (o x : Option ℕ) → x ≡ o → ((c : ℕ) → o ≡ Some c → is_some (at s c) ≡ true) → IsOpen s x
open_at s o None e h = tt
open_at s o (Some c) e h = h c (sym e)

pub first_open : (s : List Cell) (t : Tree) (x : Option ℕ) → x ≡ first_cell s t → IsOpen s x
first_open s t x e = open_at s (first_cell s t) x e (first_read s t)

pub held_open : (s : List Cell) (t : Tree) (x : Option ℕ) → x ≡ held_cell (end s [] t) → IsOpen s x
held_open s t x e = open_at s (held_cell (end s [] t)) x e (held_read s t)

-- an unmarked cell is in the store
within_if : (s : List Cell) (c : ℕ) (o : Option Tree) → at s c ≡ o → is_some o ≡ true → c < length s
within_if s c None e h = cc
within_if s c (Some t) e h = at_within s c t e

pub open_within : (s : List Cell) (x : Option ℕ) → IsOpen s x → IfSome x (λ k. k < length s)
open_within s None h = tt
open_within s (Some c) h = within_if s c (at s c) refl h
