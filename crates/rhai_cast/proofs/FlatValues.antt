-- Flat values: their type, and that flattening doesn't change them.
use Rattle.std.proofs.Common.{◌≡◌, ℕ, ℤ, zero, suc, Bool, true, false, List, [], ◌∷◌, length, Option, Some, None, refl, sym, ap, ◌∙◌, unwrap_or}
use Rattle.rhai_value.specs.declared.value.access_mode.AccessMode.{AccessMode}
use Rattle.rhai_value.specs.declared.value.access_mode.AccessMode.TheVariants.{ReadWrite}
use Rattle.rhai_value.specs.declared.cells.store.Cell.{Cell}
use Rattle.rhai_value.specs.declared.value.type_id.TypeId.TheVariants as id
use Rattle.rhai_value.specs.End.{End, held, stuck, closed, end_at, end_of, end, value_ahead, flat, flattened, flattened_holder, end_type}
use Rattle.rhai_value.specs.Store.{at}
use Rattle.rhai_value.specs.Tree.{Tree, node, leaf, branch, fields, holder, cell_of, copy}
use Rattle.rhai_value.specs.Types.{tree_type}
use Rattle.rhai_value.specs.Walk.{Visit, entered, barred, revisited, is_open, visit, visit_of, visit_map, unentered, walk_in}
use Rattle.rhai_value.proofs.ForCallers.{walk_opens}

-- a holder whose cell can't be read
abbrev IsUnread : List Cell → Tree → Type 0
IsUnread s v = (c : ℕ) × (g : ℤ) × (m : AccessMode) × (v ≡ node (holder c) g m) × (at s c ≡ None)

-- a held value isn't a holder, and a chain is stuck at a holder that can't be read
abbrev IsSettled : List Cell → End → Type 0
IsSettled s (held site v) = cell_of v ≡ None
IsSettled s (stuck v) = IsUnread s v
IsSettled s closed = Unit {0}

barred_cell : (o : Option Tree) (b : Bool) → visit_of o b ≡ barred → o ≡ None
barred_cell None b h = refl
barred_cell (Some x) true h = cc
barred_cell (Some x) false h = cc

at_visit : (s : List Cell) (c : ℕ) (g : ℤ) (m : AccessMode) (o : Visit Tree) (go : Tree → End) → (o ≡ barred → at s c ≡ None) → ((x : Tree) → IsSettled s (go x)) → IsSettled s (end_at (node (holder c) g m) (visit_map go o))
at_visit s c g m (entered x) go n h = h x
at_visit s c g m barred go n h = (c, g, m, refl, n refl)
at_visit s c g m revisited go n h = tt

at_none : (s : List Cell) (c : ℕ) (g : ℤ) (m : AccessMode) (o : Visit Tree) → (o ≡ barred → at s c ≡ None) → IsSettled s (end_at (node (holder c) g m) (unentered o))
at_none s c g m (entered x) n = tt
at_none s c g m barred n = (c, g, m, refl, n refl)
at_none s c g m revisited n = tt

settled_in : (n : ℕ) (s : List Cell) (path : List ℕ) (t : Tree) → IsSettled s (walk_in end_of n s path t)
settled_in zero s path (node (leaf l) g m) = refl
settled_in (suc n) s path (node (leaf l) g m) = refl
settled_in zero s path (node (branch k ts) g m) = refl
settled_in (suc n) s path (node (branch k ts) g m) = refl
settled_in zero s path (node (fields fs) g m) = refl
settled_in (suc n) s path (node (fields fs) g m) = refl
settled_in zero s path (node (holder c) g m) = at_none s c g m (visit s path c) (barred_cell (at s c) (is_open c path))
settled_in (suc n) s path (node (holder c) g m) = at_visit s c g m (visit s path c) (walk_in end_of n s (c ∷ path)) (barred_cell (at s c) (is_open c path)) (settled_in n s (c ∷ path))

settled : (s : List Cell) (t : Tree) → IsSettled s (end s [] t)
unfolding end
settled s t = settled_in (length s) s [] t

pub opens : (s : List Cell) (t : Tree) → end s [] t ≡ end_of [] (λ c. visit_map (end s (c ∷ [])) (visit s [] c)) t
unfolding end
opens s t = walk_opens end_of s [] t

-- ---- types

copy_type : (t : Tree) → tree_type (copy t) ≡ tree_type t
copy_type (node (leaf l) g m) = refl
copy_type (node (branch k ts) g m) = refl
copy_type (node (fields fs) g m) = refl
copy_type (node (holder c) g m) = refl

unread_type : (s : List Cell) (v : Tree) → IsUnread s v → tree_type (copy v) ≡ id.Shared
unread_type s v h = copy_type v ∙ ap tree_type h.3

own_flat : (s : List Cell) (t : Tree) → end s [] t ≡ end_of [] (λ c. visit_map (end s (c ∷ [])) (visit s [] c)) t → flat s t ≡ copy (unwrap_or (value_ahead (end_of [] (λ c. visit_map (end s (c ∷ [])) (visit s [] c)) t)) t)
own_flat s t e = ap (λ x. copy (unwrap_or (value_ahead x) t)) e

flat_end : (s : List Cell) (e : End) (t : Tree) → tree_type t ≡ id.Shared → IsSettled s e → tree_type (copy (unwrap_or (value_ahead e) t)) ≡ end_type e
flat_end s (held site v) t h k = copy_type v
flat_end s (stuck v) t h k = unread_type s v k
flat_end s closed t h k = copy_type t ∙ h

pub flat_type : (s : List Cell) (t : Tree) → tree_type (flat s t) ≡ end_type (end s [] t)
flat_type s (node (leaf l) g m) = let e = opens s (node (leaf l) g m) in ap tree_type (own_flat s (node (leaf l) g m) e) ∙ sym (ap end_type e)
flat_type s (node (branch k ts) g m) = let e = opens s (node (branch k ts) g m) in ap tree_type (own_flat s (node (branch k ts) g m) e) ∙ sym (ap end_type e)
flat_type s (node (fields fs) g m) = let e = opens s (node (fields fs) g m) in ap tree_type (own_flat s (node (fields fs) g m) e) ∙ sym (ap end_type e)
flat_type s (node (holder c) g m) = flat_end s (end s [] (node (holder c) g m)) (node (holder c) g m) refl (settled s (node (holder c) g m))

flattened_end : (s : List Cell) (o : Option Tree) (e : End) (t : Tree) → tree_type t ≡ id.Shared → IsSettled s e → (o ≡ None → end_type e ≡ id.Shared) → tree_type (flattened_holder o e t) ≡ end_type e
flattened_end s None e t h k n = h ∙ sym (n refl)
flattened_end s (Some x) (held site v) t h k n = copy_type v
flattened_end s (Some x) (stuck v) t h k n = unread_type s v k
flattened_end s (Some x) closed t h k n = h

-- the chain of a holder whose own cell can't be read is stuck there
unread_end : (s : List Cell) (c : ℕ) (g : ℤ) (m : AccessMode) → at s c ≡ None → end_type (end s [] (node (holder c) g m)) ≡ id.Shared
unread_end s c g m none = ap end_type (opens s (node (holder c) g m) ∙ ap (λ o. end_at (node (holder c) g m) (visit_map (end s (c ∷ [])) (visit_of o (is_open c [])))) none)

pub flattened_type : (s : List Cell) (t : Tree) → tree_type (flattened s t) ≡ end_type (end s [] t)
flattened_type s (node (leaf l) g m) = sym (ap end_type (opens s (node (leaf l) g m)))
flattened_type s (node (branch k ts) g m) = sym (ap end_type (opens s (node (branch k ts) g m)))
flattened_type s (node (fields fs) g m) = sym (ap end_type (opens s (node (fields fs) g m)))
flattened_type s (node (holder c) g m) = flattened_end s (at s c) (end s [] (node (holder c) g m)) (node (holder c) g m) refl (settled s (node (holder c) g m)) (unread_end s c g m)

-- ---- flattening flat copies changes nothing

own_stays : (s : List Cell) (v : Tree) → cell_of v ≡ None → flattened s (copy v) ≡ copy v
own_stays s (node (leaf l) g m) h = refl
own_stays s (node (branch k ts) g m) h = refl
own_stays s (node (fields fs) g m) h = refl
own_stays s (node (holder c) g m) h = cc

unread_stays : (s : List Cell) (v : Tree) → IsUnread s v → flattened s (copy v) ≡ copy v
unread_stays s v h =
    let t = node (holder h.0) h.1 ReadWrite in
    let is : copy v ≡ t = ap copy h.3 in
    ap (flattened s) is ∙ ap (λ o. flattened_holder o (end s [] t) t) h.4 ∙ sym is

closed_at : (o : Visit End) (t u : Tree) → end_at t o ≡ closed → end_at u o ≡ closed
closed_at (entered e) t u h = h
closed_at barred t u h = cc
closed_at revisited t u h = refl

closed_holder : (o : Option Tree) (t : Tree) → flattened_holder o closed t ≡ t
closed_holder None t = refl
closed_holder (Some x) t = refl

closed_stays : (s : List Cell) (c : ℕ) (g : ℤ) (m : AccessMode) → end s [] (node (holder c) g m) ≡ closed → flattened s (node (holder c) g ReadWrite) ≡ node (holder c) g ReadWrite
closed_stays s c g m h =
    let t = node (holder c) g m in
    let u = node (holder c) g ReadWrite in
    let e : end s [] u ≡ closed = opens s u ∙ closed_at (visit_map (end s (c ∷ [])) (visit s [] c)) t u (sym (opens s t) ∙ h) in
    ap (λ x. flattened_holder (at s c) x u) e ∙ closed_holder (at s c) u

holder_stays : (s : List Cell) (c : ℕ) (g : ℤ) (m : AccessMode) (e : End) → e ≡ end s [] (node (holder c) g m) → IsSettled s e
    → flattened s (copy (unwrap_or (value_ahead e) (node (holder c) g m))) ≡ copy (unwrap_or (value_ahead e) (node (holder c) g m))
holder_stays s c g m (held site v) is k = own_stays s v k
holder_stays s c g m (stuck v) is k = unread_stays s v k
holder_stays s c g m closed is k = closed_stays s c g m (sym is)

own_flat_stays : (s : List Cell) (t : Tree) → flat s t ≡ copy t → flattened s (copy t) ≡ copy t → flattened s (flat s t) ≡ flat s t
own_flat_stays s t e h = ap (flattened s) e ∙ h ∙ sym e

pub flat_stays : (s : List Cell) (t : Tree) → flattened s (flat s t) ≡ flat s t
flat_stays s (node (leaf l) g m) = own_flat_stays s (node (leaf l) g m) (own_flat s (node (leaf l) g m) (opens s (node (leaf l) g m))) refl
flat_stays s (node (branch k ts) g m) = own_flat_stays s (node (branch k ts) g m) (own_flat s (node (branch k ts) g m) (opens s (node (branch k ts) g m))) refl
flat_stays s (node (fields fs) g m) = own_flat_stays s (node (fields fs) g m) (own_flat s (node (fields fs) g m) (opens s (node (fields fs) g m))) refl
flat_stays s (node (holder c) g m) = holder_stays s c g m (end s [] (node (holder c) g m)) refl (settled s (node (holder c) g m))
