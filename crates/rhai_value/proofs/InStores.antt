-- Writes to held values in a store.
use Rattle.std.proofs.Common.{◌≡◌, ◌<◌, ℕ, ℤ, Bool, true, false, if◌then◌else◌, option_map, List, [], length, Option, Some, None, IfSome, is_some, cond, slice_get, option_and_then, refl, sym, ap, ◌∙◌}
use Rattle.rhai_value.specs.declared.value.access_mode.AccessMode.{AccessMode}
use Rattle.rhai_value.specs.declared.parts.in_store.InStore.{InStore}
use Rattle.rhai_value.specs.declared.cells.chain.Site.TheVariants.{Here, InCell}
use Rattle.rhai_value.specs.declared.cells.store.Cell.{Cell}
use Rattle.rhai_value.specs.Tree.{Tree, node, Content, leaf, branch, fields, holder, cell_of}
use Rattle.rhai_value.specs.Parts.{text_of, blob_of, with_content, with_part}
use Rattle.rhai_value.specs.declared.value.type_id.TypeId.{TypeId}
use Rattle.rhai_value.specs.declared.value.type_id.TypeId.TheVariants as id
use Rattle.rhai_value.specs.Types.{is_type, is_content_type, typed_content}
use Rattle.rhai_value.specs.Kinds.{one_type}
use Rattle.rhai_value.specs.Store.{put, at}
use Rattle.rhai_value.specs.End.{End, end, held, stuck, closed, held_in, held_part, site_of, first, first_site, value_after, store_after}
use Rattle.rhai_value.specs.Writes.{written_at, written}
use Rattle.rhai_value.proofs.Chains.{end_first, held_at_first, held_first, held_barred}
use Rattle.rhai_value.proofs.Ends.{stands, end_opens, end_own}
use Rattle.rhai_value.proofs.Stores.{content_is, put-same}
use Rattle.rhai_value.proofs.Walks.{at_within}

own_at : (e : End) (h : InStore) (w : Tree) → Some Here ≡ site_of e → record { value = record (h.value) { now = w }; store = h.store } ≡ written_at e h (λ _. w)
own_at (held Here v) h w p = refl
own_at (held (InCell c) v) h w p = cc
own_at (stuck v) h w p = cc
own_at closed h w p = cc

pub own_written : (h : InStore) → Some Here ≡ site_of (end h.store.now [] h.value.now) → (w : Tree) → record { value = record (h.value) { now = w }; store = h.store } ≡ written h (λ _. w)
own_written h p w = own_at (end h.store.now [] h.value.now) h w p

cell_at : (e : End) (h : InStore) (c : ℕ) (w : Tree) → Some (InCell c) ≡ site_of e → record { value = h.value; store = record (h.store) { now = put h.store.now c w } } ≡ written_at e h (λ _. w)
cell_at (held Here v) h c w p = cc
cell_at (held (InCell d) v) h c w p = let same : c ≡ d = cc in ap (λ i. record { value = h.value; store = record (h.store) { now = put h.store.now i w } }) same
cell_at (stuck v) h c w p = cc
cell_at closed h c w p = cc

pub cell_written : (h : InStore) (c : ℕ) → Some (InCell c) ≡ site_of (end h.store.now [] h.value.now) → (w : Tree) → record { value = h.value; store = record (h.store) { now = put h.store.now c w } } ≡ written h (λ _. w)
cell_written h c p w = cell_at (end h.store.now [] h.value.now) h c w p

-- the held value, if the site is the value itself, and if it is a cell
own_value_at : (e : End) (s : List Cell) (t : Tree) → e ≡ end s [] t → Some Here ≡ site_of e → Some t ≡ held_in e
own_value_at (held Here v) s t e p = ap Some (stands s t Here v e)
own_value_at (held (InCell c) v) s t e p = cc
own_value_at (stuck v) s t e p = cc
own_value_at closed s t e p = cc

pub own_value : (s : List Cell) (t : Tree) → Some Here ≡ site_of (end s [] t) → Some t ≡ held_in (end s [] t)
own_value s t p = own_value_at (end s [] t) s t refl p

-- the cell of a site is in the store, and can be read
cell_read_at : (e : End) (s : List Cell) (t : Tree) (c : ℕ) → e ≡ end s [] t → Some (InCell c) ≡ site_of e → (v : Tree) × (at s c ≡ Some v) × (Some v ≡ held_in e)
cell_read_at (held Here v) s t c e p = cc
cell_read_at (held (InCell d) v) s t c e p = let same : c ≡ d = cc in (v, ap (at s) same ∙ stands s t (InCell d) v e, refl)
cell_read_at (stuck v) s t c e p = cc
cell_read_at closed s t c e p = cc

pub cell_within : (s : List Cell) (t : Tree) (c : ℕ) → Some (InCell c) ≡ site_of (end s [] t) → c < length s
cell_within s t c p = let r = cell_read_at (end s [] t) s t c refl p in at_within s c r.0 r.1

pub cell_value : (s : List Cell) (t : Tree) (c : ℕ) (u : Tree) → Some (InCell c) ≡ site_of (end s [] t) → IfSome (slice_get s c) (λ x. u ≡ x.content) → Some u ≡ held_in (end s [] t)
cell_value s t c u p e = let r = cell_read_at (end s [] t) s t c refl p in ap Some (content_is s c r.0 u r.1 e) ∙ r.2

-- a value that isn't a holder is in no cell
pub unshared_site : (s : List Cell) (t : Tree) (c : ℕ) → cell_of t ≡ None → Some (InCell c) ≡ site_of (end s [] t) → ⊥
unshared_site s (node (leaf l) g m) c e p = let q : Some (InCell c) ≡ Some Here = p ∙ ap site_of (end_opens s [] (node (leaf l) g m)) in cc
unshared_site s (node (branch k ts) g m) c e p = let q : Some (InCell c) ≡ Some Here = p ∙ ap site_of (end_opens s [] (node (branch k ts) g m)) in cc
unshared_site s (node (fields fs) g m) c e p = let q : Some (InCell c) ≡ Some Here = p ∙ ap site_of (end_opens s [] (node (fields fs) g m)) in cc
unshared_site s (node (holder d) g m) c e p = cc

-- writing the held value over itself changes nothing
kept_at : (e : End) (h : InStore) (v : Tree) → e ≡ end h.store.now [] h.value.now → Some v ≡ held_in e → written_at e h (λ _. v) ≡ h
kept_at (held Here u) h v is p =
    let same : v ≡ u = cc in
    ap (λ x. record { value = record (h.value) { now = x }; store = h.store }) (same ∙ sym (stands h.store.now h.value.now Here u is))
kept_at (held (InCell c) u) h v is p =
    let same : v ≡ u = cc in
    ap (λ x. record { value = h.value; store = record (h.store) { now = x } }) (ap (put h.store.now c) same ∙ put-same h.store.now c u (stands h.store.now h.value.now (InCell c) u is))
kept_at (stuck u) h v is p = cc
kept_at closed h v is p = cc

pub kept_written : (h : InStore) (v : Tree) → Some v ≡ held_in (end h.store.now [] h.value.now) → written h (λ _. v) ≡ h
kept_written h v p = kept_at (end h.store.now [] h.value.now) h v refl p

-- if a part isn't held, writing over it changes nothing
with_none : {A : Type 0} (part : Tree → Option A) (c : Content) (t : Tree) → part t ≡ None → with_part part c t ≡ t
with_none part c t none = ap (λ o. cond (is_some o) (with_content c t) t) none

unheld_at : {A : Type 0} (part : Tree → Option A) (c : Content) (s : List Cell) (t : Tree) (e : End) → e ≡ end s [] t → held_part part e ≡ None
    → (t ≡ value_after (with_part part c) e t) × (s ≡ store_after (with_part part c) e s)
unheld_at part c s t (held Here u) is none = (stands s t Here u is ∙ sym (with_none part c u none), refl)
unheld_at part c s t (held (InCell d) u) is none = (refl, sym (put-same s d u (stands s t (InCell d) u is)) ∙ ap (put s d) (sym (with_none part c u none)))
unheld_at part c s t (stuck u) is none = (refl, refl)
unheld_at part c s t closed is none = (refl, refl)

pub unheld : {A : Type 0} (part : Tree → Option A) (c : Content) (s : List Cell) (t : Tree) → held_part part (end s [] t) ≡ None
    → (t ≡ value_after (with_part part c) (end s [] t) t) × (s ≡ store_after (with_part part c) (end s [] t) s)
unheld part c s t none = unheld_at part c s t (end s [] t) refl none

-- a value with a part that no holder has holds it itself
own_held : {A : Type 0} (part : Tree → Option A) (s : List Cell) (t : Tree) (a : A) → ((c : ℕ) (g : ℤ) (m : AccessMode) → part (node (holder c) g m) ≡ None) → part t ≡ Some a → held_part part (end s [] t) ≡ Some a
own_held part s (node (leaf l) g m) a none h = ap (held_part part) (end_opens s [] (node (leaf l) g m)) ∙ h
own_held part s (node (branch k ts) g m) a none h = ap (held_part part) (end_opens s [] (node (branch k ts) g m)) ∙ h
own_held part s (node (fields fs) g m) a none h = ap (held_part part) (end_opens s [] (node (fields fs) g m)) ∙ h
own_held part s (node (holder c) g m) a none h = let e : None ≡ Some a = sym (none c g m) ∙ h in cc

-- a holder has no part that is the content of the values of one type
pub none_of_holder : {A : Type 0} (content : A → Content) (part : Tree → Option A) (k : TypeId) → is_content_type k ≡ true → ((t : Tree) → option_map content (part t) ≡ typed_content k t)
    → (c : ℕ) (g : ℤ) (m : AccessMode) → part (node (holder c) g m) ≡ None
none_of_holder {A = A} content part k constructs reads c g m = here (is_type k id.Shared) refl (part (node (holder c) g m)) (reads (node (holder c) g m))
  where
    here : (b : Bool) → is_type k id.Shared ≡ b → (o : Option A) → option_map content o ≡ (if b then Some (holder c) else None) → o ≡ None
    here true same o e = let h : true ≡ false = sym constructs ∙ ap is_content_type (one_type k id.Shared same) in cc
    here false other None e = refl
    here false other (Some a) e = cc

pub own_part : {A : Type 0} (content : A → Content) (part : Tree → Option A) (k : TypeId) → is_content_type k ≡ true → ((t : Tree) → option_map content (part t) ≡ typed_content k t)
    → (s : List Cell) (t : Tree) (a : A) → part t ≡ Some a → held_part part (end s [] t) ≡ Some a
own_part content part k constructs reads s t a h = own_held part s t a (none_of_holder content part k constructs reads) h

-- the held value has the part of a first content that isn't a holder, and none if there is no first content
pub part_first_held : {A : Type 0} (part : Tree → Option A) (s : List Cell) (t w : Tree) → Some w ≡ first s t → None ≡ cell_of w → part w ≡ held_part part (end s [] t)
part_first_held part s t w is alone = ap (option_and_then part) (held_first s t w is alone)

pub part_own_held : {A : Type 0} (part : Tree → Option A) (s : List Cell) (t : Tree) → Some Here ≡ first_site s t → part t ≡ held_part part (end s [] t)
part_own_held part s t p = ap (option_and_then part) (held_at_first s t p)

pub part_unheld : {A : Type 0} (part : Tree → Option A) (s : List Cell) (t : Tree) → None ≡ first s t → None ≡ held_part part (end s [] t)
part_unheld part s t is = ap (option_and_then part) (held_barred s t is)

-- the state after writing such a part
put_at_own : {A : Type 0} (part : Tree → Option A) (d : Content) (s : List Cell) (t : Tree) (a : A) → cell_of t ≡ None → part t ≡ Some a
    → (with_content d t ≡ value_after (with_part part d) (end s [] t) t) × (s ≡ store_after (with_part part d) (end s [] t) s)
put_at_own part d s t a alone h = rw (end_own s [] t alone, h) (refl, refl)

put_own : {A : Type 0} (part : Tree → Option A) (d : Content) (s : List Cell) (t : Tree) (a : A) → ((c : ℕ) (g : ℤ) (m : AccessMode) → part (node (holder c) g m) ≡ None) → part t ≡ Some a
    → (with_content d t ≡ value_after (with_part part d) (end s [] t) t) × (s ≡ store_after (with_part part d) (end s [] t) s)
put_own part d s (node (leaf l) g m) a none h = put_at_own part d s (node (leaf l) g m) a refl h
put_own part d s (node (branch k ts) g m) a none h = put_at_own part d s (node (branch k ts) g m) a refl h
put_own part d s (node (fields fs) g m) a none h = put_at_own part d s (node (fields fs) g m) a refl h
put_own part d s (node (holder c) g m) a none h = let e : None ≡ Some a = sym (none c g m) ∙ h in cc

pub put_own_part : {A : Type 0} (content : A → Content) (part : Tree → Option A) (k : TypeId) → is_content_type k ≡ true → ((t : Tree) → option_map content (part t) ≡ typed_content k t)
    → (d : Content) (s : List Cell) (t : Tree) (a : A) → part t ≡ Some a
    → (with_content d t ≡ value_after (with_part part d) (end s [] t) t) × (s ≡ store_after (with_part part d) (end s [] t) s)
put_own_part content part k constructs reads d s t a h = put_own part d s t a (none_of_holder content part k constructs reads) h

-- a value with a part that no holder has isn't a holder
pub part_alone : {A : Type 0} (part : Tree → Option A) (t : Tree) (a : A) → ((c : ℕ) (g : ℤ) (m : AccessMode) → part (node (holder c) g m) ≡ None) → part t ≡ Some a → None ≡ cell_of t
part_alone part (node (leaf l) g m) a none h = refl
part_alone part (node (branch k ts) g m) a none h = refl
part_alone part (node (fields fs) g m) a none h = refl
part_alone part (node (holder c) g m) a none h = let e : None ≡ Some a = sym (none c g m) ∙ h in cc

-- the cell of a first content contains it
pub first_in_cell : (s : List Cell) (t u : Tree) (c : ℕ) → Some (InCell c) ≡ first_site s t → IfSome (slice_get s c) (λ x. u ≡ x.content) → (Some u ≡ at s c) × (Some u ≡ first s t)
first_in_cell s (node (leaf l) g m) u c p e = cc
first_in_cell s (node (branch k ts) g m) u c p e = cc
first_in_cell s (node (fields fs) g m) u c p e = cc
first_in_cell s (node (holder d) g m) u c p e = read (at s d) refl p
  where
    read : (o : Option Tree) → at s d ≡ o → Some (InCell c) ≡ option_map (λ x. InCell d) o → (Some u ≡ at s c) × (Some u ≡ at s d)
    read None is q = cc
    read (Some v) is q =
        let same : c ≡ d = cc in
        let found : at s c ≡ Some v = ap (at s) same ∙ is in
        let value : u ≡ v = content_is s c v u found e in
        (ap Some value ∙ sym found, ap Some value ∙ sym is)

-- the same for a holder whose own cell has such a part, and for any first content with one
pub put_near_part : {A : Type 0} (content : A → Content) (part : Tree → Option A) (k : TypeId) → is_content_type k ≡ true → ((t : Tree) → option_map content (part t) ≡ typed_content k t)
    → (d : Content) (s : List Cell) (t w : Tree) (c : ℕ) (a : A) → Some (InCell c) ≡ first_site s t → Some w ≡ first s t → part w ≡ Some a
    → (held_part part (end s [] t) ≡ Some a) × (t ≡ value_after (with_part part d) (end s [] t) t) × (put s c (with_content d w) ≡ store_after (with_part part d) (end s [] t) s)
put_near_part content part k constructs reads d s t w c a site is h =
    let alone : None ≡ cell_of w = part_alone part w a (none_of_holder content part k constructs reads) h in
    rw (sym (end_first s t w (InCell c) site is alone), h) (refl, refl, refl)

pub first_part_held : {A : Type 0} (content : A → Content) (part : Tree → Option A) (k : TypeId) → is_content_type k ≡ true → ((t : Tree) → option_map content (part t) ≡ typed_content k t)
    → (s : List Cell) (t w : Tree) (a : A) → Some w ≡ first s t → part w ≡ Some a → Some a ≡ held_part part (end s [] t)
first_part_held content part k constructs reads s t w a is h =
    sym h ∙ part_first_held part s t w is (part_alone part w a (none_of_holder content part k constructs reads) h)

pub own_text : (s : List Cell) (t : Tree) (x : List ℕ) → text_of t ≡ Some x → held_part text_of (end s [] t) ≡ Some x
own_text s t x h = own_held text_of s t x (λ c g m. refl) h

pub own_blob : (s : List Cell) (t : Tree) (x : List ℕ) → blob_of t ≡ Some x → held_part blob_of (end s [] t) ≡ Some x
own_blob s t x h = own_held blob_of s t x (λ c g m. refl) h
