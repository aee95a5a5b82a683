-- A text changed where it is held: in the value itself, or in a cell that is marked meanwhile.
use Rattle.std.proofs.Common.{◌≡◌, ℕ, zero, suc, Bool, true, false, List, [], ◌∷◌, Option, Some, None, IfSome, MatchOption, Result, Ok, Err, IfOk, MatchResult, is_some, option_map, refl, sym, ap, ◌∙◌, subst}
use Rattle.rhai_value.specs.declared.parts.in_store.InStore.{InStore}
use Rattle.rhai_value.specs.declared.cells.chain.Site.TheVariants.{Here, InCell}
use Rattle.rhai_value.specs.declared.cells.store.Cell.{Cell}
use Rattle.rhai_value.specs.Tree.{Tree, node, leaf, branch, fields, holder, text}
use Rattle.rhai_value.specs.Parts.{text_of, with_content}
use Rattle.rhai_value.specs.Store.{put, set_mark, marked_with, is_marked_at, content_at}
use Rattle.rhai_value.specs.End.{End, end, held, stuck, closed, held_in, held_part, held_cell, value_after, store_after}
use Rattle.rhai_value.specs.Writes.{written_at}
use Rattle.rhai_value.proofs.ForCallers.{end_own, kept_written, marked_store_after}
use Rattle.rhai_target.specs.Change.{with_leaf, on_text}

-- writing to a cell keeps its mark
pub mark_outlasts : (s : List Cell) (c : ℕ) (t : Tree) → is_marked_at s c ≡ true → is_marked_at (put s c t) c ≡ true
mark_outlasts s c t h = marked_store_after (λ _. t) (held (InCell c) t) s c ∙ h

-- a value with a text holds it
pub text_held : (s : List Cell) (t : Tree) → is_some (text_of t) ≡ true → held_part text_of (end s [] t) ≡ text_of t
text_held s (node (leaf l) g m) h = ap (held_part text_of) (end_own s [] (node (leaf l) g m) refl)
text_held s (node (branch k ts) g m) h = cc
text_held s (node (fields fs) g m) h = cc
text_held s (node (holder c) g m) h = cc

-- writing a text is a change of the text
text_put : (t : Tree) (o : Option (List ℕ)) (g : List ℕ → List ℕ) (new : List ℕ) → is_some o ≡ true → IfSome o (λ cs. new ≡ g cs)
    → with_content (leaf (text new)) t ≡ with_leaf (option_map (λ cs. text (g cs)) o) t
text_put t None g new h e = cc
text_put t (Some cs) g new h e = ap (λ x. with_content (leaf (text x)) t) e

-- a property of a successful result, for what it equals
pub of_ok : {A E B : Type 0} (r : Result A E) (f : A → B) (b : B) (P : B → Type 0) → IfOk r (λ x. f x ≡ b) → MatchResult r (λ x. P (f x)) (λ e. ⊥) → P b
of_ok (Ok x) f b P e h = subst P e h
of_ok (Err x) f b P e h = absurd h

-- ---- if the value itself has the text
own_at : (e : End) (h : InStore) → is_some (held_part text_of e) ≡ true → None ≡ held_cell e → ((v : Tree) → Some v ≡ held_in e → written_at e h (λ _. v) ≡ h)
    → (is_some (text_of h.value.now) ≡ true) × ((f : Tree → Tree) → f h.value.now ≡ value_after f e h.value.now) × ((f : Tree → Tree) (s : List Cell) → s ≡ store_after f e s)
own_at (held Here v) h has none kept =
    let same : v ≡ h.value.now = ap (λ x. x.value.now) (kept v refl) in
    (ap (λ t. is_some (text_of t)) (sym same) ∙ has, λ f. ap f (sym same), λ f s. refl)
own_at (held (InCell c) v) h has none kept = cc
own_at (stuck v) h has none kept = cc
own_at closed h has none kept = cc

pub own_text : (h : InStore) → is_some (held_part text_of (end h.store.now [] h.value.now)) ≡ true → None ≡ held_cell (end h.store.now [] h.value.now)
    → (is_some (text_of h.value.now) ≡ true) × ((f : Tree → Tree) → f h.value.now ≡ value_after f (end h.store.now [] h.value.now) h.value.now)
    × ((f : Tree → Tree) (s : List Cell) → s ≡ store_after f (end h.store.now [] h.value.now) s)
own_text h has none = own_at (end h.store.now [] h.value.now) h has none (λ v p. kept_written h v p)

pub own_changed : (h : InStore) (g : List ℕ → List ℕ) (new : List ℕ) → is_some (held_part text_of (end h.store.now [] h.value.now)) ≡ true
    → None ≡ held_cell (end h.store.now [] h.value.now) → IfSome (text_of h.value.now) (λ cs. new ≡ g cs)
    → with_content (leaf (text new)) h.value.now ≡ value_after (on_text g) (end h.store.now [] h.value.now) h.value.now
own_changed h g new has none e =
    let own = own_text h has none in
    text_put h.value.now (text_of h.value.now) g new own.0 e ∙ own.1 (on_text g)

-- ---- if a cell has it
content_marked : (s : List Cell) (c : ℕ) (b : Bool) → content_at (set_mark s c b) c ≡ content_at s c
content_marked [] c b = refl
content_marked (x ∷ s) zero b = refl
content_marked (x ∷ s) (suc c) b = content_marked s c b

content_put : (s : List Cell) (c : ℕ) (v : Tree) → is_marked_at (set_mark s c true) c ≡ true → content_at (put s c v) c ≡ Some v
content_put [] c v h = cc
content_put (x ∷ s) zero v h = refl
content_put (x ∷ s) (suc c) v h = content_put s c v h

-- the text of a cell, which is kept while the cell is marked; a change is written to the cell, and
-- the value is unchanged
abbrev pub HeldInCell : End → List Cell → ℕ → Type 0
HeldInCell e s c = (v : Tree) × (content_at (set_mark s c true) c ≡ Some v) × (is_some (text_of v) ≡ true)
    × ((f : Tree → Tree) → store_after f e s ≡ put s c (f v)) × ((f : Tree → Tree) (t : Tree) → t ≡ value_after f e t)

cell_at : (e : End) (h : InStore) (c : ℕ) → is_some (held_part text_of e) ≡ true → Some c ≡ held_cell e → is_marked_at (set_mark h.store.now c true) c ≡ true
    → ((v : Tree) → Some v ≡ held_in e → written_at e h (λ _. v) ≡ h) → HeldInCell e h.store.now c
cell_at (held Here v) h c has some marked kept = cc
cell_at (held (InCell d) v) h c has some marked kept =
    let s = h.store.now in
    let same : c ≡ d = cc in
    let stands : put s c v ≡ s = ap (λ i. put s i v) same ∙ ap (λ x. x.store.now) (kept v refl) in
    (v, content_marked s c true ∙ ap (λ x. content_at x c) (sym stands) ∙ content_put s c v marked, has, λ f. ap (λ i. put s i (f v)) (sym same), λ f t. refl)
cell_at (stuck v) h c has some marked kept = cc
cell_at closed h c has some marked kept = cc

pub cell_text : (h : InStore) (c : ℕ) → is_some (held_part text_of (end h.store.now [] h.value.now)) ≡ true → Some c ≡ held_cell (end h.store.now [] h.value.now)
    → is_marked_at (set_mark h.store.now c true) c ≡ true → HeldInCell (end h.store.now [] h.value.now) h.store.now c
cell_text h c has some marked = cell_at (end h.store.now [] h.value.now) h c has some marked (λ v p. kept_written h v p)

pub token_marks : (s n : List Cell) (c : ℕ) (o : Option ℕ) → Some c ≡ o → n ≡ marked_with o s → n ≡ set_mark s c true
token_marks s n c o some after = after ∙ ap (λ p. marked_with p s) (sym some)

pub cell_has_text : (e : End) (s n : List Cell) (c : ℕ) → HeldInCell e s c → n ≡ set_mark s c true → MatchOption (content_at n c) ⊥ (λ t. is_some (text_of t) ≡ true)
cell_has_text e s n c h marked = subst (λ o. MatchOption o ⊥ (λ t. is_some (text_of t) ≡ true)) (sym (ap (λ x. content_at x c) marked ∙ h.1)) h.2

-- a write to the marked cell remains when the mark is cleared
pub cell_changed : (e : End) (s n m r : List Cell) (c : ℕ) (f : Tree → Tree) → HeldInCell e s c → n ≡ set_mark s c true → r ≡ set_mark m c false
    → ((w : Tree) → set_mark (put (set_mark s c true) c w) c false ≡ put s c w) → IfSome (content_at n c) (λ t. m ≡ put n c (f t)) → r ≡ store_after f e s
cell_changed e s n m r c f h marked released cleared put_there =
    let there = subst (λ o. IfSome o (λ t. m ≡ put n c (f t))) (ap (λ x. content_at x c) marked ∙ h.1) put_there in
    released ∙ ap (λ x. set_mark x c false) (there ∙ ap (λ x. put x c (f h.0)) marked) ∙ cleared (f h.0) ∙ sym (h.3 f)
