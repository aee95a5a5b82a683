-- A call keeps the tag and the mode of everything that it writes.
use Rattle.std.proofs.Common.{◌≡◌, ℕ, zero, suc, Bool, true, false, if◌then◌else◌, List, [], ◌∷◌, Some, None, option_map, refl, sym, ap, ◌∙◌}
use Rattle.rhai_value.specs.declared.cells.chain.Site.TheVariants.{Here, InCell}
use Rattle.rhai_value.specs.declared.cells.store.Cell.{Cell}
use Rattle.rhai_value.specs.End.{End, held, stuck, closed, end, value_after, store_after}
use Rattle.rhai_value.specs.Parts.{with_content}
use Rattle.rhai_value.specs.Store.{at, content_at, put}
use Rattle.rhai_value.specs.Tree.{Tree, node, Content, content_of, tag_of, mode_of}
use Rattle.rhai_value.proofs.ForCallers.{stands}
use Rattle.rhai_ops.specs.Outcome.{Outcome, fault, too_large, answers, unsuited}
use Rattle.rhai_ops.specs.Effects.{Effect, operator, assignment, first_left, store_left, rewritten}

-- a function that ignores the content of a value
abbrev Sees : {A : Type 0} → (Tree → A) → Type 0
Sees f = (c : Content) (t : Tree) → f (with_content c t) ≡ f t

sees_tag : Sees tag_of
sees_tag c (node d g m) = refl

sees_mode : Sees mode_of
sees_mode c (node d g m) = refl

value_kept : {A : Type 0} (f : Tree → A) → Sees f → (t : Tree) (s : List Cell) (x : Tree) (e : End) → e ≡ end s [] x → f (value_after (rewritten t) e x) ≡ f x
value_kept f k t s x (held Here v) is = k (content_of t) v ∙ ap f (sym (stands s x Here v is))
value_kept f k t s x (held (InCell c) v) is = refl
value_kept f k t s x (stuck v) is = refl
value_kept f k t s x closed is = refl

opened : (b : Bool) (t v : Tree) → (if b then None else Some t) ≡ Some v → v ≡ t
opened true t v e = cc
opened false t v e = cc

put_kept : {A : Type 0} (f : Tree → A) (s : List Cell) (d c : ℕ) (u v : Tree) → at s d ≡ Some v → f u ≡ f v → option_map f (content_at (put s d u) c) ≡ option_map f (content_at s c)
put_kept f [] d c u v e h = refl
put_kept f (x ∷ s) zero zero u v e h = ap Some (h ∙ ap f (opened x.is_marked x.content v e))
put_kept f (x ∷ s) zero (suc c) u v e h = refl
put_kept f (x ∷ s) (suc d) zero u v e h = refl
put_kept f (x ∷ s) (suc d) (suc c) u v e h = put_kept f s d c u v e h

cell_kept : {A : Type 0} (f : Tree → A) → Sees f → (t : Tree) (s : List Cell) (x : Tree) (c : ℕ) (e : End) → e ≡ end s [] x
    → option_map f (content_at (store_after (rewritten t) e s) c) ≡ option_map f (content_at s c)
cell_kept f k t s x c (held Here v) is = refl
cell_kept f k t s x c (held (InCell d) v) is = put_kept f s d c (rewritten t v) v (stands s x (InCell d) v is) (k (content_of t) v)
cell_kept f k t s x c (stuck v) is = refl
cell_kept f k t s x c closed is = refl

first_kept : {A : Type 0} (f : Tree → A) → Sees f → (w : Effect) (o : Outcome) (s : List Cell) (x : Tree) → f (first_left w o s x) ≡ f x
first_kept f k operator o s x = refl
first_kept f k (assignment q) (answers t) s x = value_kept f k t s x (end s [] x) refl
first_kept f k (assignment q) (fault g) s x = refl
first_kept f k (assignment q) (too_large n) s x = refl
first_kept f k (assignment q) unsuited s x = refl

cells_kept : {A : Type 0} (f : Tree → A) → Sees f → (w : Effect) (o : Outcome) (s : List Cell) (x : Tree) (c : ℕ)
    → option_map f (content_at (store_left w o s x) c) ≡ option_map f (content_at s c)
cells_kept f k operator o s x c = refl
cells_kept f k (assignment q) (answers t) s x c = cell_kept f k t s x c (end s [] x) refl
cells_kept f k (assignment q) (fault g) s x c = refl
cells_kept f k (assignment q) (too_large n) s x c = refl
cells_kept f k (assignment q) unsuited s x c = refl

pub tag_stays : (w : Effect) (o : Outcome) (s : List Cell) (x : Tree) → tag_of (first_left w o s x) ≡ tag_of x
tag_stays w o s x = first_kept tag_of sees_tag w o s x

pub mode_stays : (w : Effect) (o : Outcome) (s : List Cell) (x : Tree) → mode_of (first_left w o s x) ≡ mode_of x
mode_stays w o s x = first_kept mode_of sees_mode w o s x

pub cell_tag_stays : (w : Effect) (o : Outcome) (s : List Cell) (x : Tree) (c : ℕ) → option_map tag_of (content_at (store_left w o s x) c) ≡ option_map tag_of (content_at s c)
cell_tag_stays w o s x c = cells_kept tag_of sees_tag w o s x c

pub cell_mode_stays : (w : Effect) (o : Outcome) (s : List Cell) (x : Tree) (c : ℕ) → option_map mode_of (content_at (store_left w o s x) c) ≡ option_map mode_of (content_at s c)
cell_mode_stays w o s x c = cells_kept mode_of sees_mode w o s x c
