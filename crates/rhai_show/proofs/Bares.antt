-- Tags and modes have no effect on plain values, at any depth.
use Rattle.std.proofs.Common.{◌≡◌, ℕ, zero, suc, Bool, true, false, List, [], ◌∷◌, length, map, Option, Some, None, option_map, refl, ap, ap₂, ◌∙◌}
use Rattle.std.proofs.lemmas.List.{length-map}
use mathlib.Core.Path.{fun_ext}
use Rattle.rhai_value.specs.declared.cells.store.Cell.{Cell}
use Rattle.rhai_value.specs.Tree.{Tree}
use Rattle.rhai_value.specs.Store.{at, unmarked}
use Rattle.rhai_value.specs.Walk.{Visit, entered, is_open, visit_of, visit_map, unentered, walk_in}
use Rattle.rhai_value.proofs.ForCallers.{by_value}
use Rattle.rhai_show.specs.Bare.{bare, bare_trees, bare_fields, bare_cell}
use Rattle.rhai_show.specs.Plain.{Plain, plain_branch, plain_map, plain_more, plain_field_more, plain_of, all_plain, fields_plain, plain}

bare_tree : (path : List ℕ) (go : ℕ → Visit (Option Plain)) (t : Tree) → plain_of path go (bare t) ≡ plain_of path go t
bare_tree path go =
    by_value (λ t. plain_of path go (bare t) ≡ plain_of path go t) (λ ts. all_plain path go (bare_trees ts) ≡ all_plain path go ts) (λ fs. fields_plain path go (bare_fields fs) ≡ fields_plain path go fs)
    (λ l g m. refl) (λ k ts g m h. ap (option_map (plain_branch k)) h) (λ fs g m h. ap (option_map plain_map) h) (λ c g m. refl)
    refl (λ t ts p q. ap₂ plain_more p q) refl (λ k t fs p q. ap₂ (plain_field_more k) p q)

-- reading a cell
bare_unmarked : (m : Bool) (t : Tree) → unmarked (bare_cell (record { content = t; is_marked = m })) ≡ option_map bare (unmarked (record { content = t; is_marked = m }))
bare_unmarked true t = refl
bare_unmarked false t = refl

bare_at : (s : List Cell) (c : ℕ) → at (map bare_cell s) c ≡ option_map bare (at s c)
bare_at [] c = refl
bare_at (x ∷ s) zero = bare_unmarked x.is_marked x.content
bare_at (x ∷ s) (suc c) = bare_at s c

bare_visit : {A : Type 0} (o : Option Tree) (b : Bool) (f g : Tree → A) → ((t : Tree) → f (bare t) ≡ g t) → visit_map f (visit_of (option_map bare o) b) ≡ visit_map g (visit_of o b)
bare_visit None b f g h = refl
bare_visit (Some t) true f g h = refl
bare_visit (Some t) false f g h = ap entered (h t)

bare_closed : {A : Type 0} (o : Option Tree) (b : Bool) → unentered {A = A} (visit_of (option_map bare o) b) ≡ unentered {A = A} (visit_of o b)
bare_closed None b = refl
bare_closed (Some t) true = refl
bare_closed (Some t) false = refl

bare_walk : (n : ℕ) (s : List Cell) (path : List ℕ) (t : Tree) → walk_in plain_of n (map bare_cell s) path (bare t) ≡ walk_in plain_of n s path t
bare_walk zero s path t =
    bare_tree path _ t ∙ ap (λ go. plain_of path go t) (fun_ext (λ c. ap (λ o. unentered (visit_of o (is_open c path))) (bare_at s c) ∙ bare_closed (at s c) (is_open c path)))
bare_walk (suc n) s path t =
    bare_tree path _ t
    ∙ ap (λ go. plain_of path go t) (fun_ext (λ c.
    ap (λ o. visit_map (walk_in plain_of n (map bare_cell s) (c ∷ path)) (visit_of o (is_open c path))) (bare_at s c)
    ∙ bare_visit (at s c) (is_open c path) (walk_in plain_of n (map bare_cell s) (c ∷ path)) (walk_in plain_of n s (c ∷ path)) (bare_walk n s (c ∷ path))))

pub plain_bare_all : (s : List Cell) (path : List ℕ) (t : Tree) → plain (map bare_cell s) path (bare t) ≡ plain s path t
unfolding plain
plain_bare_all s path t = ap (λ n. walk_in plain_of n (map bare_cell s) path (bare t)) (length-map s bare_cell) ∙ bare_walk (length s) s path t
