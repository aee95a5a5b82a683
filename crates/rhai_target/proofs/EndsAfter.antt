-- The end of a chain after a value is written to the cell at its end.
use Rattle.std.proofs.Common.{◌≡◌, ℕ, ℤ, zero, suc, Bool, true, false, List, [], ◌∷◌, slice_get, Option, Some, None, option_and_then, refl, sym, ap, ap₂, ◌∙◌}
use Rattle.rhai_value.specs.declared.value.access_mode.AccessMode.{AccessMode}
use Rattle.rhai_value.specs.declared.cells.chain.Site.{Site}
use Rattle.rhai_value.specs.declared.cells.chain.Site.TheVariants.{InCell}
use Rattle.rhai_value.specs.declared.cells.store.Cell.{Cell}
use Rattle.rhai_value.specs.Tree.{Tree, node, leaf, branch, fields, holder, cell_of}
use Rattle.rhai_value.specs.Store.{at, unmarked, put}
use Rattle.rhai_value.specs.Walk.{Visit, entered, barred, revisited, is_open, visit, visit_of, visit_map, unentered, walk_in}
use Rattle.rhai_value.specs.End.{held, end_at, site_after, end_of, end}
use Rattle.rhai_value.proofs.ForCallers.{length_changed}
use Rattle.rhai_target.proofs.FromBelow.{get_unchanged}

-- reading a cell that was written, and reading others
read_put : (b : Bool) (t u v : Tree) → unmarked (record { content = t; is_marked = b }) ≡ Some v → unmarked (record { content = u; is_marked = b }) ≡ Some u
read_put true t u v e = cc
read_put false t u v e = refl

at_put : (s : List Cell) (c : ℕ) (u v : Tree) → at s c ≡ Some v → at (put s c u) c ≡ Some u
at_put [] c u v e = cc
at_put (x ∷ s) zero u v e = read_put x.is_marked x.content u v e
at_put (x ∷ s) (suc c) u v e = at_put s c u v e

at_other : (s : List Cell) (c d : ℕ) (u : Tree) → (d ≡ c → ⊥) → at (put s c u) d ≡ at s d
at_other s c d u away = ap (option_and_then unmarked) (get_unchanged _ s c d away)

-- a value that isn't a holder ends its chain
walk_alone : (n : ℕ) (s : List Cell) (path : List ℕ) (t : Tree) → cell_of t ≡ None → walk_in end_of n s path t ≡ held (site_after (slice_get path 0)) t
walk_alone zero s path (node (leaf l) g m) e = refl
walk_alone (suc n) s path (node (leaf l) g m) e = refl
walk_alone zero s path (node (branch k ts) g m) e = refl
walk_alone (suc n) s path (node (branch k ts) g m) e = refl
walk_alone zero s path (node (fields fs) g m) e = refl
walk_alone (suc n) s path (node (fields fs) g m) e = refl
walk_alone n s path (node (holder c) g m) e = cc

none_held : (t v : Tree) (site : Site) (o : Visit Tree) → end_at t (unentered o) ≡ held site v → ⊥
none_held t v site (entered x) h = cc
none_held t v site barred h = cc
none_held t v site revisited h = cc

-- w is written to the cell c, at which the chain ended with v; neither is a holder
module _ (s : List Cell) (c : ℕ) (v w : Tree) (there : at s c ≡ Some v) (lone : cell_of v ≡ None) (bare : cell_of w ≡ None) where
  abbrev z : List Cell
  z = put s c w

  -- the content of the cell d, on the chain, afterwards
  abbrev After : ℕ → List ℕ → ℕ → Type 0
  After n path d = (y : Tree) × (at z d ≡ Some y) × (walk_in end_of n z (d ∷ path) y ≡ held (InCell c) w)

  step : (n : ℕ) (path : List ℕ) (d : ℕ) (g : ℤ) (m : AccessMode) → ((x : Tree) → at s d ≡ Some x → walk_in end_of n s (d ∷ path) x ≡ held (InCell c) v → After n path d)
      → (o : Option Tree) (b : Bool) → at s d ≡ o → is_open d path ≡ b → end_at (node (holder d) g m) (visit_map (walk_in end_of n s (d ∷ path)) (visit_of o b)) ≡ held (InCell c) v
      → end_at (node (holder d) g m) (visit_map (walk_in end_of n z (d ∷ path)) (visit z path d)) ≡ held (InCell c) w
  step n path d g m more None b some passed h = cc
  step n path d g m more (Some x) true some passed h = cc
  step n path d g m more (Some x) false some passed h =
      let a = more x some h in
      ap₂ (λ o b. end_at (node (holder d) g m) (visit_map (walk_in end_of n z (d ∷ path)) (visit_of o b))) a.1 passed ∙ a.2

  here : (n : ℕ) (path : List ℕ) (d : ℕ) (x : Tree) → cell_of x ≡ None → walk_in end_of n s (d ∷ path) x ≡ held (InCell c) v → After n path d
  here n path d x none h =
      let e : held (InCell d) x ≡ held (InCell c) v = sym (walk_alone n s (d ∷ path) x none) ∙ h in
      let same : d ≡ c = cc in
      (w, ap (at z) same ∙ at_put s c w v there, walk_alone n z (d ∷ path) w bare ∙ ap (λ i. held (InCell i) w) same)

  arrives : (n : ℕ) (path : List ℕ) (d : ℕ) (x : Tree) → at s d ≡ Some x → walk_in end_of n s (d ∷ path) x ≡ held (InCell c) v → After n path d
  arrives n path d (node (leaf l) g m) some h = here n path d (node (leaf l) g m) refl h
  arrives n path d (node (branch k ts) g m) some h = here n path d (node (branch k ts) g m) refl h
  arrives n path d (node (fields fs) g m) some h = here n path d (node (fields fs) g m) refl h
  arrives zero path d (node (holder e) g m) some h = absurd (none_held (node (holder e) g m) v (InCell c) (visit s (d ∷ path) e) h)
  arrives (suc n) path d (node (holder e) g m) some h =
      let away : d ≡ c → ⊥ = λ same. let is : Some (node (holder e) g m) ≡ Some v = sym some ∙ ap (at s) same ∙ there in let q : Some e ≡ None = ap (option_and_then cell_of) is ∙ lone in cc in
      (node (holder e) g m, at_other s c d w away ∙ some, step n (d ∷ path) e g m (arrives n (d ∷ path) e) (at s e) (is_open e (d ∷ path)) refl refl h)

  alone_at : (n : ℕ) (t : Tree) → cell_of t ≡ None → walk_in end_of n s [] t ≡ held (InCell c) v → walk_in end_of n z [] t ≡ held (InCell c) w
  alone_at n t none h = let e : held (site_after None) t ≡ held (InCell c) v = sym (walk_alone n s [] t none) ∙ h in cc

  walk_put : (n : ℕ) (t : Tree) → walk_in end_of n s [] t ≡ held (InCell c) v → walk_in end_of n z [] t ≡ held (InCell c) w
  walk_put n (node (leaf l) g m) h = alone_at n (node (leaf l) g m) refl h
  walk_put n (node (branch k ts) g m) h = alone_at n (node (branch k ts) g m) refl h
  walk_put n (node (fields fs) g m) h = alone_at n (node (fields fs) g m) refl h
  walk_put zero (node (holder d) g m) h = absurd (none_held (node (holder d) g m) v (InCell c) (visit s [] d) h)
  walk_put (suc n) (node (holder d) g m) h = step n [] d g m (arrives n [] d) (at s d) (is_open d []) refl refl h

  pub end_put : (t : Tree) → end s [] t ≡ held (InCell c) v → end z [] t ≡ held (InCell c) w
  unfolding end
  end_put t h = ap (λ n. walk_in end_of n z [] t) (length_changed _ s c) ∙ walk_put _ t h
