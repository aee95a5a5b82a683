-- A value written at the end of a chain is held there.
use Rattle.std.proofs.Common.{◌≡◌, ℕ, ℤ, zero, suc, Bool, true, false, List, [], ◌∷◌, length, slice_get, Option, Some, None, option_and_then, refl, sym, ap, ◌∙◌}
use Rattle.rhai_value.specs.declared.value.access_mode.AccessMode.{AccessMode}
use Rattle.rhai_value.specs.declared.cells.chain.Site.{Site}
use Rattle.rhai_value.specs.declared.cells.chain.Site.TheVariants.{Here, InCell}
use Rattle.rhai_value.specs.declared.cells.store.Cell.{Cell}
use Rattle.rhai_value.specs.Tree.{Tree, node, leaf, branch, fields, holder, cell_of}
use Rattle.rhai_value.specs.Store.{at, put, unmarked}
use Rattle.rhai_value.specs.Walk.{Visit, entered, barred, revisited, is_open, visit, visit_of, visit_map, unentered, walk_in}
use Rattle.rhai_value.specs.End.{End, held, end_at, site_after, end_of, end}
use Rattle.rhai_value.specs.Items.{end_after}
use Rattle.rhai_value.proofs.Ends.{end_own, stands}
use Rattle.rhai_value.proofs.RelatedCells.{get_unchanged, length_changed}
use Rattle.rhai_value.proofs.SameFlat.{at_put}

-- a value that isn't a holder is held, however many cells may be open
own_in : (n : ℕ) (s : List Cell) (path : List ℕ) (t : Tree) → cell_of t ≡ None → walk_in end_of n s path t ≡ held (site_after (slice_get path 0)) t
own_in zero s path (node (leaf l) g m) e = refl
own_in (suc n) s path (node (leaf l) g m) e = refl
own_in zero s path (node (branch k ts) g m) e = refl
own_in (suc n) s path (node (branch k ts) g m) e = refl
own_in zero s path (node (fields fs) g m) e = refl
own_in (suc n) s path (node (fields fs) g m) e = refl
own_in n s path (node (holder c) g m) e = cc

-- a content that isn't opened isn't held
never : (t : Tree) (o : Visit Tree) (site : Site) (v : Tree) → end_at t (unentered o) ≡ held site v → ⊥
never t (entered x) site v e = cc
never t barred site v e = cc
never t revisited site v e = cc

-- the value held through a holder is the one held through its cell's content, which opens
went_on : (s : List Cell) (path : List ℕ) (t : Tree) (go : Tree → End) (o : Option Tree) (b : Bool) (site : Site) (v : Tree)
    → end_at t (visit_map go (visit_of o b)) ≡ held site v → (u : Tree) × (o ≡ Some u) × (b ≡ false) × (go u ≡ held site v)
went_on s path t go None b site v e = cc
went_on s path t go (Some u) true site v e = cc
went_on s path t go (Some u) false site v e = (u, refl, refl, e)

-- a held value isn't a holder
held_alone_in : (n : ℕ) (s : List Cell) (path : List ℕ) (t : Tree) (site : Site) (v : Tree) → walk_in end_of n s path t ≡ held site v → cell_of v ≡ None
held_alone_in n s path (node (leaf l) g m) site v e = let is : held (site_after (slice_get path 0)) (node (leaf l) g m) ≡ held site v = sym (own_in n s path (node (leaf l) g m) refl) ∙ e in let same : node (leaf l) g m ≡ v = cc in ap cell_of (sym same)
held_alone_in n s path (node (branch k ts) g m) site v e = let is : held (site_after (slice_get path 0)) (node (branch k ts) g m) ≡ held site v = sym (own_in n s path (node (branch k ts) g m) refl) ∙ e in let same : node (branch k ts) g m ≡ v = cc in ap cell_of (sym same)
held_alone_in n s path (node (fields fs) g m) site v e = let is : held (site_after (slice_get path 0)) (node (fields fs) g m) ≡ held site v = sym (own_in n s path (node (fields fs) g m) refl) ∙ e in let same : node (fields fs) g m ≡ v = cc in ap cell_of (sym same)
held_alone_in zero s path (node (holder c) g m) site v e = absurd (never (node (holder c) g m) (visit s path c) site v e)
held_alone_in (suc n) s path (node (holder c) g m) site v e =
    let on = went_on s path (node (holder c) g m) (walk_in end_of n s (c ∷ path)) (at s c) (is_open c path) site v e in
    held_alone_in n s (c ∷ path) on.0 site v on.3

held_alone : (s : List Cell) (t : Tree) (site : Site) (v : Tree) → end s [] t ≡ held site v → cell_of v ≡ None
unfolding end
held_alone s t site v e = held_alone_in (length s) s [] t site v e

-- a value v that isn't a holder is held in the cell c, and another one that isn't a holder is written there
module _ (s : List Cell) (c : ℕ) (v w : Tree) (there : at s c ≡ Some v) (alone : cell_of v ≡ None) (new : cell_of w ≡ None) where
  -- the cell of a holder on the way isn't the written one
  stays : (d : ℕ) (u : Tree) (b : ℕ) → at s d ≡ Some u → cell_of u ≡ Some b → at (put s c w) d ≡ Some u
  stays d u b is e =
      ap (option_and_then unmarked) (get_unchanged _ s c d (λ same.
      let one : Some u ≡ Some v = sym is ∙ ap (at s) same ∙ there in
      let value : u ≡ v = cc in
      let none : Some b ≡ None = sym e ∙ ap cell_of value ∙ alone in
      cc)) ∙ is

  -- the content of the cell of a holder that leads there
  abbrev Leads : ℕ → List ℕ → ℕ → Type 0
  Leads n path d = (x : Tree) × (at (put s c w) d ≡ Some x) × (walk_in end_of n (put s c w) (d ∷ path) x ≡ held (InCell c) w)

  last : (n : ℕ) (path : List ℕ) (d : ℕ) (u : Tree) → cell_of u ≡ None → walk_in end_of n s (d ∷ path) u ≡ held (InCell c) v → Leads n path d
  last n path d u none e =
      let is : held (InCell d) u ≡ held (InCell c) v = sym (own_in n s (d ∷ path) u none) ∙ e in
      let same : d ≡ c = cc in
      (w, ap (at (put s c w)) same ∙ at_put s c v w there, own_in n (put s c w) (d ∷ path) w new ∙ ap (λ i. held (InCell i) w) same)

  leads : (n : ℕ) (path : List ℕ) (d : ℕ) (u : Tree) → at s d ≡ Some u → walk_in end_of n s (d ∷ path) u ≡ held (InCell c) v
      → ((b : ℕ) (g : ℤ) (m : AccessMode) → walk_in end_of n s (d ∷ path) (node (holder b) g m) ≡ held (InCell c) v → walk_in end_of n (put s c w) (d ∷ path) (node (holder b) g m) ≡ held (InCell c) w)
      → Leads n path d
  leads n path d (node (leaf l) g m) is e again = last n path d (node (leaf l) g m) refl e
  leads n path d (node (branch k ts) g m) is e again = last n path d (node (branch k ts) g m) refl e
  leads n path d (node (fields fs) g m) is e again = last n path d (node (fields fs) g m) refl e
  leads n path d (node (holder b) g m) is e again = (node (holder b) g m, stays d (node (holder b) g m) b is refl, again b g m e)

  goes_in : (path : List ℕ) (t : Tree) (go : Tree → End) (o : Option Tree) (b : Bool) (x : Tree) → o ≡ Some x → b ≡ false → go x ≡ held (InCell c) w → end_at t (visit_map go (visit_of o b)) ≡ held (InCell c) w
  goes_in path t go o b x is off e = rw (is, off) e

  ends_in : (n : ℕ) (path : List ℕ) (d : ℕ) (g : ℤ) (m : AccessMode) → walk_in end_of n s path (node (holder d) g m) ≡ held (InCell c) v → walk_in end_of n (put s c w) path (node (holder d) g m) ≡ held (InCell c) w
  ends_in zero path d g m e = absurd (never (node (holder d) g m) (visit s path d) (InCell c) v e)
  ends_in (suc n) path d g m e =
      let on = went_on s path (node (holder d) g m) (walk_in end_of n s (d ∷ path)) (at s d) (is_open d path) (InCell c) v e in
      let to = leads n path d on.0 on.1 on.3 (λ b h i. ends_in n (d ∷ path) b h i) in
      goes_in path (node (holder d) g m) (walk_in end_of n (put s c w) (d ∷ path)) (at (put s c w) d) (is_open d path) to.0 to.1 on.2 to.2

  ends_own : (t : Tree) → cell_of t ≡ None → end s [] t ≡ held (InCell c) v → ⊥
  ends_own t none e = let is : held Here t ≡ held (InCell c) v = sym (end_own s [] t none) ∙ e in cc

  ends : (t : Tree) → end s [] t ≡ held (InCell c) v → end (put s c w) [] t ≡ held (InCell c) w
  unfolding end
  ends (node (holder d) g m) e = ap (λ n. walk_in end_of n (put s c w) [] (node (holder d) g m)) (length_changed _ s c) ∙ ends_in (length s) [] d g m e
  ends (node (leaf l) g m) e = absurd (ends_own (node (leaf l) g m) refl e)
  ends (node (branch k ts) g m) e = absurd (ends_own (node (branch k ts) g m) refl e)
  ends (node (fields fs) g m) e = absurd (ends_own (node (fields fs) g m) refl e)

-- a value written over a held one, which isn't a holder, is held at its site
pub end_written : (s : List Cell) (t v : Tree) (f : Tree → Tree) (site : Site) → end s [] t ≡ held site v → cell_of (f v) ≡ None → end_after f s t ≡ held site (f v)
end_written s t v f Here e none = rw e (end_own s [] (f v) none)
end_written s t v f (InCell c) e none = rw e (ends s c v (f v) (stands s t (InCell c) v (sym e)) (held_alone s t (InCell c) v e) none t e)
