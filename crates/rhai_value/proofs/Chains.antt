-- Counting steps finds the end of a chain.
use Rattle.std.proofs.Common.{◌≡◌, ℕ, ℤ, zero, suc, ◌≤◌, Bool, true, false, List, [], ◌∷◌, length, slice_get, Option, Some, None, option_map, refl, ap, ap₂, sym, ◌∙◌, arith, eqb, eqb-true, inl, inr}
use Rattle.std.specs.Option.{option_eq}
use Rattle.std.proofs.lemmas.Bool.Decides.{eqb_tells}
use Rattle.std.proofs.lemmas.Option.{none-some, same_Some}
use Rattle.rhai_value.specs.declared.value.access_mode.AccessMode.{AccessMode}
use Rattle.rhai_value.specs.declared.cells.chain.Site.{Site}
use Rattle.rhai_value.specs.declared.cells.chain.Site.TheVariants.{Here, InCell}
use Rattle.rhai_value.specs.declared.cells.store.Cell.{Cell}
use Rattle.rhai_value.specs.Tree.{Tree, node, leaf, branch, fields, holder, cell_of}
use Rattle.rhai_value.specs.Store.{at}
use Rattle.rhai_value.specs.Walk.{is_open, visit, visit_of, visit_map, unentered, walk_in}
use Rattle.rhai_value.specs.End.{held_in, End, held, stuck, closed, end_at, end_from, site_after, end_of, end, first, first_site}

-- the end within n steps, without tracking visited cells
abbrev pub chain : ℕ → List Cell → Site → Tree → End
chain zero s site t = end_from site (λ c. unentered (visit s [] c)) t
chain (suc n) s site t = end_from site (λ c. visit_map (chain n s (InCell c)) (visit s [] c)) t

-- If the chain from t closes within each number of steps up to n, so does the chain from a visited cell.
abbrev Behind : List Cell → List ℕ → Tree → Type 0
Behind s path t = (c : ℕ) (u : Tree) (n : ℕ) → is_open c path ≡ true → at s c ≡ Some u
    → ((k : ℕ) → k ≤ n → chain k s (site_after (slice_get path 0)) t ≡ closed) → chain n s (InCell c) u ≡ closed

-- the cell that opens is visited too
behind_next : (s : List Cell) (path : List ℕ) (c : ℕ) (u : Tree) (g : ℤ) (a : AccessMode)
    → at s c ≡ Some u → Behind s path (node (holder c) g a) → Behind s (c ∷ path) u
behind_next s path c u g a some h d v n passed is shut =
    elim (eqb_tells d c) [
      | inl same ↦
          let there : Some u ≡ Some v = sym some ∙ ap (at s) (sym same.1) ∙ is in
          let value : u ≡ v = cc in
          rw (same.1, sym value) (shut n (omega arith))
      | inr apart ↦ h d v n (rw apart.0 at passed) is earlier
    ]
  where
    earlier : (k : ℕ) → k ≤ n → chain k s (site_after (slice_get path 0)) (node (holder c) g a) ≡ closed
    earlier zero l = rw some refl
    earlier (suc k) l = rw some (shut k (omega arith))

-- a chain that returns to a visited cell never ends
loops : (s : List Cell) (path : List ℕ) (c : ℕ) (u : Tree) (g : ℤ) (a : AccessMode)
    → at s c ≡ Some u → is_open c path ≡ true → Behind s path (node (holder c) g a)
    → (n k : ℕ) → k ≤ n → chain k s (site_after (slice_get path 0)) (node (holder c) g a) ≡ closed
loops s path c u g a some passed h n zero l = rw some refl
loops s path c u g a some passed h zero (suc k) l = absurd (omega arith)
loops s path c u g a some passed h (suc n) (suc k) l = rw some (h c u k passed some (λ j i. loops s path c u g a some passed h n j (omega arith)))

unentered_either : (o : Option Tree) (b : Bool) → unentered {A = End} (visit_of o false) ≡ unentered (visit_of o b)
unentered_either None b = refl
unentered_either (Some u) true = refl
unentered_either (Some u) false = refl

-- within each number of steps, the chain ends as the walk that tracks visited cells does
chain_walk : (n : ℕ) (s : List Cell) (path : List ℕ) (t : Tree) → Behind s path t → chain n s (site_after (slice_get path 0)) t ≡ walk_in end_of n s path t
chain_walk zero s path (node (leaf l) g a) h = refl
chain_walk (suc n) s path (node (leaf l) g a) h = refl
chain_walk zero s path (node (branch k ts) g a) h = refl
chain_walk (suc n) s path (node (branch k ts) g a) h = refl
chain_walk zero s path (node (fields fs) g a) h = refl
chain_walk (suc n) s path (node (fields fs) g a) h = refl
chain_walk zero s path (node (holder c) g a) h = ap (end_at (node (holder c) g a)) (unentered_either (at s c) (is_open c path))
chain_walk (suc n) s path (node (holder c) g a) h = at_cell (chain_walk n s (c ∷ path)) (at s c) (is_open c path) refl refl
  where
    at_cell : ((u : Tree) → Behind s (c ∷ path) u → chain n s (InCell c) u ≡ walk_in end_of n s (c ∷ path) u)
        → (o : Option Tree) (b : Bool) → at s c ≡ o → is_open c path ≡ b
        → end_at (node (holder c) g a) (visit_map (chain n s (InCell c)) (visit_of o false))
        ≡ end_at (node (holder c) g a) (visit_map (walk_in end_of n s (c ∷ path)) (visit_of o b))
    at_cell again None b some passed = refl
    at_cell again (Some u) true some passed = h c u n passed some (loops s path c u g a some passed h n)
    at_cell again (Some u) false some passed = again u (behind_next s path c u g a some h)

-- as many steps as there are cells find the end
pub chain-end : (s : List Cell) (t : Tree) → chain (length s) s Here t ≡ end s [] t
unfolding end
chain-end s t = chain_walk (length s) s [] t (λ c u n passed. cc)

-- one value leads to another through this many holders
abbrev pub Reaches : List Cell → ℕ → Tree → Tree → Type 0
Reaches s zero t u = t ≡ u
Reaches s (suc n) t u = (c : ℕ) × (v : Tree) × (cell_of t ≡ Some c) × (at s c ≡ Some v) × Reaches s n v u

reaches_next : (s : List Cell) (n : ℕ) (t u w : Tree) (c : ℕ) → Reaches s n t u → cell_of u ≡ Some c → at s c ≡ Some w → Reaches s (suc n) t w
reaches_next s zero t u w c h e is = (c, w, ap cell_of h ∙ e, is, refl)
reaches_next s (suc n) t u w c h e is = (h.0, h.1, h.2, h.3, reaches_next s n h.1 u w c h.4 e is)

-- a chain that returns to a cell never ends
comes_back : (s : List Cell) (c : ℕ) (v u : Tree) (j : ℕ) → at s c ≡ Some v → Reaches s j v u → cell_of u ≡ Some c
    → (n k : ℕ) (site : Site) (t : Tree) → Reaches s k t u → chain n s site t ≡ closed
comes_back s c v u j is round e zero zero site (node (holder d) g a) r = rw (same_Some d c (ap cell_of r ∙ e), is) refl
comes_back s c v u j is round e (suc n) zero site (node (holder d) g a) r = rw (same_Some d c (ap cell_of r ∙ e), is) (comes_back s c v u j is round e n j (InCell c) v round)
comes_back s c v u j is round e zero (suc k) site (node (holder d) g a) r = rw (same_Some d r.0 r.2, r.3) refl
comes_back s c v u j is round e (suc n) (suc k) site (node (holder d) g a) r = rw (same_Some d r.0 r.2, r.3) (comes_back s c v u j is round e n k (InCell r.0) r.1 r.4)
comes_back s c v u j is round e n zero site (node (leaf l) g a) r = absurd (none-some c (ap cell_of r ∙ e))
comes_back s c v u j is round e n zero site (node (branch k ts) g a) r = absurd (none-some c (ap cell_of r ∙ e))
comes_back s c v u j is round e n zero site (node (fields fs) g a) r = absurd (none-some c (ap cell_of r ∙ e))
comes_back s c v u j is round e n (suc k) site (node (leaf l) g a) r = absurd (none-some r.0 r.2)
comes_back s c v u j is round e n (suc k) site (node (branch i ts) g a) r = absurd (none-some r.0 r.2)
comes_back s c v u j is round e n (suc k) site (node (fields fs) g a) r = absurd (none-some r.0 r.2)

-- the chain is at t, some steps after the content of the remembered cell, if there is one
abbrev pub IsBehind : List Cell → Option ℕ → Tree → Type 0
IsBehind s None t = Unit {0}
IsBehind s (Some c) t = (v : Tree) × (j : ℕ) × (at s c ≡ Some v) × Reaches s j v t

pub behind_next_step : (s : List Cell) (kept : Option ℕ) (t w : Tree) (c : ℕ) → IsBehind s kept t → Some c ≡ cell_of t → Some w ≡ at s c → IsBehind s kept w
behind_next_step s None t w c h e is = tt
behind_next_step s (Some d) t w c h e is = (h.0, suc h.1, h.2, reaches_next s h.1 h.0 t w c h.3 (sym e) (sym is))

pub behind_first : (s : List Cell) (w : Tree) (c : ℕ) → Some w ≡ at s c → IsBehind s (Some c) w
behind_first s w c is = (w, 0, sym is, refl)

-- a chain that has returned to the remembered cell never ends
pub behind_closed : (s : List Cell) (kept : Option ℕ) (t : Tree) (c n : ℕ) (site : Site) → IsBehind s kept t → true ≡ option_eq eqb kept (Some c) → Some c ≡ cell_of t → chain n s site t ≡ closed
behind_closed s None t c n site h q e = cc
behind_closed s (Some d) t c n site h q e = comes_back s d h.0 t h.1 h.2 h.3 (sym (ap Some (eqb-true d c (sym q)) ∙ e)) n 0 site t refl

-- a step into the cell of a holder
pub chain_next : (s : List Cell) (t w : Tree) (c n m : ℕ) (site : Site) → Some c ≡ cell_of t → Some w ≡ at s c → n ≡ suc m → chain n s site t ≡ chain m s (InCell c) w
chain_next s (node (leaf l) g a) w c n m site e is next = cc
chain_next s (node (branch k ts) g a) w c n m site e is next = cc
chain_next s (node (fields fs) g a) w c n m site e is next = cc
chain_next s (node (holder d) g a) w c n m site e is next = rw (next, same_Some d c (sym e), ← is) refl

chain_alone : (n : ℕ) (s : List Cell) (site : Site) (t : Tree) → None ≡ cell_of t → held site t ≡ chain n s site t
chain_alone zero s site (node (leaf l) g a) e = refl
chain_alone (suc n) s site (node (leaf l) g a) e = refl
chain_alone zero s site (node (branch k ts) g a) e = refl
chain_alone (suc n) s site (node (branch k ts) g a) e = refl
chain_alone zero s site (node (fields fs) g a) e = refl
chain_alone (suc n) s site (node (fields fs) g a) e = refl
chain_alone zero s site (node (holder c) g a) e = cc
chain_alone (suc n) s site (node (holder c) g a) e = cc

-- a value that isn't a holder is held
pub end_alone : (s : List Cell) (t : Tree) → None ≡ cell_of t → held Here t ≡ end s [] t
end_alone s t e = chain_alone (length s) s Here t e ∙ chain-end s t

-- a holder whose cell is marked or not in the store holds nothing
chain_stuck : (n : ℕ) (s : List Cell) (site : Site) (t : Tree) (c : ℕ) → Some c ≡ cell_of t → None ≡ at s c → stuck t ≡ chain n s site t
chain_stuck n s site (node (leaf l) g a) c e is = cc
chain_stuck n s site (node (branch k ts) g a) c e is = cc
chain_stuck n s site (node (fields fs) g a) c e is = cc
chain_stuck zero s site (node (holder d) g a) c e is = rw (same_Some d c (sym e), ← is) refl
chain_stuck (suc n) s site (node (holder d) g a) c e is = rw (same_Some d c (sym e), ← is) refl

-- the content of a holder's cell is held, if it isn't a holder
pub end_near : (s : List Cell) (t w : Tree) (c : ℕ) → Some c ≡ cell_of t → Some w ≡ at s c → None ≡ cell_of w → held (InCell c) w ≡ end s [] t
end_near [] t w c e is alone = cc
end_near (x ∷ xs) t w c e is alone = chain_alone (length xs) (x ∷ xs) (InCell c) w alone ∙ sym (chain_next (x ∷ xs) t w c (length (x ∷ xs)) (length xs) Here e is refl) ∙ chain-end (x ∷ xs) t

-- A first content that isn't a holder is held at its site; if there is none, the chain is stuck at once.
first_at : (s : List Cell) (t w : Tree) (site : Site) (c : ℕ) (o : Option Tree) → Some c ≡ cell_of t → o ≡ at s c
    → Some site ≡ option_map (λ x. InCell c) o → Some w ≡ o → None ≡ cell_of w → held site w ≡ end s [] t
first_at s t w site c None e is p q alone = cc
first_at s t w site c (Some u) e is p q alone = let same : site ≡ InCell c = cc in ap (λ i. held i w) same ∙ end_near s t w c e (q ∙ is) alone

own_alone : (s : List Cell) (t : Tree) → Some Here ≡ first_site s t → None ≡ cell_of t
own_alone s (node (leaf l) g a) p = refl
own_alone s (node (branch k ts) g a) p = refl
own_alone s (node (fields fs) g a) p = refl
own_alone s (node (holder c) g a) p = at_cell (at s c) p
  where
    at_cell : (o : Option Tree) → Some Here ≡ option_map (λ x. InCell c) o → None ≡ Some c
    at_cell None p = cc
    at_cell (Some x) p = cc

pub end_at_first : (s : List Cell) (t : Tree) → Some Here ≡ first_site s t → held Here t ≡ end s [] t
end_at_first s t p = end_alone s t (own_alone s t p)

pub held_at_first : (s : List Cell) (t : Tree) → Some Here ≡ first_site s t → Some t ≡ held_in (end s [] t)
held_at_first s t p = ap held_in (end_at_first s t p)

own_first : (s : List Cell) (t w : Tree) (site : Site) → Some site ≡ Some Here → Some w ≡ Some t → None ≡ cell_of t → held site w ≡ end s [] t
own_first s t w site p q alone = let there : site ≡ Here = cc in let same : w ≡ t = cc in ap₂ held there same ∙ end_alone s t alone

pub end_first : (s : List Cell) (t w : Tree) (site : Site) → Some site ≡ first_site s t → Some w ≡ first s t → None ≡ cell_of w → held site w ≡ end s [] t
end_first s (node (leaf l) g a) w site p q alone = own_first s (node (leaf l) g a) w site p q refl
end_first s (node (branch k ts) g a) w site p q alone = own_first s (node (branch k ts) g a) w site p q refl
end_first s (node (fields fs) g a) w site p q alone = own_first s (node (fields fs) g a) w site p q refl
end_first s (node (holder c) g a) w site p q alone = first_at s (node (holder c) g a) w site c (at s c) refl refl p q alone

pub held_first : (s : List Cell) (t w : Tree) → Some w ≡ first s t → None ≡ cell_of w → Some w ≡ held_in (end s [] t)
held_first s (node (leaf l) g a) w q alone = q ∙ ap held_in (end_alone s (node (leaf l) g a) refl)
held_first s (node (branch k ts) g a) w q alone = q ∙ ap held_in (end_alone s (node (branch k ts) g a) refl)
held_first s (node (fields fs) g a) w q alone = q ∙ ap held_in (end_alone s (node (fields fs) g a) refl)
held_first s (node (holder c) g a) w q alone = ap held_in (end_near s (node (holder c) g a) w c refl q alone)

pub end_barred : (s : List Cell) (t : Tree) → None ≡ first s t → stuck t ≡ end s [] t
end_barred s (node (leaf l) g a) e = cc
end_barred s (node (branch k ts) g a) e = cc
end_barred s (node (fields fs) g a) e = cc
end_barred s (node (holder c) g a) e = chain_stuck (length s) s Here (node (holder c) g a) c refl e ∙ chain-end s (node (holder c) g a)

pub held_barred : (s : List Cell) (t : Tree) → None ≡ first s t → None ≡ held_in (end s [] t)
held_barred s t e = ap held_in (end_barred s t e)
