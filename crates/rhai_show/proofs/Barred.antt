-- Reading holders.
use Rattle.std.proofs.Common.{◌≡◌, ℕ, false, List, [], ◌∷◌, Some, None, refl, sym, ap, ◌∙◌}
use Rattle.rhai_value.specs.declared.cells.store.Cell.{Cell}
use Rattle.rhai_value.specs.End.{first}
use Rattle.rhai_value.specs.Tree.{Tree, node, leaf, branch, fields, holder}
use Rattle.rhai_value.specs.Walk.{is_open, opened, visit_map, visit_of, entry}
use Rattle.rhai_show.specs.Plain.{plain_held, plain}
use Rattle.rhai_show.proofs.Plains.{plain_opens, plain-opened}

-- a holder without a first content isn't plain
pub barred_plain : (s : List Cell) (path : List ℕ) (t : Tree) → first s t ≡ None → plain s path t ≡ None
barred_plain s path (node (leaf l) g m) e = cc
barred_plain s path (node (branch k ts) g m) e = cc
barred_plain s path (node (fields fs) g m) e = cc
barred_plain s path (node (holder c) g m) e = plain_opens s path (node (holder c) g m) ∙ ap (λ o. plain_held (visit_map (plain s (c ∷ path)) (visit_of o (is_open c path)))) e

-- nor does its cell open
pub barred_closed : (s : List Cell) (path : List ℕ) (t u : Tree) → Some u ≡ entry s path t → first s t ≡ None → ⊥
barred_closed s path (node (leaf l) g m) u is e = absurd (cc)
barred_closed s path (node (branch k ts) g m) u is e = absurd (cc)
barred_closed s path (node (fields fs) g m) u is e = absurd (cc)
barred_closed s path (node (holder c) g m) u is e = let bad : Some u ≡ None = is ∙ ap (λ o. opened (visit_of o (is_open c path))) e in absurd (cc)

-- a value is plain as its first content is
pub read_plain : (s : List Cell) (t u : Tree) → Some u ≡ first s t → (path : List ℕ) × (plain s path u ≡ plain s [] t)
read_plain s (node (leaf l) g m) u e = let same : u ≡ node (leaf l) g m = cc in ([], ap (plain s []) same)
read_plain s (node (branch k ts) g m) u e = let same : u ≡ node (branch k ts) g m = cc in ([], ap (plain s []) same)
read_plain s (node (fields fs) g m) u e = let same : u ≡ node (fields fs) g m = cc in ([], ap (plain s []) same)
read_plain s (node (holder c) g m) u e = (c ∷ [], sym (plain-opened s [] (node (holder c) g m) u c g m refl (ap (λ o. opened (visit_of o false)) e)))
