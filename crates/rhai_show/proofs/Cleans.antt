-- Cells that a search has left, and found clean.
use Rattle.std.proofs.Common.{◌≡◌, ℕ, ℤ, pos, ◌||◌, ◌⊎◌, nat_eq, Bool, true, false, List, ◌∷◌, Some, is_some, refl, sym, ap, ap₂, ◌∙◌, inl, inr, eqb-true}
use Rattle.std.proofs.lemmas.Bool.{and_from, cases_eq}
use Rattle.rhai_value.specs.declared.value.access_mode.AccessMode.{AccessMode}
use Rattle.rhai_value.specs.declared.value.access_mode.AccessMode.TheVariants.{ReadWrite}
use Rattle.rhai_value.specs.declared.cells.store.Cell.{Cell}
use Rattle.rhai_value.specs.Tree.{Tree, node, leaf, branch, fields, holder, made}
use Rattle.rhai_value.specs.Store.{at}
use Rattle.rhai_value.specs.Walk.{is_open, opened, visit_of, entry}
use Rattle.rhai_value.proofs.ForCallers.{by_value}
use Rattle.rhai_show.specs.Plain.{plain}
use Rattle.rhai_show.specs.Clean.{are_plain, values_in, Apart, Names, AllName, FieldsName, Clean}
use Rattle.rhai_show.proofs.Plains.{plain-leaf, plain-branch, plain-map, plain-holders, plain-opened}

pub either : (b : Bool) → (b ≡ true) ⊎ (b ≡ false)
either true = inl refl
either false = inr refl

-- A value that refers only to clean cells is plain on every path that has none of these open.
pub named_plain : (s : List Cell) (d : ℕ → Bool) → Clean s d → (path : List ℕ) → Apart path d → (t : Tree) → Names d t → is_some (plain s path t) ≡ true
named_plain s d clean path apart = by_value (λ t. Names d t → is_some (plain s path t) ≡ true) (λ ts. AllName d ts → are_plain s path ts ≡ true) (λ fs. FieldsName d fs → are_plain s path (values_in fs) ≡ true)
    (λ l g m n. sym (plain-leaf s path (node (leaf l) g m) l g m refl))
    (λ k ts g m all n. plain-branch s path (node (branch k ts) g m) k ts g m refl ∙ all n)
    (λ fs g m all n. plain-map s path (node (fields fs) g m) fs g m refl ∙ all n)
    (λ c g m n. ap is_some (plain-holders s path c g (pos 0) m ReadWrite) ∙ clean.held c n path apart)
    (λ n. refl) (λ t ts p q n. and_from _ _ (p n.0) (q n.1)) (λ n. refl) (λ k t fs p q n. and_from _ _ (p n.0) (q n.1))

-- no cell is known to be clean yet
pub clean_none : (s : List Cell) (d : ℕ → Bool) → ((c : ℕ) → d c ≡ false) → Clean s d
clean_none s d none = record { held = λ c h path apart. let no : d c ≡ false = none c in cc }

-- an equivalent set of cells
pub clean_same : (s : List Cell) (d e : ℕ → Bool) → ((c : ℕ) → d c ≡ e c) → Clean s d → Clean s e
clean_same s d e same clean = record { held = λ c h path apart. clean.held c (same c ∙ h) path (λ x o. same x ∙ apart x o) }

entry_of : (s : List Cell) (path : List ℕ) (c : ℕ) (g : ℤ) (m : AccessMode) (t : Tree) → at s c ≡ Some t → is_open c path ≡ false → Some t ≡ entry s path (node (holder c) g m)
entry_of s path c g m t e f = sym (ap₂ (λ o b. opened (visit_of o b)) e f)

falls : (a b : Bool) → (a ≡ true → b ≡ true) → b ≡ false → a ≡ false
falls true b f e = let h : b ≡ true = f refl in cc
falls false b f e = refl

or_else : (a b : Bool) → a ≡ false → (a || b) ≡ true → b ≡ true
or_else true b f h = cc
or_else false b f h = h

pub unequal : (x c : ℕ) → (x ≡ c → ⊥) → nat_eq x c ≡ false
unequal x c away = elim (either (nat_eq x c)) [ inr f ↦ f | inl e ↦ absurd (away (eqb-true x c e)) ]

-- another cell is open below the last
pub further : (c : ℕ) (path : List ℕ) (y : ℕ) → (y ≡ c → ⊥) → is_open y (c ∷ path) ≡ true → is_open y path ≡ true
further c path y away o = or_else (nat_eq y c) (is_open y path) (unequal y c away) o

-- A cell whose content refers only to clean cells is clean, if it isn't one of these.
pub clean_more : (s : List Cell) (d e : ℕ → Bool) (c : ℕ) (t : Tree) → Clean s d → at s c ≡ Some t → d c ≡ false → Names d t
    → ((x : ℕ) → d x ≡ true → e x ≡ true) → ((x : ℕ) → e x ≡ true → (x ≡ c) ⊎ (d x ≡ true)) → e c ≡ true → Clean s e
clean_more s d e c t clean there new names grows only own = record {
  held = λ x h path apart.
      let before : Apart path d = λ y o. falls (d y) (e y) (grows y) (apart y o) in
      elim (only x h) [
        | inr old ↦ clean.held x old path before
        | inl same ↦
            let closed : is_open c path ≡ false = elim (either (is_open c path)) [ inr f ↦ f | inl o ↦ (let no : e c ≡ false = apart c o in cc) ] in
            let beyond : Apart (c ∷ path) d = λ y o. elim (cases_eq y c) [ inl eq ↦ ap d eq ∙ new | inr away ↦ before y (further c path y away o) ] in
            ap (λ y. is_some (plain s path (made (holder y)))) same
            ∙ ap is_some (plain-opened s path (made (holder c)) t c (pos 0) ReadWrite refl (entry_of s path c (pos 0) ReadWrite t there closed))
            ∙ named_plain s d clean (c ∷ path) beyond t names
      ];
}
