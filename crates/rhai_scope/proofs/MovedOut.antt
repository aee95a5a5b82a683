-- Entries of which one changes, or loses its value temporarily.
use Rattle.std.proofs.Common.{◌≡◌, ℕ, zero, suc, ◌-◌, ◌<◌, List, [], ◌∷◌, ◌++◌, length, take, get_or, slice_get, slice_set, Option, Some, None, option_map, refl, sym, ap, ◌∙◌, arith}
use Rattle.std.proofs.lemmas.List.{append-nil, drop_all}
use Rattle.std.specs.Prelude.{remove}
use Rattle.rhai_value.specs.Tree.{Tree}
use Rattle.rhai_value.specs.declared.value.type_id.TypeId.{TypeId}
use Rattle.rhai_variant.specs.Reads.{written_as}
use Rattle.rhai_scope.specs.Entry.{Entry, popped, with_value}
use Rattle.rhai_scope.specs.Lookup.{changed_at, changed_if, value_at, with_value_at}
use Rattle.rhai_scope.specs.Typed.{written_entry}

pub length_changed : (f : Entry → Entry) (es : List Entry) (i : ℕ) → length (changed_at f es i) ≡ length es
length_changed f [] i = refl
length_changed f (e ∷ es) zero = refl
length_changed f (e ∷ es) (suc i) = ap suc (length_changed f es i)

-- and every other entry is unchanged
pub others_stay : (f : Entry → Entry) (es : List Entry) (i j : ℕ) → (j ≡ i → ⊥) → slice_get (changed_at f es i) j ≡ slice_get es j
others_stay f [] i j apart = refl
others_stay f (e ∷ es) zero zero apart = absurd (apart refl)
others_stay f (e ∷ es) zero (suc j) apart = refl
others_stay f (e ∷ es) (suc i) zero apart = refl
others_stay f (e ∷ es) (suc i) (suc j) apart = others_stay f es i j (λ h. apart (ap suc h))

-- the entry at an index, replaced
pub set_changed : (f : Entry → Entry) (es : List Entry) (i : ℕ) (e : Entry) → i < length es → e ≡ get_or es i e → slice_set es i (f e) ≡ changed_at f es i
set_changed f [] i e l is = absurd (omega (arith, l))
set_changed f (x ∷ es) zero e l is = ap (λ y. f y ∷ es) is
set_changed f (x ∷ es) (suc i) e l is = ap (λ xs. x ∷ xs) (set_changed f es i e (omega (arith, l)) is)

-- the last entry, replaced
pub last_changed : (f : Entry → Entry) (es : List Entry) (e g : Entry) → g ≡ get_or (es ++ e ∷ []) (length es) g → slice_set (es ++ e ∷ []) (length es) (f g) ≡ es ++ f e ∷ []
last_changed f [] e g is = ap (λ y. f y ∷ []) is
last_changed f (x ∷ es) e g is = ap (λ xs. x ∷ xs) (last_changed f es e g is)

-- removing the last entry
pub last_taken : (es : List Entry) (i : ℕ) → length es - i ≡ 1 → popped es ≡ remove es i
last_taken es i h =
    let last : length es - 1 ≡ i = omega arith in
    ap (λ n. take n es) last ∙ sym (ap (λ xs. take i es ++ xs) (drop_all (suc i) es (omega arith)) ∙ append-nil (take i es))

-- removing an entry, whatever its value is now
pub taken : (t : Tree) (es : List Entry) (i : ℕ) → remove (changed_at (with_value t) es i) i ≡ remove es i
taken t [] i = refl
taken t (e ∷ es) zero = refl
taken t (e ∷ es) (suc i) = ap (λ xs. e ∷ xs) (taken t es i)

-- replacing its value
pub value_changed : (t u : Tree) (es : List Entry) (i : ℕ) → option_map (λ (e : Entry). e.value) (slice_get es i) ≡ Some t → option_map (λ (e : Entry). e.value) (slice_get (changed_at (with_value u) es i) i) ≡ Some u
value_changed t u [] i h = cc
value_changed t u (e ∷ es) zero h = refl
value_changed t u (e ∷ es) (suc i) h = value_changed t u es i h

-- putting a value back
pub put_back : (t u : Tree) (es : List Entry) (i : ℕ) → option_map (λ (e : Entry). e.value) (slice_get es i) ≡ Some t → changed_at (with_value t) (changed_at (with_value u) es i) i ≡ es
put_back t u [] i h = refl
put_back t u (e ∷ es) zero h = let same : e.value ≡ t = cc in ap (λ x. with_value x e ∷ es) (sym same)
put_back t u (e ∷ es) (suc i) h = ap (λ xs. e ∷ xs) (put_back t u es i h)

-- writing a value in place
pub written_there : (k : TypeId) (w t : Tree) (es : List Entry) (i : ℕ) → option_map (λ (e : Entry). e.value) (slice_get es i) ≡ Some t → changed_at (with_value (written_as k w t)) es i ≡ changed_at (written_entry k w) es i
written_there k w t [] i h = refl
written_there k w t (e ∷ es) zero h = let same : e.value ≡ t = cc in ap (λ x. with_value (written_as k w x) e ∷ es) (sym same)
written_there k w t (e ∷ es) (suc i) h = ap (λ xs. e ∷ xs) (written_there k w t es i h)

pub written_at : (k : TypeId) (w t : Tree) (es : List Entry) (o : Option ℕ) → Some t ≡ value_at es o → with_value_at es o (written_as k w t) ≡ changed_if (written_entry k w) es o
written_at k w t es None h = refl
written_at k w t es (Some i) h = written_there k w t es i (sym h)

-- and writing one over itself
pub kept_there : (t : Tree) (es : List Entry) (i : ℕ) → option_map (λ (e : Entry). e.value) (slice_get es i) ≡ Some t → changed_at (with_value t) es i ≡ es
kept_there t [] i h = refl
kept_there t (e ∷ es) zero h = let same : e.value ≡ t = cc in ap (λ x. with_value x e ∷ es) (sym same)
kept_there t (e ∷ es) (suc i) h = ap (λ xs. e ∷ xs) (kept_there t es i h)

pub kept_at : (t : Tree) (es : List Entry) (o : Option ℕ) → Some t ≡ value_at es o → with_value_at es o t ≡ es
kept_at t es None h = refl
kept_at t es (Some i) h = kept_there t es i (sym h)
