-- The last entry of each name, searched from the last entry on.
use Rattle.std.proofs.Common.{◌≡◌, ℕ, suc, ◌+◌, ◌<◌, List, [], ◌∷◌, ◌++◌, length, map, take, drop, get_or, Option, Some, None, refl, sym, ap, ap₂, ◌∙◌, arith}
use Rattle.std.proofs.lemmas.List.{append-nil, length-take-le, map-append, take-append-drop}
use Rattle.std.proofs.Math.Seq.{drop-cons}
use Rattle.rhai_scope.specs.Entry.{Entry, copied_entry}
use Rattle.rhai_scope.specs.Lookup.{later_or_here, last_position, unless_later, visible}
use Rattle.rhai_scope.proofs.Found.{same}
use Rattle.rhai_scope.proofs.Indexed.{later}

module _ (es : List Entry) (i : ℕ) (e : Entry) (l : i < length es) (is : e ≡ get_or es i e) where
  -- the entry, and those after it
  from_here : drop i es ≡ e ∷ drop (suc i) es
  from_here = drop-cons es i e l ∙ ap (λ y. y ∷ drop (suc i) es) (sym is)

  around : es ≡ take i es ++ e ∷ drop (suc i) es
  around = sym (take-append-drop i es) ∙ ap (λ xs. take i es ++ xs) from_here

  position : (k : ℕ) → last_position e.name (e ∷ drop (suc i) es) ≡ Some k → last_position e.name es ≡ Some (i + k)
  position k h = ap (last_position e.name) around ∙ later e.name (take i es) (e ∷ drop (suc i) es) k h ∙ ap (λ n. Some (n + k)) (length-take-le i es (omega (arith, l)))

  shown_here : visible (drop i es) ≡ visible (drop (suc i) es) ++ unless_later (last_position e.name (drop (suc i) es)) e
  shown_here = ap visible from_here

  last_if : (o : Option ℕ) → last_position e.name (drop (suc i) es) ≡ o → last_position e.name es ≡ Some i → unless_later o e ≡ e ∷ []
  last_if None h at = refl
  last_if (Some k) h at =
      let behind : last_position e.name es ≡ Some (i + suc k) = position (suc k) (ap₂ later_or_here h refl) in
      let both : Some i ≡ Some (i + suc k) = sym at ∙ behind in
      let equal : i ≡ i + suc k = cc in
      absurd (omega (arith, equal))

  not_last : (o : Option ℕ) → last_position e.name (drop (suc i) es) ≡ o → (last_position e.name es ≡ Some i → ⊥) → unless_later o e ≡ []
  not_last (Some k) h other = refl
  not_last None h other =
      let here : last_position e.name es ≡ Some (i + 0) = position 0 (ap₂ later_or_here h (same e.name e.name refl)) in
      let place : i + 0 ≡ i = omega arith in
      absurd (other (here ∙ ap Some place))

  -- an entry that is the last of its name is visible, and one that isn't is hidden
  pub visible_more : (copies more : List Entry) → copies ≡ map copied_entry (visible (drop (suc i) es)) → last_position e.name es ≡ Some i → more ≡ copies ++ copied_entry e ∷ [] → more ≡ map copied_entry (visible (drop i es))
  visible_more copies more so_far last is_more =
      is_more ∙ ap (λ xs. xs ++ copied_entry e ∷ []) so_far ∙ sym (map-append copied_entry (visible (drop (suc i) es)) (e ∷ []))
      ∙ ap (λ xs. map copied_entry (visible (drop (suc i) es) ++ xs)) (sym (last_if (last_position e.name (drop (suc i) es)) refl last)) ∙ ap (map copied_entry) (sym shown_here)

  pub hidden_more : (copies : List Entry) → copies ≡ map copied_entry (visible (drop (suc i) es)) → (last_position e.name es ≡ Some i → ⊥) → copies ≡ map copied_entry (visible (drop i es))
  hidden_more copies so_far other =
      so_far ∙ ap (map copied_entry) (sym (append-nil (visible (drop (suc i) es))) ∙ ap (λ xs. visible (drop (suc i) es) ++ xs) (sym (not_last (last_position e.name (drop (suc i) es)) refl other)) ∙ sym shown_here)
