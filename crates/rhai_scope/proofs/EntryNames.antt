-- Entries added and removed, and the index of their names.
use Rattle.std.proofs.Common.{◌≡◌, ℕ, suc, ◌<◌, ◌≤◌, List, [], ◌∷◌, ◌++◌, length, take, drop, get_or, slice_set, sym, ap, ◌∙◌, subst}
use Rattle.std.proofs.lemmas.List.{length-map, length-take-le, map-append, take-append-drop}
use Rattle.std.proofs.Math.Seq.{drop-cons, map-set_same}
use Rattle.std.specs.Prelude.{remove}
use Rattle.rhai_scope.specs.Entry.{Entry}
use Rattle.rhai_scope.specs.Index.{IsIndexOf, names_of}
use Rattle.rhai_scope.specs.declared.index.Index.{Index}

names_append : (es fs : List Entry) → names_of (es ++ fs) ≡ names_of es ++ names_of fs
names_append es fs = map-append (λ e. e.name) es fs

pub length_names : (es : List Entry) → length (names_of es) ≡ length es
length_names es = length-map es (λ e. e.name)

module _ (x : Index) (es fs : List Entry) where
  -- the same entries
  pub indexed_same : fs ≡ es → IsIndexOf x (names_of es) → IsIndexOf x (names_of fs)
  indexed_same is h = subst (λ gs. IsIndexOf x (names_of gs)) (sym is) h

  -- more entries
  pub indexed_more : (gs : List Entry) → fs ≡ es ++ gs → IsIndexOf x (names_of es ++ names_of gs) → IsIndexOf x (names_of fs)
  indexed_more gs is h = subst (IsIndexOf x) (sym (ap names_of is ∙ names_append es gs)) h

  pub indexed_parts : (gs : List Entry) → fs ≡ es ++ gs → IsIndexOf x (names_of fs) → IsIndexOf x (names_of es ++ names_of gs)
  indexed_parts gs is h = subst (IsIndexOf x) (ap names_of is ∙ names_append es gs) h

  -- one more, and one fewer
  pub indexed_pushed : (e : Entry) (name : List ℕ) → fs ≡ es ++ e ∷ [] → name ≡ e.name → IsIndexOf x (names_of es ++ name ∷ []) → IsIndexOf x (names_of fs)
  indexed_pushed e name is named h = indexed_more (e ∷ []) is (subst (λ n. IsIndexOf x (names_of es ++ n ∷ [])) named h)

  pub indexed_popped : (e : Entry) (name : List ℕ) → fs ≡ es ++ e ∷ [] → name ≡ e.name → IsIndexOf x (names_of fs) → IsIndexOf x (names_of es ++ name ∷ [])
  indexed_popped e name is named h = subst (λ n. IsIndexOf x (names_of es ++ n ∷ [])) (sym named) (indexed_parts (e ∷ []) is h)

-- one of the entries, and those before and after it
module _ (x : Index) (es : List Entry) (i : ℕ) where
  pub length_before : i ≤ length es → length (names_of (take i es)) ≡ i
  length_before h = length_names (take i es) ∙ length-take-le i es h

  around : (e : Entry) → i < length es → e ≡ get_or es i e → es ≡ take i es ++ e ∷ drop (suc i) es
  around e l is = sym (take-append-drop i es) ∙ ap (λ xs. take i es ++ xs) (drop-cons es i e l ∙ ap (λ y. y ∷ drop (suc i) es) (sym is))

  pub indexed_around : (e : Entry) (name : List ℕ) → i < length es → e ≡ get_or es i e → name ≡ e.name → IsIndexOf x (names_of es) → IsIndexOf x (names_of (take i es) ++ name ∷ names_of (drop (suc i) es))
  indexed_around e name l is named h =
      subst (λ n. IsIndexOf x (names_of (take i es) ++ n ∷ names_of (drop (suc i) es))) (sym named)
      (indexed_parts x (take i es) es (e ∷ drop (suc i) es) (around e l is) h)

  pub indexed_without : (fs : List Entry) → fs ≡ remove es i → IsIndexOf x (names_of (take i es) ++ names_of (drop (suc i) es)) → IsIndexOf x (names_of fs)
  indexed_without fs is h = indexed_more x (take i es) fs (drop (suc i) es) is h

  -- it is replaced by one with its name
  pub indexed_written : (e f : Entry) → e ≡ get_or es i e → f.name ≡ e.name → IsIndexOf x (names_of es) → IsIndexOf x (names_of (slice_set es i f))
  indexed_written e f is named h = subst (IsIndexOf x) (sym (map-set_same (λ (y : Entry). y.name) es i f e (named ∙ ap (λ (y : Entry). y.name) is))) h
