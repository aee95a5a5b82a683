-- Lists of places while names are added or removed, one by one.
use Rattle.std.proofs.Common.{◌≡◌, ℕ, ◌+◌, ◌<◌, ◌≤◌, List, [], ◌∷◌, ◌++◌, length, map, take, get_or, append_assoc, sym, ap, ◌∙◌, subst}
use Rattle.std.proofs.lemmas.List.{append-nil, length-append, length-map, length-take-le, map-append, take_all, take_more}
use Rattle.rhai_scope.specs.NameIndex.{ListsNames}
use Rattle.rhai_scope.specs.declared.name_index.NameIndex.{NameIndex}

module _ {H : Type 0} (name_of : H → List ℕ) (ns : List (List ℕ)) (hs : List H) where
  -- the names before, and those of the first headings
  abbrev pub so_far : ℕ → List (List ℕ)
  so_far i = ns ++ map name_of (take i hs)

  pub length_so_far : (place i : ℕ) → length ns ≡ place → i ≤ length hs → length (so_far i) ≡ place + i
  length_so_far place i is h =
      length-append ns (map name_of (take i hs)) ∙ ap (λ n. n + length (map name_of (take i hs))) is
      ∙ ap (λ n. place + n) (length-map (take i hs) name_of ∙ length-take-le i hs h)

  more : (i : ℕ) (h : H) (n : List ℕ) → i < length hs → h ≡ get_or hs i h → n ≡ name_of h → so_far (i + 1) ≡ so_far i ++ n ∷ []
  more i h n l is named =
      ap (λ xs. ns ++ map name_of xs) (take_more hs i h l ∙ ap (λ x. take i hs ++ x ∷ []) (sym is))
      ∙ ap (λ xs. ns ++ xs) (map-append name_of (take i hs) (h ∷ []))
      ∙ sym (append_assoc ns (map name_of (take i hs)) (name_of h ∷ []))
      ∙ ap (λ m. so_far i ++ m ∷ []) (sym named)

  module _ (p : NameIndex) where
    pub one_more : (i : ℕ) (h : H) (n : List ℕ) → i < length hs → h ≡ get_or hs i h → n ≡ name_of h → ListsNames p (so_far i ++ n ∷ []) → ListsNames p (so_far (i + 1))
    one_more i h n l is named lists = subst (ListsNames p) (sym (more i h n l is named)) lists

    pub one_less : (i : ℕ) (h : H) (n : List ℕ) → i < length hs → h ≡ get_or hs i h → n ≡ name_of h → ListsNames p (so_far (i + 1)) → ListsNames p (so_far i ++ n ∷ [])
    one_less i h n l is named lists = subst (ListsNames p) (more i h n l is named) lists

    pub all : (i : ℕ) → length hs ≤ i → ListsNames p (so_far i) → ListsNames p (ns ++ map name_of hs)
    all i h lists = subst (λ xs. ListsNames p (ns ++ map name_of xs)) (take_all i hs h) lists

    pub from_all : (i : ℕ) → length hs ≤ i → ListsNames p (ns ++ map name_of hs) → ListsNames p (so_far i)
    from_all i h lists = subst (λ xs. ListsNames p (ns ++ map name_of xs)) (sym (take_all i hs h)) lists

    pub none : ListsNames p (so_far 0) → ListsNames p ns
    none lists = subst (ListsNames p) (append-nil ns) lists

    pub from_none : ListsNames p ns → ListsNames p (so_far 0)
    from_none lists = subst (ListsNames p) (sym (append-nil ns)) lists
