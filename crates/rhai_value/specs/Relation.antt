-- Values and stores that are equal up to a renaming of cells.
use Rattle.std.specs.Prelude.{◌≡◌, ℕ, zero, suc, ◌+◌, Bool, true, false, nat_eq, ◌||◌, ◌&&◌, List, [], ◌∷◌, length, slice_get, Option, Some, None}
use Rattle.std.specs.List.{AllZip}
use Rattle.rhai_value.specs.declared.cells.chain.Site.{Site}
use Rattle.rhai_value.specs.declared.cells.chain.Site.TheVariants.{Here, InCell}
use Rattle.rhai_value.specs.declared.cells.store.Cell.{Cell}
use Rattle.rhai_value.specs.Tree.{Tree, node, Content, leaf, branch, fields, holder, Trees, no_trees, tree_then, Fields, no_fields, field_then}
use Rattle.rhai_value.specs.End.{End, held, stuck, closed}

-- pairs of a cell of one store and a cell of another
abbrev pub Renaming : Type 0
Renaming = List (ℕ × ℕ)

-- whether the cells c and d are a pair of r
abbrev pub paired : Renaming → ℕ → ℕ → Bool
paired [] c d = false
paired (p ∷ ps) c d = (nat_eq p.0 c && nat_eq p.1 d) || paired ps c d

-- the same constructors, tags, modes and contents, and holders of paired cells
abbrev mutual
  pub Related : Renaming → Tree → Tree → Type 0
  Related r (node c g m) (node d h n) = RelatedContent r c d × (g ≡ h) × (m ≡ n)

  pub RelatedContent : Renaming → Content → Content → Type 0
  RelatedContent r (leaf l) (leaf k) = l ≡ k
  RelatedContent r (branch k ts) (branch l us) = (k ≡ l) × AllRelated r ts us
  RelatedContent r (fields fs) (fields hs) = RelatedFields r fs hs
  RelatedContent r (holder c) (holder d) = paired r c d ≡ true
  RelatedContent r _ _ = ⊥

  pub AllRelated : Renaming → Trees → Trees → Type 0
  AllRelated r no_trees no_trees = Unit {0}
  AllRelated r (tree_then t ts) (tree_then u us) = Related r t u × AllRelated r ts us
  AllRelated r _ _ = ⊥

  pub RelatedFields : Renaming → Fields → Fields → Type 0
  RelatedFields r no_fields no_fields = Unit {0}
  RelatedFields r (field_then k t fs) (field_then j u hs) = (k ≡ j) × Related r t u × RelatedFields r fs hs
  RelatedFields r _ _ = ⊥

-- the same names, and related children
abbrev pub RelatedFunctions : {A : Type 0} → Renaming → A × Trees → A × Trees → Type 0
RelatedFunctions r x y = (x.0 ≡ y.0) × AllRelated r x.1 y.1

-- f and g map related values to related values
abbrev pub Respect : Renaming → (Tree → Tree) → (Tree → Tree) → Type 0
Respect r f g = (x y : Tree) → Related r x y → Related r (f x) (g y)

-- both are absent, or both exist and are related
abbrev pub Alike : {A B : Type 0} → (A → B → Type 0) → Option A → Option B → Type 0
Alike R None None = Unit {0}
Alike R (Some a) (Some b) = R a b
Alike R _ _ = ⊥

-- no cell is in two pairs
abbrev pub IsOneToOne : Renaming → Type 0
IsOneToOne r = (c d e f : ℕ) → paired r c d ≡ true → paired r e f ≡ true → nat_eq c e ≡ nat_eq d f

-- the same mark, and related contents
abbrev pub RelatedCell : Renaming → Cell → Cell → Type 0
RelatedCell r x y = (x.is_marked ≡ y.is_marked) × Related r x.content y.content

-- Each pair of r is a cell of s and one of z, marked in both or in neither, with related contents.
abbrev pub RelatedCells : Renaming → List Cell → List Cell → Type 0
RelatedCells r s z = (c d : ℕ) → paired r c d ≡ true → (x : Cell) × (y : Cell) × (slice_get s c ≡ Some x) × (slice_get z d ≡ Some y) × RelatedCell r x y

-- Two lists of cells, such as the open ones of two walks, are paired item by item.
abbrev pub RelatedPaths : Renaming → List ℕ → List ℕ → Type 0
RelatedPaths r path road = AllZip (λ c d. paired r c d ≡ true) path road

-- the pairs (a, b), (a + 1, b + 1) and so on, k of them
abbrev pub new_pairs : ℕ → ℕ → ℕ → Renaming
new_pairs a b zero = []
new_pairs a b (suc k) = (a, b) ∷ new_pairs (a + 1) (b + 1) k

-- the pair of the cells made by sharing values; none for holders
abbrev pub shared_pairs : List Cell → List Cell → Tree → Renaming
shared_pairs s z (node (holder c) g m) = []
shared_pairs s z t = new_pairs (length s) (length z) 1

-- both are the value itself, or paired cells
abbrev pub RelatedSite : Renaming → Site → Site → Type 0
RelatedSite r Here Here = Unit {0}
RelatedSite r (InCell c) (InCell d) = paired r c d ≡ true
RelatedSite r _ _ = ⊥

-- two ends of the same kind, at related sites, with related values
abbrev pub RelatedEnds : Renaming → End → End → Type 0
RelatedEnds r (held p t) (held q u) = RelatedSite r p q × Related r t u
RelatedEnds r (stuck t) (stuck u) = Related r t u
RelatedEnds r closed closed = Unit {0}
RelatedEnds r _ _ = ⊥
