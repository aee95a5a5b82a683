-- Correspondence is symmetric, and composes.
use Rattle.std.proofs.Common.{◌≡◌, ℕ, ℤ, ◌⊎◌, ⊎_elim, Bool, true, false, true≢false, cond, nat_eq, ◌||◌, ◌&&◌, List, [], ◌∷◌, ◌++◌, map, slice_get, Some, refl, sym, ap, ap₂, ◌∙◌, subst, arith}
use Rattle.std.proofs.lemmas.Bool.{or_cases, or_right}
use Rattle.std.proofs.lemmas.Bool.Decides.{nat_tests}
use Rattle.std.proofs.lemmas.Option.{same_Some}
use Rattle.std.specs.List.{AllZip}
use Rattle.rhai_value.specs.declared.value.access_mode.AccessMode.{AccessMode}
use Rattle.rhai_value.specs.declared.cells.store.Cell.{Cell}
use Rattle.rhai_value.specs.Tree.{Tree, node, Leaf, leaf, Kind, branch, fields, holder, Trees, no_trees, tree_then, Fields, no_fields, field_then}
use Rattle.rhai_value.specs.Relation.{Renaming, paired, Related, AllRelated, RelatedFields, RelatedCell, RelatedCells, IsOneToOne}
use Rattle.rhai_value.proofs.ForCallers.{by_related, by_zip, paired_append}
use Rattle.rhai_scope.specs.Entry.{Entry}
use Rattle.rhai_scope.specs.Relation.{RelatedEntry}
use Rattle.rhai_run.specs.State.{State}
use Rattle.rhai_run.specs.Correspondence.{Corresponds, RelatedStates}

-- ---- lists that are related item by item

pub zip_flip : {X Y : Type 0} (R : X → Y → Type 0) (S : Y → X → Type 0) → ((x : X) (y : Y) → R x y → S y x) → (xs : List X) (ys : List Y) → AllZip R xs ys → AllZip S ys xs
zip_flip R S f = by_zip R (λ xs ys. AllZip S ys xs) tt (λ x y xs ys h z more. (f x y h, more))

pub zip_join : {X Y Z : Type 0} (R : X → Y → Type 0) (S : Y → Z → Type 0) (T : X → Z → Type 0) → ((x : X) (y : Y) (z : Z) → R x y → S y z → T x z) → (xs : List X) (ys : List Y) (zs : List Z) → AllZip R xs ys → AllZip S ys zs → AllZip T xs zs
zip_join R S T f [] [] [] h k = tt
zip_join R S T f (x ∷ xs) (y ∷ ys) (z ∷ zs) h k = (f x y z h.0 k.0, zip_join R S T f xs ys zs h.1 k.1)
zip_join R S T f [] [] (z ∷ zs) h k = absurd k
zip_join R S T f [] (y ∷ ys) zs h k = absurd h
zip_join R S T f (x ∷ xs) [] zs h k = absurd h
zip_join R S T f (x ∷ xs) (y ∷ ys) [] h k = absurd k

-- ---- the inverse of a renaming

inverse : Renaming → Renaming
inverse r = map (λ p. (p.1, p.0)) r

and_flips : (a b : Bool) → (a && b) ≡ (b && a)
and_flips true true = refl
and_flips true false = refl
and_flips false true = refl
and_flips false false = refl

paired_inverse : (r : Renaming) (c d : ℕ) → paired (inverse r) d c ≡ paired r c d
unfolding inverse
paired_inverse [] c d = refl
paired_inverse (p ∷ r) c d = ap₂ ◌||◌ (and_flips (nat_eq p.1 d) (nat_eq p.0 c)) (paired_inverse r c d)

module _ (r : Renaming) where
  turned : (c d : ℕ) → paired r c d ≡ true → paired (inverse r) d c ≡ true
  turned c d e = paired_inverse r c d ∙ e

  back : (c d : ℕ) → paired (inverse r) d c ≡ true → paired r c d ≡ true
  back c d e = sym (paired_inverse r c d) ∙ e

  related_back : (t u : Tree) → Related r t u → Related (inverse r) u t
  related_back = by_related r (λ t u. Related (inverse r) u t) (λ ts us. AllRelated (inverse r) us ts) (λ fs hs. RelatedFields (inverse r) hs fs)
      (λ l g m. (refl, refl, refl)) (λ k ts us g m e h. ((refl, h), refl, refl)) (λ fs hs g m e h. (h, refl, refl)) (λ c d g m p. (turned c d p, refl, refl))
      tt (λ t u ts us p q. (p, q)) tt (λ k t u fs hs p q. (refl, p, q))

  states_back : (w v : State) → RelatedStates r w v → RelatedStates (inverse r) v w
  states_back w v h = record {
    one = λ c d e f p q. sym (h.one d c f e (back d c p) (back f e q));
    cells = λ d c p. let at = h.cells c d (back c d p) in (at.1, at.0, at.3, at.2, (sym at.4.0, related_back at.0.content at.1.content at.4.1));
    entries = zip_flip (RelatedEntry r) (RelatedEntry (inverse r)) (λ e f k. (sym k.0, sym k.1, related_back e.value f.value k.2)) w.entries v.entries h.entries;
    marks = zip_flip (λ c d. paired r c d ≡ true) (λ d c. paired (inverse r) d c ≡ true) turned w.marks v.marks h.marks;
    hand = zip_flip (Related r) (Related (inverse r)) related_back w.hand v.hand h.hand;
    limits = sym h.limits;
  }

pub symmetric : (r : Renaming) (w v : State) → Corresponds r w v → (q : Renaming) × Corresponds q v w
symmetric r w v h = (inverse r, record { first = h.second; second = h.first; same = states_back r w v h.same })

-- ---- two renamings, one after the other

-- the pairs of a and each cell that b is paired with
from_pair : ℕ → ℕ → Renaming → Renaming
from_pair a b [] = []
from_pair a b (e ∷ q) = cond (nat_eq b e.0) ((a, e.1) ∷ from_pair a b q) (from_pair a b q)

joined : Renaming → Renaming → Renaming
joined [] q = []
joined (p ∷ r) q = from_pair p.0 p.1 q ++ joined r q

from_has : (a b d : ℕ) (q : Renaming) → paired q b d ≡ true → paired (from_pair a b q) a d ≡ true
unfolding from_pair
from_has a b d [] h = absurd (true≢false (sym h))
from_has a b d (e ∷ q) h = by (nat_eq b e.0) refl (or_cases (nat_eq e.0 b && nat_eq e.1 d) (paired q b d) h) (from_has a b d q)
  where
    by : (x : Bool) → nat_eq b e.0 ≡ x → ((nat_eq e.0 b && nat_eq e.1 d) ≡ true) ⊎ (paired q b d ≡ true) → (paired q b d ≡ true → paired (from_pair a b q) a d ≡ true)
        → paired (cond x ((a, e.1) ∷ from_pair a b q) (from_pair a b q)) a d ≡ true
    by true k c more = ⊎_elim
        (λ here. let yes : (nat_eq a a && nat_eq e.1 d) ≡ true = grind (arith, nat_tests) in ap (λ x. x || paired (from_pair a b q) a d) yes)
        (λ later. or_right (nat_eq a a && nat_eq e.1 d) _ (more later)) c
    by false k c more = ⊎_elim (λ here. absurd (grind (arith, nat_tests))) more c

from_of : (a b c d : ℕ) (q : Renaming) → paired (from_pair a b q) c d ≡ true → (a ≡ c) × (paired q b d ≡ true)
unfolding from_pair
from_of a b c d [] h = absurd (true≢false (sym h))
from_of a b c d (e ∷ q) h = by (nat_eq b e.0) refl h (from_of a b c d q)
  where
    by : (x : Bool) → nat_eq b e.0 ≡ x → paired (cond x ((a, e.1) ∷ from_pair a b q) (from_pair a b q)) c d ≡ true → (paired (from_pair a b q) c d ≡ true → (a ≡ c) × (paired q b d ≡ true))
        → (a ≡ c) × ((nat_eq e.0 b && nat_eq e.1 d) || paired q b d ≡ true)
    by true k i more = ⊎_elim
        (λ here. let yes : (nat_eq e.0 b && nat_eq e.1 d) ≡ true = grind (arith, nat_tests) in let same : a ≡ c = grind (arith, nat_tests) in (same, ap (λ x. x || paired q b d) yes))
        (λ later. let m = more later in (m.0, or_right (nat_eq e.0 b && nat_eq e.1 d) _ m.1))
        (or_cases (nat_eq a c && nat_eq e.1 d) (paired (from_pair a b q) c d) i)
    by false k i more = let m = more i in (m.0, or_right (nat_eq e.0 b && nat_eq e.1 d) _ m.1)

joined_has : (r q : Renaming) (c n d : ℕ) → paired r c n ≡ true → paired q n d ≡ true → paired (joined r q) c d ≡ true
unfolding joined
joined_has [] q c n d h k = absurd (true≢false (sym h))
joined_has (p ∷ r) q c n d h k = ⊎_elim
    (λ here.
    let one : p.0 ≡ c = grind (arith, nat_tests) in
    let other : p.1 ≡ n = grind (arith, nat_tests) in
    let has : paired (from_pair p.0 p.1 q) c d ≡ true = subst (λ x. paired (from_pair p.0 p.1 q) x d ≡ true) one (from_has p.0 p.1 d q (ap (λ x. paired q x d) other ∙ k)) in
    paired_append (from_pair p.0 p.1 q) (joined r q) c d ∙ ap (λ x. x || paired (joined r q) c d) has)
    (λ later. paired_append (from_pair p.0 p.1 q) (joined r q) c d ∙ or_right (paired (from_pair p.0 p.1 q) c d) _ (joined_has r q c n d later k))
    (or_cases (nat_eq p.0 c && nat_eq p.1 n) (paired r c n) h)

joined_of : (r q : Renaming) (c d : ℕ) → paired (joined r q) c d ≡ true → (n : ℕ) × (paired r c n ≡ true) × (paired q n d ≡ true)
unfolding joined
joined_of [] q c d h = absurd (true≢false (sym h))
joined_of (p ∷ r) q c d h = ⊎_elim
    (λ here.
    let of = from_of p.0 p.1 c d q here in
    let same = of.0 in
    let yes : (nat_eq p.0 c && nat_eq p.1 p.1) ≡ true = grind (arith, nat_tests) in
    (p.1, ap (λ x. x || paired r c p.1) yes, of.1))
    (λ later. let more = joined_of r q c d later in (more.0, or_right (nat_eq p.0 c && nat_eq p.1 more.0) _ more.1, more.2))
    (or_cases (paired (from_pair p.0 p.1 q) c d) (paired (joined r q) c d) (sym (paired_append (from_pair p.0 p.1 q) (joined r q) c d) ∙ h))

module _ (r q : Renaming) where
  abbrev both : Renaming
  both = joined r q

  abbrev On : Tree → Tree → Type 0
  On t x = (u : Tree) → Related q x u → Related both t u

  abbrev AllOn : Trees → Trees → Type 0
  AllOn ts xs = (us : Trees) → AllRelated q xs us → AllRelated both ts us

  abbrev FieldsOn : Fields → Fields → Type 0
  FieldsOn fs xs = (hs : Fields) → RelatedFields q xs hs → RelatedFields both fs hs

  leaf_on : (l : Leaf) (g : ℤ) (m : AccessMode) → On (node (leaf l) g m) (node (leaf l) g m)
  leaf_on l g m (node (leaf k) h n) e = e
  leaf_on l g m (node (branch k ts) h n) e = absurd e.0
  leaf_on l g m (node (fields fs) h n) e = absurd e.0
  leaf_on l g m (node (holder c) h n) e = absurd e.0

  branch_on : (k : Kind) (ts xs : Trees) (g : ℤ) (m : AccessMode) → AllRelated r ts xs → AllOn ts xs → On (node (branch k ts) g m) (node (branch k xs) g m)
  branch_on k ts xs g m rel next (node (branch l us) h n) e = ((e.0.0, next us e.0.1), e.1, e.2)
  branch_on k ts xs g m rel next (node (leaf l) h n) e = absurd e.0
  branch_on k ts xs g m rel next (node (fields fs) h n) e = absurd e.0
  branch_on k ts xs g m rel next (node (holder c) h n) e = absurd e.0

  map_on : (fs xs : Fields) (g : ℤ) (m : AccessMode) → RelatedFields r fs xs → FieldsOn fs xs → On (node (fields fs) g m) (node (fields xs) g m)
  map_on fs xs g m rel next (node (fields hs) h n) e = (next hs e.0, e.1, e.2)
  map_on fs xs g m rel next (node (leaf l) h n) e = absurd e.0
  map_on fs xs g m rel next (node (branch k ts) h n) e = absurd e.0
  map_on fs xs g m rel next (node (holder c) h n) e = absurd e.0

  holder_on : (c d : ℕ) (g : ℤ) (m : AccessMode) → paired r c d ≡ true → On (node (holder c) g m) (node (holder d) g m)
  holder_on c d g m p (node (holder i) h n) e = (joined_has r q c d i p e.0, e.1, e.2)
  holder_on c d g m p (node (leaf l) h n) e = absurd e.0
  holder_on c d g m p (node (branch k ts) h n) e = absurd e.0
  holder_on c d g m p (node (fields fs) h n) e = absurd e.0

  none_on : AllOn no_trees no_trees
  none_on no_trees e = tt
  none_on (tree_then u us) e = absurd e

  then_on : (t x : Tree) (ts xs : Trees) → On t x → AllOn ts xs → AllOn (tree_then t ts) (tree_then x xs)
  then_on t x ts xs p next no_trees e = absurd e
  then_on t x ts xs p next (tree_then u us) e = (p u e.0, next us e.1)

  no_field_on : FieldsOn no_fields no_fields
  no_field_on no_fields e = tt
  no_field_on (field_then k u hs) e = absurd e

  field_on : (k : List ℕ) (t x : Tree) (fs xs : Fields) → On t x → FieldsOn fs xs → FieldsOn (field_then k t fs) (field_then k x xs)
  field_on k t x fs xs p next no_fields e = absurd e
  field_on k t x fs xs p next (field_then j u hs) e = (e.0, p u e.1, next hs e.2)

  related_on : (t x : Tree) → Related r t x → On t x
  related_on = by_related r On AllOn FieldsOn leaf_on branch_on map_on holder_on none_on then_on no_field_on field_on

  states_on : (w x v : State) → RelatedStates r w x → RelatedStates q x v → RelatedStates both w v
  states_on w x v h k = record {
    one = λ c d e f i j.
        let a = joined_of r q c d i in
        let b = joined_of r q e f j in
        h.one c a.0 e b.0 a.1 b.1 ∙ k.one a.0 d b.0 f a.2 b.2;
    cells = λ c d i.
        let a = joined_of r q c d i in
        let left = h.cells c a.0 a.1 in
        let right = k.cells a.0 d a.2 in
        let same : left.1 ≡ right.0 = same_Some left.1 right.0 (sym left.3 ∙ right.2) in
        let first : RelatedCell r left.0 right.0 = subst (RelatedCell r left.0) same left.4 in
        (left.0, right.1, left.2, right.3, (first.0 ∙ right.4.0, related_on left.0.content right.0.content first.1 right.1.content right.4.1));
    entries = zip_join (RelatedEntry r) (RelatedEntry q) (RelatedEntry both) (λ e f g a b. (a.0 ∙ b.0, a.1 ∙ b.1, related_on e.value f.value a.2 g.value b.2)) w.entries x.entries v.entries h.entries k.entries;
    marks = zip_join (λ c d. paired r c d ≡ true) (λ c d. paired q c d ≡ true) (λ c d. paired both c d ≡ true) (joined_has r q) w.marks x.marks v.marks h.marks k.marks;
    hand = zip_join (Related r) (Related q) (Related both) (λ t u z a b. related_on t u a z b) w.hand x.hand v.hand h.hand k.hand;
    limits = h.limits ∙ k.limits;
  }

pub composed : (r q : Renaming) (w x v : State) → Corresponds r w x → Corresponds q x v → (p : Renaming) × Corresponds p w v
composed r q w x v h k = (joined r q, record { first = h.first; second = k.second; same = states_on r q w x v h.same k.same })
