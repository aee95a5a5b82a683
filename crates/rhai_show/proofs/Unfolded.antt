-- Opening a cell for a holder hides nothing: the plain value of a value is composed of those of its parts.
use Rattle.std.proofs.Common.{◌≡◌, ◌⊎◌, ℕ, ℤ, zero, suc, Bool, true, false, ◌||◌, nat_eq, List, [], ◌∷◌, length, Option, Some, None, option_map, refl, sym, ap, ap₂, ◌∙◌, inl, inr}
use Rattle.std.proofs.lemmas.Bool.{cases_eq}
use mathlib.Core.Path.{fun_ext}
use Rattle.rhai_value.specs.declared.value.access_mode.AccessMode.{AccessMode}
use Rattle.rhai_value.specs.declared.cells.store.Cell.{Cell}
use Rattle.rhai_value.specs.Tree.{Tree, node, holder}
use Rattle.rhai_value.specs.Store.{at}
use Rattle.rhai_value.specs.Walk.{Visit, entered, barred, revisited, is_open, visit, visit_of, visit_map, unentered, walk_in}
use Rattle.rhai_value.proofs.ForCallers.{by_value}
use Rattle.rhai_show.specs.Plain.{Plain, Plains, PlainFields, plain_branch, plain_map, plain_then, plain_field_then, plain_more, plain_field_more, plain_held, plain_of, all_plain, fields_plain, plain}
use Rattle.rhai_show.proofs.Cleans.{unequal}
use Rattle.rhai_show.proofs.Plains.{plain_opens}

-- ---- holders are unchanged, or something else holds

mapped : {A B : Type 0} (E : Type 0) (f : A → B) (o q : Option A) (b : B) → option_map f o ≡ Some b → ((a : A) → o ≡ Some a → (q ≡ Some a) ⊎ E) → (option_map f q ≡ Some b) ⊎ E
mapped E f None q b e h = absurd (cc)
mapped E f (Some a) q b e h = elim (h a refl) [ inl s ↦ inl (ap (option_map f) s ∙ e) | inr x ↦ inr x ]

one_more : (E : Type 0) (o q : Option Plain) (os qs : Option Plains) (ps : Plains) → plain_more o os ≡ Some ps → ((p : Plain) → o ≡ Some p → (q ≡ Some p) ⊎ E) → ((xs : Plains) → os ≡ Some xs → (qs ≡ Some xs) ⊎ E) → (plain_more q qs ≡ Some ps) ⊎ E
one_more E None q os qs ps e h k = absurd (cc)
one_more E (Some p) q os qs ps e h k =
    elim (h p refl) [
      | inr x ↦ inr x
      | inl s ↦ elim (mapped E (plain_then p) os qs ps e k) [ inl r ↦ inl (ap (λ z. plain_more z qs) s ∙ r) | inr x ↦ inr x ]
    ]

one_field : (E : Type 0) (n : List ℕ) (o q : Option Plain) (os qs : Option PlainFields) (ps : PlainFields) → plain_field_more n o os ≡ Some ps → ((p : Plain) → o ≡ Some p → (q ≡ Some p) ⊎ E) → ((xs : PlainFields) → os ≡ Some xs → (qs ≡ Some xs) ⊎ E) → (plain_field_more n q qs ≡ Some ps) ⊎ E
one_field E n None q os qs ps e h k = absurd (cc)
one_field E n (Some p) q os qs ps e h k =
    elim (h p refl) [
      | inr x ↦ inr x
      | inl s ↦ elim (mapped E (plain_field_then n p) os qs ps e k) [ inl r ↦ inl (ap (λ z. plain_field_more n z qs) s ∙ r) | inr x ↦ inr x ]
    ]

module _ (E : Type 0) (road path : List ℕ) (go to : ℕ → Visit (Option Plain)) (each : (d : ℕ) (q : Plain) → plain_held (go d) ≡ Some q → (plain_held (to d) ≡ Some q) ⊎ E) where
  tree_stays : (t : Tree) (p : Plain) → plain_of road go t ≡ Some p → (plain_of path to t ≡ Some p) ⊎ E
  tree_stays =
      by_value (λ t. (p : Plain) → plain_of road go t ≡ Some p → (plain_of path to t ≡ Some p) ⊎ E) (λ ts. (ps : Plains) → all_plain road go ts ≡ Some ps → (all_plain path to ts ≡ Some ps) ⊎ E)
      (λ fs. (ps : PlainFields) → fields_plain road go fs ≡ Some ps → (fields_plain path to fs ≡ Some ps) ⊎ E)
      (λ l g m p e. inl e)
      (λ k ts g m all p e. mapped E (plain_branch k) (all_plain road go ts) (all_plain path to ts) p e all)
      (λ fs g m all p e. mapped E plain_map (fields_plain road go fs) (fields_plain path to fs) p e all)
      (λ c g m p e. each c p e)
      (λ ps e. inl e)
      (λ t ts one all ps e. one_more E (plain_of road go t) (plain_of path to t) (all_plain road go ts) (all_plain path to ts) ps e one all)
      (λ ps e. inl e)
      (λ k t fs one all ps e. one_field E k (plain_of road go t) (plain_of path to t) (fields_plain road go fs) (fields_plain path to fs) ps e one all)

-- ---- fewer open cells

never : (v : Visit Tree) (q : Plain) → plain_held (unentered v) ≡ Some q → ⊥
never (entered t) q e = let no : None ≡ Some q = e in absurd (cc)
never barred q e = let no : None ≡ Some q = e in absurd (cc)
never revisited q e = let no : None ≡ Some q = e in absurd (cc)

-- a holder's plain value is that of a content that opens
went_in : (o : Option Tree) (b : Bool) (f : Tree → Option Plain) (q : Plain) → plain_held (visit_map f (visit_of o b)) ≡ Some q → (v : Tree) × (o ≡ Some v) × (b ≡ false) × (f v ≡ Some q)
went_in None b f q e = let no : None ≡ Some q = e in absurd (cc)
went_in (Some v) true f q e = let no : None ≡ Some q = e in absurd (cc)
went_in (Some v) false f q e = (v, refl, refl, e)

goes_in : (o : Option Tree) (b : Bool) (f : Tree → Option Plain) (q : Plain) (v : Tree) → o ≡ Some v → b ≡ false → f v ≡ Some q → plain_held (visit_map f (visit_of o b)) ≡ Some q
goes_in o b f q v is off e = ap₂ (λ x y. plain_held (visit_map f (visit_of x y))) is off ∙ e

closed_too : (a b : Bool) → (b ≡ true → a ≡ true) → a ≡ false → b ≡ false
closed_too a false h e = refl
closed_too a true h e = let yes : a ≡ true = h refl in cc

-- each open cell of the first is open in the second
abbrev pub Within : List ℕ → List ℕ → Type 0
Within path road = (x : ℕ) → is_open x path ≡ true → is_open x road ≡ true

or_more : (a b c : Bool) → (b ≡ true → c ≡ true) → (a || b) ≡ true → (a || c) ≡ true
or_more true b c h e = refl
or_more false b c h e = h e

or_swap : (a b c : Bool) → (a || (b || c)) ≡ true → (b || (a || c)) ≡ true
or_swap true true c e = refl
or_swap true false c e = refl
or_swap false b c e = e

sure : (P : Type 0) → P ⊎ ⊥ → P
sure P h = elim h [ inl p ↦ p | inr x ↦ absurd x ]

fewer_in : (n : ℕ) (s : List Cell) (road path : List ℕ) (t : Tree) (p : Plain) → Within path road → walk_in plain_of n s road t ≡ Some p → plain s path t ≡ Some p
fewer_in zero s road path t p less e =
    plain_opens s path t ∙ sure _ (tree_stays ⊥ road path (λ c. unentered (visit s road c)) (λ c. visit_map (plain s (c ∷ path)) (visit s path c)) (λ d q h. absurd (never (visit s road d) q h)) t p e)
fewer_in (suc n) s road path t p less e =
    plain_opens s path t
    ∙ sure _ (tree_stays ⊥ road path (λ c. visit_map (walk_in plain_of n s (c ∷ road)) (visit s road c)) (λ c. visit_map (plain s (c ∷ path)) (visit s path c)) (λ d q h.
    let in_it = went_in (at s d) (is_open d road) (walk_in plain_of n s (d ∷ road)) q h in
    inl (goes_in (at s d) (is_open d path) (plain s (d ∷ path)) q in_it.0 in_it.1 (closed_too (is_open d road) (is_open d path) (less d) in_it.2)
    (fewer_in n s (d ∷ road) (d ∷ path) in_it.0 q (λ x. or_more (nat_eq x d) (is_open x path) (is_open x road) (less x)) in_it.3))) t p e)

pub fewer_open : (s : List Cell) (road path : List ℕ) (t : Tree) (p : Plain) → Within path road → plain s road t ≡ Some p → plain s path t ≡ Some p
unfolding plain
fewer_open s road path t p less e = fewer_in (length s) s road path t p less e

-- ---- one more open cell, visited or not

module _ (s : List Cell) (c : ℕ) (u : Tree) (there : at s c ≡ Some u) where
  -- the content of the cell is plain while the cell is open
  abbrev Passed : Type 0
  Passed = (q : Plain) × (plain s (c ∷ []) u ≡ Some q)

  only_it : (road : List ℕ) (d : ℕ) → d ≡ c → Within (c ∷ []) (d ∷ road)
  only_it road d same x e = first (nat_eq x c) (nat_eq x d) (is_open x road) (ap (nat_eq x) same) e
    where
      first : (a b r : Bool) → b ≡ a → (a || false) ≡ true → (b || r) ≡ true
      first true b r is h = ap (λ y. y || r) is
      first false b r is h = cc

  passing : (n : ℕ) (road : List ℕ) (t : Tree) (p : Plain) → walk_in plain_of n s road t ≡ Some p → (plain s (c ∷ road) t ≡ Some p) ⊎ Passed
  passing zero road t p e =
      elim (tree_stays Passed road (c ∷ road) (λ d. unentered (visit s road d)) (λ d. visit_map (plain s (d ∷ c ∷ road)) (visit s (c ∷ road) d)) (λ d q h. absurd (never (visit s road d) q h)) t p e) [
        | inl r ↦ inl (plain_opens s (c ∷ road) t ∙ r)
        | inr x ↦ inr x
      ]
  passing (suc n) road t p e =
      elim (tree_stays Passed road (c ∷ road) (λ d. visit_map (walk_in plain_of n s (d ∷ road)) (visit s road d)) (λ d. visit_map (plain s (d ∷ c ∷ road)) (visit s (c ∷ road) d)) (λ d q h.
      let in_it = went_in (at s d) (is_open d road) (walk_in plain_of n s (d ∷ road)) q h in
      elim (cases_eq d c) [
        | inl same ↦
            let is : u ≡ in_it.0 = let both : Some u ≡ Some in_it.0 = sym there ∙ ap (at s) (sym same) ∙ in_it.1 in cc in
            inr (q, ap (plain s (c ∷ [])) is ∙ fewer_in n s (d ∷ road) (c ∷ []) in_it.0 q (only_it road d same) in_it.3)
        | inr away ↦
            elim (passing n (d ∷ road) in_it.0 q in_it.3) [
              | inr x ↦ inr x
              | inl r ↦
                  inl (goes_in (at s d) (is_open d (c ∷ road)) (plain s (d ∷ c ∷ road)) q in_it.0 in_it.1 (ap₂ (λ a b. a || b) (unequal d c away) in_it.2)
                  (fewer_open s (c ∷ d ∷ road) (d ∷ c ∷ road) in_it.0 q (λ x. or_swap (nat_eq x d) (nat_eq x c) (is_open x road)) r))
            ]
      ]) t p e) [
        | inl r ↦ inl (plain_opens s (c ∷ road) t ∙ r)
        | inr x ↦ inr x
      ]

  passed : (p : Plain) → plain s [] u ≡ Some p → (plain s (c ∷ []) u ≡ Some p) ⊎ Passed
  unfolding plain
  passed p e = passing (length s) [] u p e

  -- so the content of a cell is the same whether it is open or not
  pub open_or_not : plain s (c ∷ []) u ≡ plain s [] u
  open_or_not = settle (plain s (c ∷ []) u) (plain s [] u) (λ p e. fewer_open s (c ∷ []) [] u p (λ x h. let no : false ≡ true = h in cc) e) passed
    where
      settle : (o q : Option Plain) → ((p : Plain) → o ≡ Some p → q ≡ Some p) → ((p : Plain) → q ≡ Some p → (o ≡ Some p) ⊎ ((r : Plain) × (o ≡ Some r))) → o ≡ q
      settle (Some p) q f g = sym (f p refl)
      settle None None f g = refl
      settle None (Some p) f g = elim (g p refl) [ inl e ↦ cc | inr x ↦ (let no : None ≡ Some x.0 = x.1 in cc) ]

-- ---- a value by the plain values of its parts

opened_alone : (s : List Cell) (c : ℕ) (o : Option Tree) → at s c ≡ o → visit_map (plain s (c ∷ [])) (visit_of o false) ≡ visit_map (plain s []) (visit_of o false)
opened_alone s c None e = refl
opened_alone s c (Some u) e = ap entered (open_or_not s c u e)

pub plain_parts : (s : List Cell) (t : Tree) → plain s [] t ≡ plain_of [] (λ c. visit_map (plain s []) (visit s [] c)) t
plain_parts s t = plain_opens s [] t ∙ ap (λ go. plain_of [] go t) (fun_ext (λ c. opened_alone s c (at s c) refl))

pub plain_unshared : (s : List Cell) (c : ℕ) (g : ℤ) (m : AccessMode) (t : Tree) → at s c ≡ Some t → plain s [] (node (holder c) g m) ≡ plain s [] t
plain_unshared s c g m t e = plain_parts s (node (holder c) g m) ∙ ap (λ o. plain_held (visit_map (plain s []) (visit_of o false))) e
