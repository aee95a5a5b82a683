-- Lists of places, after one of them has changed.
use Rattle.std.proofs.Common.{◌≡◌, ℕ, Bool, true, false, cond, List, [], ◌∷◌, ◌++◌, String, Global, Option, Some, None, option_map, refl, sym, ap, ◌∙◌, subst}
use Rattle.std.proofs.lemmas.Map.Text.{btree_map_updates_text}
use Rattle.std.proofs.lemmas.Slice.Eq.{bytes_eq-Decides}
use Rattle.std.specs.BTreeMap.{BTreeMap, UpdatesBy, get_by_text}
use Rattle.std.specs.Cmp.Lexicographic.{slice_cmp}
use Rattle.std.specs.Map.{lookup}
use Rattle.std.specs.Map.Calls.{RetainsPairs}
use Rattle.std.specs.Ordering.{nat_cmp}
use Rattle.std.specs.Prelude.{string_bytes, string_cmp}
use Rattle.std.specs.Str.{bytes_eq}
use Rattle.rhai_scope.specs.NameIndex.{shortened, unless_empty, with_place}

abbrev pub NameLists : Type 0
NameLists = BTreeMap (String Global) (List ℕ)

-- n is m with w at a text
abbrev pub Puts : List ℕ → NameLists → NameLists → Option (List ℕ) → Type 0
Puts text m n w = UpdatesBy string_cmp (λ k. slice_cmp nat_cmp text (string_bytes k)) m n w

-- looking up a text equal to this one
by_text : {A : Type 0} (text q : List ℕ) (a b d : A) → (text ≡ q → a ≡ b) → cond (bytes_eq text q) a d ≡ cond (bytes_eq text q) b d
by_text text q a b d h = at (bytes_eq text q) (λ e. h ((bytes_eq-Decides text q).0 e))
  where
    at : (t : Bool) → (t ≡ true → a ≡ b) → cond t a d ≡ cond t b d
    at true k = k refl
    at false k = refl

both : {A : Type 0} (t : Bool) (a : A) → cond t a a ≡ a
both true a = refl
both false a = refl

again : {A : Type 0} (t : Bool) (a b d : A) → cond t a (cond t b d) ≡ cond t a d
again true a b d = refl
again false a b d = refl

-- the list of a text is changed by f
module _ (f : Option (List ℕ) → Option (List ℕ)) (text : List ℕ) (m : NameLists) where
  abbrev pub Changed : NameLists → Type 0
  Changed n = (q : List ℕ) → get_by_text n q ≡ cond (bytes_eq text q) (f (get_by_text m q)) (get_by_text m q)

  here : (w : Option (List ℕ)) → w ≡ f (get_by_text m text) → (q : List ℕ) → cond (bytes_eq text q) w (get_by_text m q) ≡ cond (bytes_eq text q) (f (get_by_text m q)) (get_by_text m q)
  here w is q = by_text text q w (f (get_by_text m q)) (get_by_text m q) (λ e. is ∙ ap (λ t. f (get_by_text m t)) e)

  pub changed : (n : NameLists) (w : Option (List ℕ)) → Puts text m n w → w ≡ f (get_by_text m text) → Changed n
  changed n w h is q = btree_map_updates_text text m n w h q ∙ here w is q

  -- by two updates
  pub changed_twice : (n x : NameLists) (v w : Option (List ℕ)) → Puts text m n v → Puts text n x w → w ≡ f (get_by_text m text) → Changed x
  changed_twice n x v w h k is q =
      btree_map_updates_text text n x w k q ∙ ap (cond (bytes_eq text q) w) (btree_map_updates_text text m n v h q) ∙ again (bytes_eq text q) w v (get_by_text m q)
      ∙ here w is q

-- the same list, written back
pub same_lists : (text : List ℕ) (m n : NameLists) (v w : List ℕ) → Some v ≡ get_by_text m text → w ≡ v → Puts text m n (Some w) → (q : List ℕ) → get_by_text n q ≡ get_by_text m q
same_lists text m n v w there same h q = changed (λ o. o) text m n (Some w) h (ap Some same ∙ there) q ∙ both (bytes_eq text q) (get_by_text m q)

-- one more place
pub pushed_on : (place : ℕ) (text : List ℕ) (m : NameLists) (v w : List ℕ) → Some v ≡ get_by_text m text → w ≡ v ++ place ∷ [] → Some w ≡ with_place place (get_by_text m text)
pushed_on place text m v w there more = ap Some more ∙ ap (with_place place) there

-- the first place
pub pushed_first : (place : ℕ) (text : List ℕ) (m n : NameLists) (k : String Global) (w : List ℕ) → string_bytes k ≡ text → w ≡ place ∷ [] → get_by_text m text ≡ None
    → UpdatesBy string_cmp (string_cmp k) m n (Some w) → Changed (with_place place) text m n
pushed_first place text m n k w key one none h =
    subst (λ t. Changed (with_place place) t m n) key
    (changed (with_place place) (string_bytes k) m n (Some w) h (ap Some one ∙ ap (with_place place) (sym (ap (get_by_text m) key ∙ none))))

-- fewer places: some remain, or none
module _ (f : List ℕ → List ℕ) (text : List ℕ) (m n : NameLists) (v w : List ℕ) (b : Bool) (there : Some v ≡ get_by_text m text) (less : cond b (Some w) None ≡ unless_empty (f v)) (puts : Puts text m n (Some w)) where
  left : (t : Bool) → b ≡ t → cond t (Some w) None ≡ shortened f (get_by_text m text)
  left t h = ap (λ c. cond c (Some w) None) (sym h) ∙ less ∙ ap (shortened f) there

  pub some_left : b ≡ true → Changed (shortened f) text m n
  some_left h = changed (shortened f) text m n (Some w) puts (left true h)

  pub none_left : (x : NameLists) → b ≡ false → Puts text n x None → Changed (shortened f) text m x
  none_left x h gone = changed_twice (shortened f) text m n x (Some w) None puts gone (left false h)

-- the effect on each list of a closure that always returns true, if it maps a list by g
module _ {F K X : Type 0} (T : F → K → X → Bool → X → F → Type 0) (g : X → X) (state : F)
    (each : (k : K) (v : X) (b : Bool) (w : X) (next : F) → T state k v b w next → (b ≡ true) × (w ≡ g v) × (next ≡ state)) (test : K → Bool) where
  there : (t : Bool) (v w : X) (o p : Option X) → w ≡ g v → p ≡ option_map g o → cond t (Some w) p ≡ option_map g (cond t (Some v) o)
  there true v w o p same rest = ap Some same
  there false v w o p same rest = rest

  pub all_changed : (es kept : List (K × X)) → RetainsPairs T state es kept → lookup test kept ≡ option_map g (lookup test es)
  all_changed [] kept r = ap (lookup test) r
  all_changed (e ∷ es) kept r =
      let said = each e.0 e.1 r.0 r.1 r.2 r.4 in
      let rest = all_changed es r.3 (subst (λ s. RetainsPairs T s es r.3) said.2 r.5) in
      ap (lookup test) (r.6 ∙ ap (λ b. cond b ((e.0, r.1) ∷ r.3) r.3) said.0)
      ∙ there (test e.0) e.1 r.1 (lookup test es) (lookup test r.3) said.1 rest
