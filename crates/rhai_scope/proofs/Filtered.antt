-- Listed texts pass the filter, after a list has changed.
use Rattle.std.proofs.Common.{◌≡◌, ℕ, Bool, true, false, cond, List, Option, None, refl, sym, ap, ◌∙◌}
use Rattle.std.proofs.lemmas.Slice.Eq.{bytes_eq-Decides}
use Rattle.std.specs.Str.{bytes_eq}
use Rattle.rhai_scope.specs.NameFilter.{passes}
use Rattle.rhai_scope.specs.NameIndex.{listed, AllPass, Relists}
use Rattle.rhai_scope.specs.declared.name_index.NameIndex.{NameIndex}

module _ (p r : NameIndex) (old : AllPass p) where
  unlisted_before : r.filter ≡ p.filter → (q : List ℕ) → passes r.filter q ≡ false → listed p q ≡ None
  unlisted_before same q none = old q (ap (λ m. passes m q) (sym same) ∙ none)

  -- no new list exists, and the filter is the same
  pub still_pass : (g : Option (List ℕ) → Option (List ℕ)) → g None ≡ None → ((q : List ℕ) → listed r q ≡ g (listed p q)) → r.filter ≡ p.filter → AllPass r
  still_pass g away new same q none = new q ∙ ap g (unlisted_before same q none) ∙ away

  module _ (f : Option (List ℕ) → Option (List ℕ)) (text : List ℕ) (new : Relists f text (listed p) (listed r)) where
    pub relisted_pass : f None ≡ None → r.filter ≡ p.filter → AllPass r
    relisted_pass away same q none = new q ∙ at (bytes_eq text q)
      where
        was : listed p q ≡ None
        was = unlisted_before same q none

        at : (b : Bool) → cond b (f (listed p q)) (listed p q) ≡ None
        at true = ap f was ∙ away
        at false = was

    -- only a text that passes may be new
    pub pass_more : passes r.filter text ≡ true → ((q : List ℕ) → passes r.filter q ≡ false → passes p.filter q ≡ false) → AllPass r
    pass_more here kept q none = new q ∙ at (bytes_eq text q) refl
      where
        at : (b : Bool) → bytes_eq text q ≡ b → cond b (f (listed p q)) (listed p q) ≡ None
        at true e = let there : passes r.filter q ≡ true = ap (passes r.filter) (sym ((bytes_eq-Decides text q).0 e)) ∙ here in absurd (cc)
        at false e = old q (kept q none)
