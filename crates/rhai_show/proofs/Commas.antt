-- Texts with commas between them.
use Rattle.std.proofs.Common.{◌≡◌, ℕ, ◌+◌, ◌<◌, ◌≤◌, ◌++◌, Bool, true, false, List, [], ◌∷◌, length, get_or, drop, map, refl, sym, ap, ap₂, ◌∙◌, append_assoc, add-one}
use Rattle.std.proofs.Math.ListN.{drop_of_length-le}
use Rattle.std.proofs.Math.Seq.{drop-cons}
use Rattle.std.proofs.lemmas.List.{append-nil}
use Rattle.rhai_show.specs.Text.{comma, joined, further}
use Rattle.rhai_show.specs.Listed.{listed, comma_unless}

module _ {A : Type 0} (f : A → List ℕ) where
  listed_more : (b : Bool) (x : A) (xs : List A) → listed f b (x ∷ xs) ≡ comma_unless b ++ (f x ++ listed f false xs)
  listed_more true x xs = refl
  listed_more false x xs = append_assoc comma (f x) (further f xs)

  pub listed_none : (b : Bool) → listed f b [] ≡ []
  listed_none true = refl
  listed_none false = refl

  -- one more text is appended, after its comma
  pub listed_step : (b : Bool) (x : A) (xs ys : List A) (out more next : List ℕ) → ys ≡ x ∷ xs → more ≡ out ++ comma_unless b → next ≡ more ++ f x → next ++ listed f false xs ≡ out ++ listed f b ys
  listed_step b x xs ys out more next e p q =
      let rest = listed f false xs in
      ap (λ t. t ++ rest) (q ∙ ap (λ t. t ++ f x) p) ∙ append_assoc (out ++ comma_unless b) (f x) rest ∙ append_assoc out (comma_unless b) (f x ++ rest)
      ∙ ap (λ t. out ++ t) (sym (listed_more b x xs) ∙ ap (listed f b) (sym e))

  -- the same at an index
  pub listed_turn : (b : Bool) (xs : List A) (i : ℕ) (x : A) (out more next : List ℕ) → i < length xs → x ≡ get_or xs i x → more ≡ out ++ comma_unless b → next ≡ more ++ f x
      → next ++ listed f false (drop (i + 1) xs) ≡ out ++ listed f b (drop i xs)
  listed_turn b xs i x out more next l e =
      listed_step b x (drop (i + 1) xs) (drop i xs) out more next (drop-cons xs i x l ∙ ap₂ (λ y n. y ∷ drop n xs) (sym e) (sym (add-one i)))

  -- nothing is left
  pub listed_all : (b : Bool) (xs : List A) (out all : List ℕ) → xs ≡ [] → out ++ listed f b xs ≡ all → out ≡ all
  listed_all b xs out all e h = sym (append-nil out) ∙ ap (λ t. out ++ t) (sym (listed_none b) ∙ ap (listed f b) (sym e)) ∙ h

  pub listed_end : (b : Bool) (xs : List A) (i : ℕ) (out all : List ℕ) → length xs ≤ i → out ++ listed f b (drop i xs) ≡ all → out ≡ all
  listed_end b xs i out all l = listed_all b (drop i xs) out all (drop_of_length-le xs l)

module _ {A B : Type 0} (f : B → List ℕ) (g : A → B) where
  -- the texts of mapped items
  pub further-map : (xs : List A) → further f (map g xs) ≡ further (λ x. f (g x)) xs
  further-map [] = refl
  further-map (x ∷ xs) = ap (λ t. (comma ++ f (g x)) ++ t) (further-map xs)

  pub joined-map : (xs : List A) → joined f (map g xs) ≡ joined (λ x. f (g x)) xs
  joined-map [] = refl
  joined-map (x ∷ xs) = ap (λ t. f (g x) ++ t) (further-map xs)
