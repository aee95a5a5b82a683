-- Appending entries one by one.
use Rattle.std.proofs.Common.{◌≡◌, ℕ, Bool, List, [], ◌∷◌, ◌++◌, length, map, take, append_assoc, refl, sym, ap, ap₂, ◌∙◌, arith}
use Rattle.std.proofs.lemmas.Simd.{map-map}
use Rattle.std.specs.List.{zip}
use Rattle.std.proofs.lemmas.List.{map-append}
use Rattle.std.proofs.Math.Seq.{take-append_seam}
use Rattle.rhai_value.specs.declared.value.access_mode.AccessMode.{AccessMode}
use Rattle.rhai_value.specs.declared.value.access_mode.AccessMode.TheVariants.{ReadWrite}
use Rattle.rhai_value.specs.Tree.{Tree, paint}
use Rattle.rhai_scope.specs.Entry.{Entry, new_entry, pushed}
use Rattle.rhai_scope.specs.Index.{names_of}
use Rattle.rhai_scope.specs.Extended.{flagged_mode, extended, extended_flagged, flagged_values, headed}

one_more : {A : Type 0} (f : A → Entry) (es : List Entry) (xs : List A) (x : A) → es ++ map f (xs ++ x ∷ []) ≡ (es ++ map f xs) ++ f x ∷ []
one_more f es xs x = ap (λ ys. es ++ ys) (map-append f xs (x ∷ [])) ∙ sym (append_assoc es (map f xs) (f x ∷ []))

pub extended_last : (es : List Entry) (xs : List (List ℕ × Tree)) (x : List ℕ × Tree) → extended es (xs ++ x ∷ []) ≡ pushed ReadWrite x.0 x.1 (extended es xs)
extended_last es xs x = one_more (λ y. new_entry y.0 (paint ReadWrite y.1)) es xs x

pub flagged_last : (es : List Entry) (xs : List (List ℕ × Bool × Tree)) (x : List ℕ × Bool × Tree) → extended_flagged es (xs ++ x ∷ []) ≡ pushed (flagged_mode x.1) x.0 x.2 (extended_flagged es xs)
flagged_last es xs x = one_more (λ y. new_entry y.0 (paint (flagged_mode y.1) y.2)) es xs x

pub taken_back : (es : List Entry) (xs : List (List ℕ × Tree)) → take (length es) (extended es xs) ≡ es
taken_back es xs = rw take-append_seam

pub flagged_back : (es : List Entry) (xs : List (List ℕ × Bool × Tree)) → take (length es) (extended_flagged es xs) ≡ es
flagged_back es xs = rw take-append_seam

-- one heading and one value fewer remain, and one more entry is appended
module _ {H : Type 0} (name_of : H → List ℕ) (mode_of : H → AccessMode) (es fs gs : List Entry) (h : H) (t : Tree) (p : List ℕ × AccessMode) (hs ks : List H) (ts us : List Tree) where
  pub headed_step : hs ≡ h ∷ ks → ts ≡ t ∷ us → p ≡ (name_of h, mode_of h) → fs ≡ pushed p.1 p.0 t es
      → es ++ headed name_of mode_of hs ts ≡ gs → fs ++ headed name_of mode_of ks us ≡ gs
  headed_step heading value parts more is =
      ap (λ xs. xs ++ headed name_of mode_of ks us) (more ∙ ap (λ q. pushed q.1 q.0 t es) parts)
      ∙ append_assoc es (new_entry (name_of h) (paint (mode_of h) t) ∷ []) (headed name_of mode_of ks us)
      ∙ ap₂ (λ xs ys. es ++ headed name_of mode_of xs ys) (sym heading) (sym value) ∙ is

pub names_headed : {H : Type 0} (name_of : H → List ℕ) (mode_of : H → AccessMode) (hs : List H) (ts : List Tree) → length ts ≡ length hs → names_of (headed name_of mode_of hs ts) ≡ map name_of hs
names_headed name_of mode_of [] ts h = refl
names_headed name_of mode_of (x ∷ hs) [] h = absurd (omega (arith, h))
names_headed name_of mode_of (x ∷ hs) (t ∷ ts) h = ap (λ ns. name_of x ∷ ns) (names_headed name_of mode_of hs ts (omega (arith, h)))

-- headings that are names with flags
pub headed_flags : (es : List Entry) (ns : List (List ℕ × Bool)) (ts : List Tree) → es ++ headed (λ p. p.0) (λ p. flagged_mode p.1) ns ts ≡ extended_flagged es (flagged_values ns ts)
headed_flags es ns ts = ap (λ xs. es ++ xs) (sym (map-map (λ x. new_entry x.0 (paint (flagged_mode x.1) x.2)) (λ p. (p.0.0, p.0.1, p.1)) (zip ns ts)))
