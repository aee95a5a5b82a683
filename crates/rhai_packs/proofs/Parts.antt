-- Parts of texts.
use Rattle.std.proofs.Common.{◌≡◌, ℕ, ◌+◌, ◌-◌, ℤ, true, List, [], ◌++◌, length, take, drop, sym, ap, ◌∙◌, arith, length-drop}
use Rattle.std.proofs.Math.Seq.{drop-length}
use Rattle.std.proofs.lemmas.List.{append-nil, drop-take, take_all}
use Rattle.std.proofs.lemmas.Str.{chars-nil}
use Rattle.std.specs.Str.{chars}
use Rattle.rhai_text.specs.Text.{with_slice}
use Rattle.rhai_packs.specs.Places.{after, cut_place, first_of, part_count}

-- replacing the end by nothing, and replacing the front
pub front_kept : (xs made : List ℕ) (k n : ℕ) → n ≡ length xs → made ≡ with_slice xs k n true (chars []) → made ≡ take k xs
front_kept xs made k n e m =
    m ∙ ap (λ s. take k xs ++ (s ++ drop n xs)) chars-nil ∙ ap (λ j. take k xs ++ drop j xs) e ∙ ap (λ s. take k xs ++ s) (drop-length xs) ∙ append-nil (take k xs)

pub rest_kept : (xs made : List ℕ) (a : ℕ) → made ≡ with_slice xs 0 a true (chars []) → made ≡ drop a xs
rest_kept xs made a m = m ∙ ap (λ s. s ++ drop a xs) chars-nil

pub first_kept : (xs : List ℕ) (n : ℤ) (l k : ℕ) → l ≡ length xs → k ≡ part_count l n → take k xs ≡ first_of xs n
first_kept xs n l k el ek = ap (λ m. take m xs) (ek ∙ ap (λ m. part_count m n) el)

pub part_kept : {A : Type 0} (xs : List A) (i n : ℤ) (l a k : ℕ) → l ≡ length xs → a ≡ cut_place l i → k ≡ part_count (l - a) n → take k (drop a xs) ≡ first_of (after xs i) n
part_kept xs i n l a k el ea ek =
    let start : a ≡ cut_place (length xs) i = ea ∙ ap (λ m. cut_place m i) el in
    let long : k ≡ part_count (length (drop a xs)) n = ek ∙ ap (λ m. part_count (m - a) n) el ∙ ap (λ m. part_count m n) (sym (length-drop a xs)) in
    ap (λ m. take m (drop a xs)) long ∙ ap (λ b. take (part_count (length (drop b xs)) n) (drop b xs)) start

pub from_front : (xs : List ℕ) (a k : ℕ) → a ≡ 0 → take (a + k) xs ≡ take k (drop a xs)
from_front xs a k e = sym (ap (λ b. drop b (take (a + k) xs)) e) ∙ drop-take a k xs

-- a slice up to the end
pub slice_kept : (xs made : List ℕ) (l s : ℕ) → l ≡ length xs → made ≡ take (l - s) (drop s xs) → made ≡ drop s xs
slice_kept xs made l s el m = m ∙ take_all (l - s) (drop s xs) (omega (arith, el, length-drop s xs))
