use Rattle.std.proofs.Common.{◌≡◌, ℕ, ◌+◌, ◌-◌, Bool, if◌then◌else◌, min, List, [], ◌++◌, length, take, drop, sym, ◌∙◌, ap, arith, refl}
use Rattle.std.proofs.lemmas.List.{append-nil, drop_all, drop_min, take_all, take_min}
use Rattle.rhai_text.specs.Text.{with_slice}
use Rattle.rhai_text.proofs.laws.slice_places_stop_at_the_end.Goals as goal

cut : (text slice : List ℕ) (start end last : ℕ) → min end (length text) ≡ last → take start text ++ (slice ++ drop end text) ≡ take (min start (length text)) text ++ (slice ++ drop last text)
cut text slice start end last e =
    ap (λ xs. xs ++ (slice ++ drop end text)) (sym (take_min start text))
    ∙ ap (λ xs. take (min start (length text)) text ++ (slice ++ xs)) (sym (drop_min end text) ∙ ap (λ n. drop n text) e)

nothing : (slice : List ℕ) (start end : ℕ) (exclusive : Bool) → with_slice [] start end exclusive slice ≡ slice
nothing slice start end exclusive =
    let back = if exclusive then end else end + 1 in
    ap (λ xs. xs ++ (slice ++ drop back [])) (take_all start [] (omega arith))
    ∙ ap (λ xs. slice ++ xs) (drop_all back [] (omega arith))
    ∙ append-nil slice

pub returns : goal.returns
returns c = record {
  exclusive = λ text slice start end. cut text slice start end (min end (length text)) refl;
  inclusive = λ text slice start end some. cut text slice start (end + 1) (min end (length text - 1) + 1) (omega arith);
  empty = nothing;
}
