use Rattle.std.proofs.Common.{◌≡◌, ℕ, ◌+◌, ◌-◌, ◌≤◌, if◌then◌else◌, List, ◌++◌, length, take, drop, sym, ◌∙◌, ap, arith, length-take}
use Rattle.std.proofs.lemmas.List.{take-append-drop, drop-drop, take_at, drop_at}
use Rattle.rhai_text.proofs.laws.slices_read_as_written.Goals as goal

kept : (text : List ℕ) (start end : ℕ) → start ≤ end → take start text ++ (take (end - start) (drop start text) ++ drop end text) ≡ text
kept text start end h =
    let far : start + (end - start) ≡ end = omega (arith, h) in
    ap (λ n. take start text ++ (take (end - start) (drop start text) ++ drop n text)) (sym far)
    ∙ ap (λ xs. take start text ++ (take (end - start) (drop start text) ++ xs)) (sym (drop-drop (end - start) start text))
    ∙ ap (λ xs. take start text ++ xs) (take-append-drop (end - start) (drop start text))
    ∙ take-append-drop start text

read : (text slice back : List ℕ) (start : ℕ) → start ≤ length text → take (start + length slice - start) (drop start (take start text ++ (slice ++ back))) ≡ slice
read text slice back start h =
    let front : length (take start text) ≡ start = omega (arith, h, length-take start text) in
    let room : length slice ≡ start + length slice - start = omega arith in
    ap (take (start + length slice - start)) (drop_at (take start text) (slice ++ back) start front)
    ∙ take_at slice back (start + length slice - start) room

pub returns : goal.returns
returns c = record {
  unchanged = λ text start end exclusive. kept text start (if exclusive then end else end + 1);
  written = λ text slice start end exclusive. read text slice (drop (if exclusive then end else end + 1) text) start;
}
