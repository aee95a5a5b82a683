-- Splitting a text into words.
use Rattle.std.proofs.Common.{◌≡◌, ℕ, ◌<◌, true, false, nat_lt, if◌then◌else◌, List, length, take, Option, Some, None, refl, sym, ap, ap₂, ◌∙◌, arith, lit<}
use Rattle.std.specs.Borrow.{Bor}
use Rattle.std.specs.Str.{IsUtf8, is_utf8}
use Rattle.std.proofs.lemmas.Bool.Decides.{nat_tests}
use Rattle.std.proofs.lemmas.List.{take_all}
use Rattle.std.specs.List.{position_or_len, after_first}
use Rattle.std.proofs.lemmas.Str.{IsUtf8-from_is_utf8, is_utf8-from_IsUtf8}
use Rattle.std.proofs.lemmas.Str.Pattern.{IsSplitOnceResult, split_once_first}
use Rattle.rhai_lines.specs.Words.{Left, is_space, word_of, left_of}
use Rattle.rhai_lines.specs.Memory.{takes_by}
use Rattle.rhai_lines.specs.Verbs.{said_by, command_of}

cut : (bs : List ℕ) → position_or_len is_space bs < length bs → Some (after_first is_space bs) ≡ left_of bs
cut bs l =
    let t : nat_lt (position_or_len is_space bs) (length bs) ≡ true = grind (arith, nat_tests) in
    sym (ap (λ b. if b then Some (after_first is_space bs) else None) t)

whole : (bs : List ℕ) → position_or_len is_space bs ≡ length bs → None ≡ left_of bs
whole bs e =
    let t : nat_lt (position_or_len is_space bs) (length bs) ≡ false = grind (arith, nat_tests) in
    sym (ap (λ b. if b then Some (after_first is_space bs) else None) t)

pub word-cut : (bs : List ℕ) (r : Option (Bor (List ℕ) × Bor (List ℕ))) (x : Bor (List ℕ) × Bor (List ℕ)) → IsSplitOnceResult 32 bs r → r ≡ Some x → (x.0.now ≡ word_of bs) × (Some x.1.now ≡ left_of bs)
word-cut bs r x h e =
    let k = split_once_first 32 bs r h (lit< tt) in
    let m = rw e at k in
    (m.1, ap Some m.2 ∙ cut bs m.0)

pub word-whole : (bs : List ℕ) (r : Option (Bor (List ℕ) × Bor (List ℕ))) → IsSplitOnceResult 32 bs r → r ≡ None → (bs ≡ word_of bs) × (None ≡ left_of bs)
word-whole bs r h e =
    let k = split_once_first 32 bs r h (lit< tt) in
    let m = rw e at k in
    (sym (ap (λ n. take n bs) m ∙ take_all (length bs) bs (omega arith)), whole bs m)

pub command_of-text : (line text : List ℕ) → text ≡ line → IsUtf8 line → command_of line ≡ said_by (word_of text) (left_of text)
command_of-text line text t u = ap (λ b. if b then said_by (word_of line) (left_of line) else None) (is_utf8-from_IsUtf8 line u) ∙ ap (λ l. said_by (word_of l) (left_of l)) (sym t)

pub command_of-no_text : (line : List ℕ) → (IsUtf8 line → ⊥) → command_of line ≡ None
command_of-no_text line n =
    elim (is_utf8 line) as (λ b. is_utf8 line ≡ b → (if b then said_by (word_of line) (left_of line) else None) ≡ None) [
      | true ↦ λ e. absurd (n (IsUtf8-from_is_utf8 line e))
      | false ↦ λ e. refl
    ] refl

-- the command of the line's bytes is that of its verb and the rest after it
pub command_of-verb : (line text verb : List ℕ) (left : Left) → text ≡ line → IsUtf8 line → verb ≡ word_of text → left ≡ left_of text → command_of line ≡ said_by verb left
command_of-verb line text verb left t u w l = command_of-text line text t u ∙ sym (ap₂ (λ x y. said_by x y) w l)

pub takes-verb : (line text verb : List ℕ) (left : Left) → text ≡ line → verb ≡ word_of text → left ≡ left_of text → takes_by (word_of line) (left_of line) ≡ takes_by verb left
takes-verb line text verb left t w l = ap₂ (λ x y. takes_by x y) (ap word_of (sym t) ∙ sym w) (ap left_of (sym t) ∙ sym l)
