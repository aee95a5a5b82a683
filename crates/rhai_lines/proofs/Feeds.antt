-- Extending the answered front of the input.
use Rattle.std.proofs.Common.{◌≡◌, ℕ, suc, ◌+◌, ◌<◌, Bool, true, false, cond, ◌==◌, List, [], ◌∷◌, ◌++◌, length, take, drop, get_or, Option, Some, None, All, refl, sym, ap, ◌∙◌, subst, arith, append_assoc, append-nil, add-one, take_all}
use Rattle.std.specs.Io.KnownBytes.{Appends, Keeps}
use Rattle.std.specs.List.{slice_split, onto_first}
use Rattle.std.proofs.lemmas.List.Elements.{All-nil, All-append, All-from_get_or}
use Rattle.std.proofs.lemmas.List.Splits.{slice_split_at, slice_split_none}
use Rattle.std.proofs.lemmas.Bool.{eqb-true}
use Rattle.std.proofs.lemmas.Bool.Decides.{nat_tests}
use Rattle.std.proofs.Math.Seq.{split_at, take-append_seam}
use Rattle.std.proofs.lemmas.List.{append_cancel_left, get_or-take, length-take}
use Rattle.memchr.specs.Find.{Nowhere, Passes, is_byte}
use Rattle.rhai_run.specs.State.{State}
use Rattle.rhai_lines.specs.Output.{lines_of, without_empty_rest, line_answer, line_state, answers_to_lines, state_after_lines, output, output_of_first}
use Rattle.rhai_lines.proofs.Prints.{Appends-nil, Appends-more}
use Rattle.rhai_lines.specs.Fed.{AnswerAlike, Fed, Feeds, StopsWithin, Completes}

-- ---- lines

first_kept : (line : List ℕ) (y : ℕ) (parts : List (List ℕ)) (t : Bool) → without_empty_rest (line ∷ cond t ([] ∷ parts) (onto_first y parts)) ≡ line ∷ without_empty_rest (cond t ([] ∷ parts) (onto_first y parts))
first_kept line y parts true = refl
first_kept line y [] false = refl
first_kept line y (p ∷ parts) false = refl

pub lines_of-cons : (line rest : List ℕ) → without_empty_rest (line ∷ slice_split (λ b. b == 10) rest) ≡ line ∷ lines_of rest
lines_of-cons line [] = refl
lines_of-cons line (y ∷ ys) = first_kept line y (slice_split (λ b. b == 10) ys) (y == 10)

-- the bytes before a line feed are a line
pub lines_of-at_feed : (line rest : List ℕ) (b : ℕ) → All (λ b. (b == 10) ≡ false) line → (b == 10) ≡ true → lines_of (line ++ b ∷ rest) ≡ line ∷ lines_of rest
lines_of-at_feed line rest b h e = ap without_empty_rest (slice_split_at (λ b. b == 10) line b rest h e) ∙ lines_of-cons line rest

not_zero : (n : ℕ) → (suc n == 0) ≡ false
not_zero n = grind (arith, nat_tests)

-- bytes without a line feed are one line, and no byte none
pub lines_of-no_feed : (line : List ℕ) → All (λ b. (b == 10) ≡ false) line → (line ≡ [] → ⊥) → lines_of line ≡ line ∷ []
lines_of-no_feed [] h n = absurd (n refl)
lines_of-no_feed (b ∷ bs) h n =
    ap without_empty_rest (slice_split_none (λ b. b == 10) (b ∷ bs) h) ∙ ap (λ t. cond t [] ((b ∷ bs) ∷ [])) (not_zero (length bs))

-- ---- the first line feed

none_passes : (t : Bool) → (t ≡ true → ⊥) → t ≡ false
none_passes true n = absurd (n refl)
none_passes false n = refl

pub no_feed_before : (bytes : List ℕ) (k : ℕ) → Nowhere (Passes (is_byte 10) bytes) 0 k → All (λ b. (b == 10) ≡ false) (take k bytes)
no_feed_before bytes k n =
    All-from_get_or (λ b. (b == 10) ≡ false) (take k bytes) 0 (λ i l.
    let below : i < k = search (arith, l, length-take k bytes) in
    rw (get_or-take k bytes i 0 below) (none_passes (get_or bytes i 0 == 10) (n i (omega arith) below)))

pub no_feed : (bytes : List ℕ) → Nowhere (Passes (is_byte 10) bytes) 0 (length bytes) → All (λ b. (b == 10) ≡ false) bytes
no_feed bytes n = subst (All (λ b. (b == 10) ≡ false)) (take_all (length bytes) bytes (omega arith)) (no_feed_before bytes (length bytes) n)

pub cut_at : (bytes : List ℕ) (k : ℕ) → k < length bytes → Passes (is_byte 10) bytes k → bytes ≡ take k bytes ++ 10 ∷ drop (k + 1) bytes
cut_at bytes k l p =
    split_at bytes k 0 l ∙ ap (λ b. take k bytes ++ b ∷ drop (suc k) bytes) (eqb-true (get_or bytes k 0) 10 p) ∙ ap (λ n. take k bytes ++ 10 ∷ drop n bytes) (sym (add-one k))

-- ---- answers

answers-push : (lines : List (List ℕ)) (w : State) (line : List ℕ) → answers_to_lines w (lines ++ line ∷ []) ≡ answers_to_lines w lines ++ line_answer (state_after_lines w lines) line
answers-push [] w line = append-nil (line_answer w line)
answers-push (l ∷ lines) w line =
    ap (λ x. line_answer w l ++ x) (answers-push lines (line_state w l) line)
    ∙ sym (append_assoc (line_answer w l) (answers_to_lines (line_state w l) lines) (line_answer (state_after_lines w (l ∷ lines)) line))

state-push : (lines : List (List ℕ)) (w : State) (line : List ℕ) → state_after_lines w (lines ++ line ∷ []) ≡ line_state (state_after_lines w lines) line
state-push [] w line = refl
state-push (l ∷ lines) w line = state-push lines (line_state w l) line

alike_first : {w v : State} → AnswerAlike w v → (line : List ℕ) → line_answer w line ≡ line_answer v line
alike_first {w} {v} h line = sym (append-nil (line_answer w line)) ∙ h (line ∷ []) ∙ append-nil (line_answer v line)

alike_next : {w v : State} → AnswerAlike w v → (line : List ℕ) → AnswerAlike (line_state w line) (line_state v line)
alike_next {w} {v} h line lines =
    append_cancel_left (line_answer w line) (answers_to_lines (line_state w line) lines) (answers_to_lines (line_state v line) lines)
    (h (line ∷ lines) ∙ ap (λ a. a ++ answers_to_lines (line_state v line) lines) (sym (alike_first h line)))

pub Appends-kept : (old mid new : Option (List ℕ)) (a : List ℕ) → Appends old mid a → Keeps mid new → Appends old new a
Appends-kept None mid new a h k = tt
Appends-kept (Some xs) None new a h k = absurd h
Appends-kept (Some xs) (Some ys) None a h k = absurd k
Appends-kept (Some xs) (Some ys) (Some zs) a h k = k ∙ h

-- ---- Fed

pub fed_start : (input : List ℕ) (w : State) (old : Option (List ℕ)) → Fed input input [] w w old old
fed_start input w old = record { lines = []; input_is = refl; has_no_feed = All-nil _; state_is = λ _. refl; replied = Appends-nil old }

-- bytes of the line are read
pub fed_bytes : {input rest partial : List ℕ} {start now : State} {old new : Option (List ℕ)} (bytes : List ℕ) → Fed input (bytes ++ rest) partial start now old new → All (λ b. (b == 10) ≡ false) bytes → Fed input rest (partial ++ bytes) start now old new
fed_bytes {rest} {partial} bytes h n =
    record { lines = h.lines; input_is = h.input_is ∙ ap (λ xs. h.lines ++ lines_of xs) (sym (append_assoc partial bytes rest)); has_no_feed = All-append (λ b. (b == 10) ≡ false) partial bytes h.has_no_feed n; state_is = h.state_is; replied = h.replied }

-- a complete line is answered
pub fed_line : {input rest partial next : List ℕ} {start now : State} {old mid : Option (List ℕ)} (after : State) (new : Option (List ℕ)) → Fed input rest partial start now old mid → lines_of (partial ++ rest) ≡ partial ∷ lines_of next → after ≡ line_state now partial → Appends mid new (line_answer now partial) → Fed input next [] start after old new
fed_line {partial} {next} {start} {now} {old} {mid} after new h e s t =
    let replied : answers_to_lines start (h.lines ++ partial ∷ []) ≡ answers_to_lines start h.lines ++ line_answer now partial =
    answers-push h.lines start partial ∙ ap (λ a. answers_to_lines start h.lines ++ a) (alike_first h.state_is partial) in
    record {
      lines = h.lines ++ partial ∷ [];
      input_is = h.input_is ∙ ap (λ ls. h.lines ++ ls) e ∙ sym (append_assoc h.lines (partial ∷ []) (lines_of next));
      has_no_feed = All-nil _;
      state_is = rw (s, state-push h.lines start partial) (alike_next h.state_is partial);
      replied = subst (Appends old new) (sym replied) (Appends-more old mid new (answers_to_lines start h.lines) (line_answer now partial) h.replied t);
    }

-- the writer's bytes are kept
pub fed_kept : {input rest partial : List ℕ} {start now : State} {old mid : Option (List ℕ)} (new : Option (List ℕ)) → Fed input rest partial start now old mid → Keeps mid new → Fed input rest partial start now old new
fed_kept {start} {old} {mid} new h k =
    record { lines = h.lines; input_is = h.input_is; has_no_feed = h.has_no_feed; state_is = h.state_is; replied = Appends-kept old mid new (answers_to_lines start h.lines) h.replied k }

-- another world continues
pub fed_alike : {input rest partial : List ℕ} {start now : State} {old new : Option (List ℕ)} (after : State) → Fed input rest partial start now old new → AnswerAlike now after → Fed input rest partial start after old new
fed_alike after h k =
    record { lines = h.lines; input_is = h.input_is; has_no_feed = h.has_no_feed; state_is = λ lines. h.state_is lines ∙ k lines; replied = h.replied }

-- nothing is left
pub fed_end : {input : List ℕ} {start now : State} {old new : Option (List ℕ)} → Fed input [] [] start now old new → Appends old new (output start input)
fed_end {start} {old} {new} h = subst (λ ls. Appends old new (answers_to_lines start ls)) (sym (h.input_is ∙ append-nil h.lines)) h.replied

-- some first lines are answered
pub fed_first : {input rest partial : List ℕ} {start now : State} {old new : Option (List ℕ)} → Fed input rest partial start now old new → (n : ℕ) × Appends old new (output_of_first start n input)
fed_first {rest} {partial} {start} {old} {new} h =
    (length h.lines, subst (λ ls. Appends old new (answers_to_lines start ls)) (sym (ap (take (length h.lines)) h.input_is ∙ take-append_seam h.lines (lines_of (partial ++ rest)))) h.replied)

-- ---- processing bytes

pub feeds_none : {partial : List ℕ} {now : State} {written : Option (List ℕ)} → Feeds [] partial now written partial now written
feeds_none input rest start old h = h

-- a line feed ends the line
pub feeds_line : {partial : List ℕ} {now after : State} {written : Option (List ℕ)} (line : List ℕ) (more : Option (List ℕ)) → All (λ b. (b == 10) ≡ false) line → after ≡ line_state now (partial ++ line) → Appends written more (line_answer now (partial ++ line)) → Feeds (line ++ 10 ∷ []) partial now written [] after more
feeds_line {partial} {now} {after} {written} line more n s t input rest start old h =
    let whole = fed_bytes line (subst (λ xs. Fed input xs partial start now old written) (append_assoc line (10 ∷ []) rest) h) n in
    fed_line after more whole (lines_of-at_feed (partial ++ line) rest 10 whole.has_no_feed refl) s t

-- the bytes contain no line feed
pub feeds_rest : {partial : List ℕ} {now : State} {written : Option (List ℕ)} (bytes : List ℕ) → All (λ b. (b == 10) ≡ false) bytes → Feeds bytes partial now written (partial ++ bytes) now written
feeds_rest bytes n input rest start old h = fed_bytes bytes h n

-- bytes, and then others
pub feeds_more : (bytes more : List ℕ) {partial next last : List ℕ} {now after final : State} {written written' most : Option (List ℕ)} → Feeds bytes partial now written next after written' → Feeds more next after written' last final most → Feeds (bytes ++ more) partial now written last final most
feeds_more bytes more {partial} {now} {written} f g input rest start old h =
    g input rest start old (f input (more ++ rest) start old (subst (λ xs. Fed input xs partial start now old written) (append_assoc bytes more rest) h))

pub stops_within : (bytes left : List ℕ) {partial next : List ℕ} {now after : State} {written more : Option (List ℕ)} (new : Option (List ℕ)) → Feeds bytes partial now written next after more → new ≡ more → StopsWithin (bytes ++ left) partial now written new
stops_within bytes left {partial} {now} {written} new f e input rest start old h =
    let k = fed_first (f input (left ++ rest) start old (subst (λ xs. Fed input xs partial start now old written) (append_assoc bytes left rest) h)) in
    (k.0, subst (λ m. Appends old m (output_of_first start k.0 input)) (sym e) k.1)

-- ---- the end of the input

pub completes_none : {partial : List ℕ} {now : State} {written : Option (List ℕ)} → partial ≡ [] → Completes partial now written written
completes_none {now} {written} e input start old h = fed_end (subst (λ p. Fed input [] p start now old written) e h)

pub completes_last : {partial : List ℕ} {now : State} {written : Option (List ℕ)} (mid more : Option (List ℕ)) → (partial ≡ [] → ⊥) → Appends written mid (line_answer now partial) → Keeps mid more → Completes partial now written more
completes_last {partial} {now} mid more n t k input start old h =
    fed_end (fed_kept more (fed_line (line_state now partial) mid h (ap lines_of (append-nil partial) ∙ lines_of-no_feed partial h.has_no_feed n) refl t) k)
