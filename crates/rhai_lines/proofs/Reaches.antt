-- How much of a reader's input is read and answered.
use Rattle.std.proofs.Common.{◌≡◌, ℕ, List, [], ◌++◌, Option, Some, None, IfSome, refl, sym, ap, ◌∙◌, subst}
use Rattle.std.specs.Io.KnownBytes.{Appends, Consumes, IsAtEnd, Keeps}
use Rattle.std.proofs.lemmas.Option.{same_Some}
use Rattle.rhai_run.specs.State.{State}
use Rattle.rhai_lines.specs.Output.{output, output_of_first}
use Rattle.rhai_lines.specs.Fed.{AnswerAlike, Fed, Feeds, StopsWithin, Completes, AnswersWhatIsRead}
use Rattle.rhai_lines.proofs.Feeds.{fed_start, fed_first, fed_kept, fed_alike}

-- If the input is known, so is its rest, and the lines before that are answered.
abbrev pub Reached : Option (List ℕ) → Option (List ℕ) → List ℕ → State → State → Option (List ℕ) → Option (List ℕ) → Type 0
Reached known left partial start now old written =
    (input : List ℕ) → known ≡ Some input → (rest : List ℕ) × (left ≡ Some rest) × Fed input rest partial start now old written

-- the rest after a read
split_read : (left next : Option (List ℕ)) (bytes rest : List ℕ) → Consumes left next bytes → left ≡ Some rest → (others : List ℕ) × (next ≡ Some others) × (rest ≡ bytes ++ others)
split_read None next bytes rest c e = cc
split_read (Some xs) None bytes rest c e = absurd c
split_read (Some xs) (Some ys) bytes rest c e = (ys, refl, sym (same_Some xs rest e) ∙ c)

same_left : (left next : Option (List ℕ)) (rest : List ℕ) → Keeps left next → left ≡ Some rest → next ≡ Some rest
same_left None next rest k e = cc
same_left (Some xs) None rest k e = absurd k
same_left (Some xs) (Some ys) rest k e = ap Some k ∙ e

at_end : (next : Option (List ℕ)) (others : List ℕ) → IsAtEnd next → next ≡ Some others → others ≡ []
at_end None others a e = cc
at_end (Some xs) others a e = sym (same_Some xs others e) ∙ a

pub reached_start : (known : Option (List ℕ)) (start : State) (old : Option (List ℕ)) → Reached known known [] start start old old
reached_start known start old input e = (input, e, fed_start input start old)

pub reached_kept : (known left next : Option (List ℕ)) {partial : List ℕ} {start now : State} {old written : Option (List ℕ)} → Reached known left partial start now old written → Keeps left next → Reached known next partial start now old written
reached_kept known left next h k input e = let a = h input e in (a.0, same_left left next a.0 k a.1, a.2)

pub reached_written : (known left : Option (List ℕ)) {partial : List ℕ} {start now : State} {old written : Option (List ℕ)} (more : Option (List ℕ)) → Reached known left partial start now old written → Keeps written more → Reached known left partial start now old more
reached_written known left more h k input e = let a = h input e in (a.0, a.1, fed_kept more a.2 k)

pub reached_alike : (known left : Option (List ℕ)) {partial : List ℕ} {start now : State} {old written : Option (List ℕ)} (after : State) → Reached known left partial start now old written → AnswerAlike now after → Reached known left partial start after old written
reached_alike known left after h k input e = let a = h input e in (a.0, a.1, fed_alike after a.2 k)

pub reached_more : (known left next : Option (List ℕ)) (bytes : List ℕ) {partial others : List ℕ} {start now after : State} {old written more : Option (List ℕ)} → Reached known left partial start now old written → Consumes left next bytes → Feeds bytes partial now written others after more → Reached known next others start after old more
reached_more known left next bytes {partial} {start} {now} {old} {written} h c f input e =
    let a = h input e in
    let s = split_read left next bytes a.0 c a.1 in
    (s.0, s.1, f input s.0 start old (subst (λ xs. Fed input xs partial start now old written) s.2 a.2))

-- the run ends here with success
pub reached_end : (known left next : Option (List ℕ)) (bytes : List ℕ) {partial : List ℕ} {start now : State} {old written : Option (List ℕ)} (more : Option (List ℕ)) → Reached known left partial start now old written → Consumes left next bytes → bytes ≡ [] → IsAtEnd next → Completes partial now written more → IfSome known (λ input. Appends old more (output start input))
reached_end None left next bytes more h c z e f = tt
reached_end (Some input) left next bytes {partial} {start} {now} {old} {written} more h c z e f =
    let a = h input refl in
    let s = split_read left next bytes a.0 c a.1 in
    let none : a.0 ≡ [] = s.2 ∙ ap (λ b. b ++ s.0) z ∙ at_end next s.0 e s.1 in
    f input start old (subst (λ xs. Fed input xs partial start now old written) none a.2)

pub reached_end_left : (known left next : Option (List ℕ)) (bytes : List ℕ) {partial : List ℕ} {start now : State} {old written : Option (List ℕ)} → Reached known left partial start now old written → Consumes left next bytes → IsAtEnd next → IfSome known (λ _. next ≡ Some [])
reached_end_left None left next bytes h c e = tt
reached_end_left (Some input) left next bytes h c e =
    let a = h input refl in
    let s = split_read left next bytes a.0 c a.1 in
    s.1 ∙ ap Some (at_end next s.0 e s.1)

-- the run stops here, or within the bytes read
pub reached_stop : (known left : Option (List ℕ)) {partial : List ℕ} {start now : State} {old written : Option (List ℕ)} (more : Option (List ℕ)) → Reached known left partial start now old written → more ≡ written → IfSome known (λ input. (n : ℕ) × Appends old more (output_of_first start n input))
reached_stop None left more h e = tt
reached_stop (Some input) left {start} {old} more h e =
    let k = fed_first (h input refl).2 in
    (k.0, subst (λ m. Appends old m (output_of_first start k.0 input)) (sym e) k.1)

pub reached_stop_within : (known left next : Option (List ℕ)) (bytes : List ℕ) {partial : List ℕ} {start now : State} {old written : Option (List ℕ)} (more : Option (List ℕ)) → Reached known left partial start now old written → Consumes left next bytes → StopsWithin bytes partial now written more → IfSome known (λ input. (n : ℕ) × Appends old more (output_of_first start n input))
reached_stop_within None left next bytes more h c f = tt
reached_stop_within (Some input) left next bytes {partial} {start} {now} {old} {written} more h c f =
    let a = h input refl in
    let s = split_read left next bytes a.0 c a.1 in
    f input s.0 start old (subst (λ xs. Fed input xs partial start now old written) s.2 a.2)

-- the reader fails here: the complete lines read are answered
pub reached_read : (known left next : Option (List ℕ)) {partial : List ℕ} {start now : State} {old written : Option (List ℕ)} (more : Option (List ℕ)) → Reached known left partial start now old written → Keeps left next → more ≡ written → IfSome known (λ input. AnswersWhatIsRead start input next old more)
reached_read None left next more h k e = tt
reached_read (Some input) left next {partial} {start} {now} {old} more h k e =
    let a = reached_kept (Some input) left next h k input refl in
    (a.0, partial, now, a.1, subst (λ m. Fed input a.0 partial start now old m) (sym e) a.2)

pub keeps_itself : (o : Option (List ℕ)) → Keeps o o
keeps_itself None = tt
keeps_itself (Some xs) = refl
