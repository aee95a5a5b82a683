use Rattle.std.proofs.Common.{◌≡◌, [], Some, Result, Ok, Err, IfOk, MatchResult, refl, sym, ap, ◌∙◌, subst}
use Rattle.std.specs.Str.{chars}
use Rattle.rhai_text.proofs.ForCallers.{chars-one}
use Rattle.rhai_value.specs.End.{end, end_name, end_type, held_part}
use Rattle.rhai_value.specs.Parts.{char_of}
use Rattle.rhai_run.specs.State.{State}
use Rattle.rhai_run.specs.declared.answer.Answer.TheVariants as answer
use Rattle.rhai_run.proofs.FromBelow.{chars_type_name}
use Rattle.rhai_run.proofs.world_state.WorldState.answer_to.Goals as goal

pub returns-in_ok-text_answer-in-TypeName : goal.returns-in_ok-text_answer-in-TypeName
returns-in_ok-text_answer-in-TypeName c =
    let t = c.args.value.now in
    let name : chars c.type_name.result.now ≡ end_name (end c.args.self.now.store [] t) =
    ap chars c.type_name.ensures ∙ chars_type_name (end_type (end c.self.inside.store [] t)) ∙ ap (λ (w : State). end_name (end w.store [] t)) c.self.view_is in
    rw c.in-TypeName.is (c.in_ok-text_answer-in-TypeName.ensures ∙ ap answer.Text name, refl)

-- a property of a result holds of it after `map_err`
abbrev gives : {X : Type 0} (F : Type 0) → X → Result X F
gives F x = Ok x

read : {X E : Type 0} (F : Type 0) (r : Result X E) (x : X) (P : X → Type 0) (Z : E → Type 0) → MatchResult r (λ y. gives F x ≡ Ok y) Z → ((e : E) → Z e → ⊥) → IfOk r P → P x
read F (Ok y) x P Z h n p = let e : y ≡ x = cc in subst P e p
read F (Err e) x P Z h n p = absurd (n e h)

pub returns-in_ok-text_answer-in-Char : goal.returns-in_ok-text_answer-in-Char
returns-in_ok-text_answer-in-Char c =
    let t = c.args.value.now in
    let character = c.in_ok-character-in-Char.character in
    let held : held_part char_of (end c.args.self.now.store [] t) ≡ Some character =
    ap (λ (w : State). held_part char_of (end w.store [] t)) (sym c.self.view_is) ∙ read _ c.as_char.result character _ _ c.in_ok-character-in-Char.ensures.cases (λ e z. z) c.as_char.ensures.ok in
    rw (c.in-Char.is, held) (c.in_ok-text_answer-in-Char.ensures ∙ ap answer.Text (chars-one c.encode_utf8.result.now character c.encode_utf8.utf8 c.encode_utf8.ensures.value), refl)
