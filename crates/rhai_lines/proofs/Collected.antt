-- A collected world answers further lines as it did before.
use Rattle.std.proofs.Common.{◌≡◌, ◌⊎◌, inl, inr, ℕ, List, [], ◌∷◌, ◌++◌, Option, Some, None, Result, Ok, Err, OnOk, OnErr, codes, refl, sym, ap, ◌∙◌}
use Rattle.rhai_run.specs.declared.command.Command.{Command}
use Rattle.rhai_run.specs.State.{State}
use Rattle.rhai_run.specs.Step.{step}
use Rattle.rhai_run.specs.Machine.{replies}
use Rattle.rhai_run.specs.Correspondence.{RunAlike}
use Rattle.rhai_run.specs.KeptWorld.{Collects, kept_pairs}
use Rattle.rhai_lines.specs.Output.{answered, answers_to_lines}
use Rattle.rhai_lines.specs.Printed.{printed}
use Rattle.rhai_lines.specs.Verbs.{command_of}
use Rattle.rhai_lines.specs.Fed.{AnswerAlike}

-- no commands distinguish the two worlds
abbrev ReplyAlike : State → State → Type 0
ReplyAlike w v = (commands : List Command) → replies w commands ≡ replies v commands

-- the answers to the lines after this one are the same, if this holds for any two worlds that no commands distinguish
line_alike : {w v : State} → ReplyAlike w v → (o : Option Command) (lines : List (List ℕ)) → ((x y : State) → ReplyAlike x y → answers_to_lines x lines ≡ answers_to_lines y lines) → ((answered w o).0 ++ 10 ∷ []) ++ answers_to_lines (answered w o).1 lines ≡ ((answered v o).0 ++ 10 ∷ []) ++ answers_to_lines (answered v o).1 lines
line_alike {w} {v} h None lines rest = ap (λ a. (codes "refused BadLine" ++ 10 ∷ []) ++ a) (rest w v h)
line_alike {w} {v} h (Some c) lines rest =
    let reply : (step w c).reply ≡ (step v c).reply = cc (h (c ∷ [])) in
    ap (λ r. (printed r ++ 10 ∷ []) ++ answers_to_lines (step w c).after lines) reply
    ∙ ap (λ a. (printed (step v c).reply ++ 10 ∷ []) ++ a) (rest (step w c).after (step v c).after (λ cs. cc (h (c ∷ cs))))

pub replies_alike : (w v : State) → ReplyAlike w v → AnswerAlike w v
replies_alike w v h [] = refl
replies_alike w v h (line ∷ lines) = line_alike h (command_of line) lines (λ x y k. replies_alike x y k lines)

-- whether cells were collected or not
pub given_back : {T E : Type 0} (r : Result T E) (w v : State) → ((x y : State) (h : Collects x y) (commands : List Command) → RunAlike (kept_pairs h.cells) x y commands) → OnOk r ((v ≡ w) ⊎ Collects w v) → OnErr r (v ≡ w) → AnswerAlike w v
given_back (Ok x) w v alike (inl same) err lines = ap (λ u. answers_to_lines u lines) (sym same)
given_back (Ok x) w v alike (inr h) err lines = replies_alike w v (λ commands. (alike w v h commands).answers) lines
given_back (Err e) w v alike ok err lines = ap (λ u. answers_to_lines u lines) (sym err)
