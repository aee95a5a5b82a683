-- The commands of lines, read in order.
use Rattle.std.proofs.Common.{◌≡◌, ℕ, false, ◌==◌, List, [], ◌∷◌, ◌++◌, Option, Some, None, option_map, option_and_then, All, refl, sym, ap, ◌∙◌, append_assoc, append-nil}
use Rattle.rhai_run.specs.declared.command.Command.{Command}
use Rattle.rhai_lines.specs.Output.{commands_in, lines_of}
use Rattle.rhai_lines.specs.Verbs.{command_of}
use Rattle.rhai_lines.proofs.Feeds.{lines_of-at_feed, lines_of-no_feed}

grown : (front : List Command) (c : Command) (o : Option (List Command)) → option_map (λ more. front ++ more) (option_map (λ cs. c ∷ cs) o) ≡ option_map (λ more. (front ++ c ∷ []) ++ more) o
grown front c None = refl
grown front c (Some cs) = ap Some (sym (append_assoc front (c ∷ []) cs))

with_first : (front : List Command) (o : Option Command) (c : Command) (more : Option (List Command)) → o ≡ Some c
    → option_map (λ more. front ++ more) (option_and_then (λ c. option_map (λ cs. c ∷ cs) more) o) ≡ option_map (λ more. (front ++ c ∷ []) ++ more) more
with_first front o c more e = rw e (grown front c more)

without : (front : List Command) (o : Option Command) (more : Option (List Command)) → o ≡ None
    → None ≡ option_map (λ more. front ++ more) (option_and_then (λ c. option_map (λ cs. c ∷ cs) more) o)
without front o more e = rw e refl

-- one more line is read
pub read_more : (whole : Option (List Command)) (front : List Command) (left line rest : List ℕ) (c : Command)
    → whole ≡ option_map (λ more. front ++ more) (commands_in (lines_of left)) → left ≡ line ++ 10 ∷ rest → All (λ b. (b == 10) ≡ false) line → command_of line ≡ Some c
    → whole ≡ option_map (λ more. (front ++ c ∷ []) ++ more) (commands_in (lines_of rest))
read_more whole front left line rest c w is h e =
    w ∙ ap (λ xs. option_map (λ more. front ++ more) (commands_in (lines_of xs))) is ∙ ap (λ ls. option_map (λ more. front ++ more) (commands_in ls)) (lines_of-at_feed line rest 10 h refl)
    ∙ with_first front (command_of line) c (commands_in (lines_of rest)) e

-- one without a command
pub read_none : (whole : Option (List Command)) (front : List Command) (left line rest : List ℕ)
    → whole ≡ option_map (λ more. front ++ more) (commands_in (lines_of left)) → left ≡ line ++ 10 ∷ rest → All (λ b. (b == 10) ≡ false) line → command_of line ≡ None
    → None ≡ whole
read_none whole front left line rest w is h e =
    without front (command_of line) (commands_in (lines_of rest)) e
    ∙ sym (w ∙ ap (λ xs. option_map (λ more. front ++ more) (commands_in (lines_of xs))) is ∙ ap (λ ls. option_map (λ more. front ++ more) (commands_in ls)) (lines_of-at_feed line rest 10 h refl))

-- no byte remains, or a last line
pub read_all : (whole : Option (List Command)) (front : List Command) (left : List ℕ) → whole ≡ option_map (λ more. front ++ more) (commands_in (lines_of left)) → left ≡ [] → Some front ≡ whole
read_all whole front left w e = sym (w ∙ ap (λ xs. option_map (λ more. front ++ more) (commands_in (lines_of xs))) e ∙ ap Some (append-nil front))

pub read_last : (whole : Option (List Command)) (front : List Command) (left : List ℕ) (c : Command)
    → whole ≡ option_map (λ more. front ++ more) (commands_in (lines_of left)) → All (λ b. (b == 10) ≡ false) left → (left ≡ [] → ⊥) → command_of left ≡ Some c → Some (front ++ c ∷ []) ≡ whole
read_last whole front left c w h n e =
    sym (w ∙ ap (λ ls. option_map (λ more. front ++ more) (commands_in ls)) (lines_of-no_feed left h n) ∙ with_first front (command_of left) c (Some []) e ∙ ap Some (append-nil (front ++ c ∷ [])))

pub read_bad : (whole : Option (List Command)) (front : List Command) (left : List ℕ)
    → whole ≡ option_map (λ more. front ++ more) (commands_in (lines_of left)) → All (λ b. (b == 10) ≡ false) left → (left ≡ [] → ⊥) → command_of left ≡ None → None ≡ whole
read_bad whole front left w h n e =
    without front (command_of left) (Some []) e ∙ sym (w ∙ ap (λ ls. option_map (λ more. front ++ more) (commands_in ls)) (lines_of-no_feed left h n))
