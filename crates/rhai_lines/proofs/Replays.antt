-- The lines of commands, read in order.
use Rattle.std.proofs.Common.{◌≡◌, ℕ, suc, ◌-◌, ◌<◌, ◌≤◌, length, take, drop, take_all, get_or, Bool, true, false, ◌||◌, ◌==◌, nat_eq, List, [], ◌∷◌, ◌++◌, Option, Some, None, option_map, refl, sym, ap, ap₂, ◌∙◌, subst, append-nil, append_assoc, arith}
use Rattle.std.specs.List.{AllByRecursion}
use Rattle.std.proofs.lemmas.List.Elements.{All-from_recursion}
use Rattle.rhai_run.specs.declared.command.Command.{Command}
use Rattle.rhai_run.specs.State.{State}
use Rattle.rhai_run.specs.Step.{step}
use Rattle.rhai_lines.specs.Spelling.{has_feed, IsLineOf, IsFollowed, IsJournalOf}
use Rattle.rhai_lines.specs.Printed.{printed}
use Rattle.rhai_lines.specs.Output.{lines_of, answered, answers_to_lines, output, output_of_commands}
use Rattle.rhai_lines.proofs.SaysBack.{the_same}
use Rattle.rhai_lines.proofs.LinesBack.{line_says}
use Rattle.rhai_lines.proofs.Feeds.{lines_of-at_feed}

neither : (s t : Bool) → (s || t) ≡ false → (s ≡ false) × (t ≡ false)
neither false t e = (refl, e)
neither true t e = cc

without_feed : (line : List ℕ) → has_feed line ≡ false → AllByRecursion (λ b. (b == 10) ≡ false) line
without_feed [] e = tt
without_feed (b ∷ bs) e = let h = neither (nat_eq b 10) (has_feed bs) e in (h.0, without_feed bs h.1)

-- the output for a journal
pub replay : (cs : List Command) (bytes : List ℕ) (w : State) → IsJournalOf cs (Some bytes) → output w bytes ≡ output_of_commands w cs
replay [] bytes w e = ap (output w) (the_same e)
replay (c ∷ cs) bytes w p = by p.0 p.1 p.2 (λ more v h. replay cs more v h)
  where
    by : (line : Option (List ℕ)) → IsLineOf c line → IsFollowed line (λ more. IsJournalOf cs more) (Some bytes) → ((more : List ℕ) (v : State) → IsJournalOf cs (Some more) → output v more ≡ output_of_commands v cs) → output w bytes ≡ output_of_commands w (c ∷ cs)
    by None l f k = cc f
    by (Some line) l f k = rest f.0 f.1 f.2
      where
        rest : (more : Option (List ℕ)) → IsJournalOf cs more → Some bytes ≡ option_map (λ m. line ++ 10 ∷ m) more → output w bytes ≡ output_of_commands w (c ∷ cs)
        rest None j e = cc e
        rest (Some more) j e =
            let h = line_says c line l in
            ap (output w) (the_same e)
            ∙ ap (answers_to_lines w) (lines_of-at_feed line more 10 (All-from_recursion (λ b. (b == 10) ≡ false) line (without_feed line h.no_feed)) refl)
            ∙ ap (λ o. ((answered w o).0 ++ 10 ∷ []) ++ answers_to_lines (answered w o).1 (lines_of more)) h.back
            ∙ ap (λ bs. (printed (step w c).reply ++ 10 ∷ []) ++ bs) (k more (step w c).after j)

-- ---- extending a journal

-- The text is a prefix of a journal: followed by a journal of the remaining commands it is one of all.
abbrev pub IsFront : List Command → List Command → List ℕ → Type 0
IsFront cs left text = (more : Option (List ℕ)) → IsJournalOf left more → IsJournalOf cs (option_map (λ m. text ++ m) more)

pub front_empty : (cs : List Command) (text : List ℕ) → text ≡ [] → IsFront cs cs text
front_empty cs text e None j = j
front_empty cs text e (Some more) j = subst (λ t. IsJournalOf cs (Some (t ++ more))) (sym e) j

-- the first remaining command, and those after it
first_left : (left : List Command) (c : Command) → 1 ≤ length left → c ≡ get_or left 0 c → left ≡ c ∷ take (length left - 1) (drop 1 left)
first_left [] c l e = absurd (omega (arith, l))
first_left (d ∷ more) c l e = ap₂ (λ x xs. x ∷ xs) (sym e) (sym (take_all (suc (length more) - 1) more (omega arith)))

pub front_stops : (cs left : List Command) (c : Command) (text : List ℕ) → IsFront cs left text → 1 ≤ length left → c ≡ get_or left 0 c → IsLineOf c None → IsJournalOf cs None
front_stops cs left c text h l e n = h None (subst (λ cs. IsJournalOf cs None) (sym (first_left left c l e)) (None, n, refl))

pub front_grows : (cs left : List Command) (c : Command) (text mid next : List ℕ) → IsFront cs left text → 1 ≤ length left → c ≡ get_or left 0 c
    → (line : List ℕ) × IsLineOf c (Some line) × (mid ≡ text ++ line) → next ≡ mid ++ 10 ∷ [] → IsFront cs (take (length left - 1) (drop 1 left)) next
front_grows cs left c text mid next h l e a n more j =
    let whole = h (option_map (λ m. a.0 ++ 10 ∷ m) more) (subst (λ cs. IsJournalOf cs (option_map (λ m. a.0 ++ 10 ∷ m) more)) (sym (first_left left c l e)) (Some a.0, a.1, (more, j, refl))) in
    subst (IsJournalOf cs) (by more) whole
  where
    by : (o : Option (List ℕ)) → option_map (λ m. text ++ m) (option_map (λ m. a.0 ++ 10 ∷ m) o) ≡ option_map (λ m. next ++ m) o
    by None = refl
    by (Some rest) =
        ap Some (sym (append_assoc text a.0 (10 ∷ rest)) ∙ sym (append_assoc (text ++ a.0) (10 ∷ []) rest) ∙ ap (λ x. (x ++ 10 ∷ []) ++ rest) (sym a.2) ∙ ap (λ x. x ++ rest) (sym n))

pub front_whole : (cs left : List Command) (text : List ℕ) → IsFront cs left text → length left < 1 → IsJournalOf cs (Some text)
front_whole cs [] text h l = subst (λ t. IsJournalOf cs (Some t)) (append-nil text) (h (Some []) refl)
front_whole cs (c ∷ more) text h l = absurd (omega (arith, l))

-- if there are no commands none remains
pub none_left : (cs left : List Command) → (cs ≡ [] → left ≡ []) → 1 ≤ length left → cs ≡ [] → ⊥
none_left cs left h l e = let n : length left ≡ 0 = ap length (h e) in omega (arith, l, n)
