-- The line of a command is read as the command.
use Rattle.std.proofs.Common.{◌≡◌, ℕ, Bool, true, false, ◌&&◌, if◌then◌else◌, cond, List, [], ◌∷◌, ◌++◌, Option, Some, None, option_map, bytes_eq, refl, sym, ap, ap₂, ◌∙◌, subst}
use Rattle.std.specs.Str.{IsUtf8}
use Rattle.std.proofs.lemmas.Str.{IsUtf8-append, is_utf8-from_IsUtf8}
use Rattle.rhai_run.specs.declared.command.Command.{Command}
use Rattle.rhai_lines.specs.Words.{Left, word_of, left_of}
use Rattle.rhai_lines.specs.Arguments.{says}
use Rattle.rhai_lines.specs.Verbs.{Form, verbs, form_in, form_of, said, said_by, command_of}
use Rattle.rhai_lines.specs.Spelling.{behind, has_feed, writes, spoken, IsLineOf}
use Rattle.rhai_lines.proofs.Lookups.{same_bytes}
use Rattle.rhai_lines.proofs.SaysBack.{the_same, both, graphic, word_is, left_is, has_feed_append, graphic_no_feed, graphic_utf8}
use Rattle.rhai_lines.proofs.ArgumentsBack.{arguments_back}

pub record SaysLine (c : Command) (line : List ℕ) : Type 0 where
  pub back : command_of line ≡ Some c
  pub no_feed : has_feed line ≡ false

-- a verb with values is in the table, and so a word
abbrev all_graphic : List (List ℕ × Form) → Bool
all_graphic [] = true
all_graphic (row ∷ rows) = graphic row.0 && all_graphic rows

graphic_in : (rows : List (List ℕ × Form)) (verb : List ℕ) → all_graphic rows ≡ true → (form_in rows verb).Values → graphic verb ≡ true
graphic_in [] verb t v = absurd v
graphic_in (row ∷ rows) verb t v =
    let h = both (graphic row.0) (all_graphic rows) t in
    by (bytes_eq verb row.0) refl v (λ w. graphic_in rows verb h.1 w) h.0
  where
    by : (b : Bool) → bytes_eq verb row.0 ≡ b → (cond b row.1 (form_in rows verb)).Values → ((form_in rows verb).Values → graphic verb ≡ true) → graphic row.0 ≡ true → graphic verb ≡ true
    by true f v k g = ap graphic (same_bytes verb row.0 f) ∙ g
    by false f v k g = k v

verb_graphic : (verb : List ℕ) → (form_of verb).Values → graphic verb ≡ true
unfolding form_of
verb_graphic [] v = absurd v
verb_graphic (b ∷ bs) v = graphic_in verbs (b ∷ bs) refl v

said_is : (verb : List ℕ) (left : Left) → said_by verb left ≡ said (form_of verb) left
unfolding said_by form_of says
said_is [] left = refl
said_is (b ∷ bs) left = refl

-- a verb, and the rest for values after it
says_line : (verb : List ℕ) (left : Left) (c : Command) → graphic verb ≡ true → said_by verb left ≡ Some c → has_feed (behind left) ≡ false → IsUtf8 (behind left) → SaysLine c (verb ++ behind left)
says_line verb left c g s n u = record {
  back =
      ap (λ t. if t then said_by (word_of (verb ++ behind left)) (left_of (verb ++ behind left)) else None) (is_utf8-from_IsUtf8 (verb ++ behind left) (IsUtf8-append verb (behind left) (graphic_utf8 verb g) u))
      ∙ ap₂ (λ w l. said_by w l) (word_is verb left g) (left_is verb left g) ∙ s;
  no_feed = has_feed_append verb (behind left) (graphic_no_feed verb g) n;
}

spoken_says : (c : Command) (line verb : List ℕ) (values : (form_of verb).Values) → (form_of verb).make values ≡ c → Some line ≡ spoken verb (form_of verb).arguments values → SaysLine c line
unfolding spoken
spoken_says c line verb values m e = by (writes (form_of verb).arguments values) refl
  where
    by : (o : Option Left) → writes (form_of verb).arguments values ≡ o → SaysLine c line
    by None k = cc (e ∙ ap (option_map (λ left. verb ++ behind left)) k)
    by (Some left) k =
        let n = arguments_back (form_of verb).arguments values left k in
        subst (SaysLine c) (sym (the_same (e ∙ ap (option_map (λ left. verb ++ behind left)) k)))
        (says_line verb left c (verb_graphic verb values) (said_is verb left ∙ ap (option_map (form_of verb).make) n.back ∙ ap Some m) n.fits.0 n.fits.1)

pub line_says : (c : Command) (line : List ℕ) → IsLineOf c (Some line) → SaysLine c line
line_says c line p = spoken_says c line p.0 p.1 p.2 p.3

-- a line appended to nothing is the line, and is read as the command
pub added_line : (c : Command) (old new : List ℕ) → old ≡ [] → (line : List ℕ) × IsLineOf c (Some line) × (new ≡ old ++ line) → IsLineOf c (Some new)
added_line c old new n h = subst (λ x. IsLineOf c (Some x)) (sym (h.2 ∙ ap (λ x. x ++ h.0) n)) h.1

pub added_says : (c : Command) (old new : List ℕ) → old ≡ [] → (line : List ℕ) × IsLineOf c (Some line) × (new ≡ old ++ line) → command_of new ≡ Some c
added_says c old new n h = (line_says c new (added_line c old new n h)).back
