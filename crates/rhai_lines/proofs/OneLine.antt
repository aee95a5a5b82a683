-- A command has one line. No row of the table is named here: that exactly one row makes each command is computed.
use Rattle.std.proofs.Common.{◌≡◌, ℕ, zero, suc, Bool, true, false, ◌&&◌, nat_eq, cond, List, [], ◌∷◌, ◌++◌, map, Option, Some, None, option_map, bytes_eq, refl, sym, ap, ap₂, ◌∙◌, subst}
use denote.Enum.Declared.{tag_of}
use Rattle.rhai_run.specs.contracts.command.Command as command
use Rattle.rhai_run.specs.contracts.command.Literal as literal_kind
use Rattle.rhai_run.specs.declared.command.Command.{Command}
use Rattle.rhai_run.specs.declared.command.Command.TheVariants.{Put, WriteSlice}
use Rattle.rhai_run.specs.declared.command.Literal.TheVariants.{Unit as Nothing}
use Rattle.rhai_lines.specs.Arguments.{of_no_verb}
use Rattle.rhai_lines.specs.Verbs.{Form, form, verbs, form_in, form_of}
use Rattle.rhai_lines.specs.Spelling.{spoken, IsLineOf, IsFollowed, IsJournalOf}
use Rattle.rhai_lines.proofs.Lookups.{same_bytes}
use Rattle.rhai_lines.proofs.SaysBack.{the_same}

abbrev Row : Type 1
Row = List ℕ × Form

abbrev at : List Row → ℕ → Row
at [] n = ([], form of_no_verb (elim [ ]))
at (row ∷ rows) zero = row
at (row ∷ rows) (suc n) = at rows n

-- something for each row
abbrev Table : (Row → Type 0) → List Row → Type 0
Table F [] = Unit {0}
Table F (row ∷ rows) = F row × Table F rows

-- What distinguishes the rows: the number of the command, and that of the literal or the kind of end.
abbrev Key : Type 0
Key = ℕ × ℕ

key : Command → Key
key (Put literal) = (tag_of command.the_type (Put literal), tag_of literal_kind.the_type literal)
key (WriteSlice p a b true j) = (tag_of command.the_type (WriteSlice p a b true j), 1)
key (WriteSlice p a b false j) = (tag_of command.the_type (WriteSlice p a b false j), 0)
key c = (tag_of command.the_type c, 0)

-- Each row's key: everything that the row makes has it.
abbrev keys_made : (rows : List Row) → Table (λ row. row.1.Values → Key) rows
keys_made [] = tt
keys_made (row ∷ rows) = ((λ values. key (row.1.make values)), keys_made rows)

abbrev same_keys : (rows : List Row) → Table (λ row. Key) rows → Table (λ row. row.1.Values → Key) rows
same_keys [] ks = tt
same_keys (row ∷ rows) ks = ((λ values. ks.0), same_keys rows ks.1)

keys : (ks : Table (λ row. Key) verbs) × (keys_made verbs ≡ same_keys verbs ks)
unfolding key
keys = (_, refl)

-- the row of a command, and the values from which it makes the command
place_of : (rows : List Row) → Table (λ row. Key) rows → Key → ℕ
place_of [] ks k = 0
place_of (row ∷ rows) ks k = cond (nat_eq ks.0.0 k.0 && nat_eq ks.0.1 k.1) 0 (suc (place_of rows ks.1 k))

abbrev row_of : Command → Row
row_of c = at verbs (place_of verbs keys.0 (key c))

made : (c : Command) → (values : (row_of c).1.Values) × ((row_of c).1.make values ≡ c)
unfolding key keys place_of
made (Put Nothing) = (_, refl)
made (Put literal) = (_, refl)
made (WriteSlice p a b true j) = (_, refl)
made (WriteSlice p a b false j) = (_, refl)
made c = (_, refl)

-- the form of a row's verb is that of the row, since no verb occurs twice
forms_hold : map (λ row. form_of row.0) verbs ≡ map (λ row. row.1) verbs
unfolding form_of
forms_hold = refl

form_holds : (rows : List Row) (n : ℕ) → map (λ row. form_of row.0) rows ≡ map (λ row. row.1) rows → form_of (at rows n).0 ≡ (at rows n).1
unfolding form_of
form_holds [] n e = refl
form_holds (row ∷ rows) zero e = cc
form_holds (row ∷ rows) (suc n) e = form_holds rows n (cc)

-- and so each command has a line, or none, by its row
abbrev line_by : Command → Option (List ℕ)
line_by c = spoken (row_of c).0 (row_of c).1.arguments (made c).0

is_line : (verb : List ℕ) (f : Form) (values : f.Values) (c : Command) → form_of verb ≡ f → f.make values ≡ c → IsLineOf c (spoken verb f.arguments values)
is_line verb f values c e m = subst (λ f. (values : f.Values) → f.make values ≡ c → IsLineOf c (spoken verb f.arguments values)) e (λ values m. (verb, values, m, refl)) values m

pub some_line : (c : Command) → (line : Option (List ℕ)) × IsLineOf c line
some_line c = (line_by c, is_line (row_of c).0 (row_of c).1 (made c).0 c (form_holds verbs (place_of verbs keys.0 (key c)) forms_hold) (made c).1)

-- what each row writes for its values is the line of the command made from them
abbrev lines_said : (rows : List Row) → Table (λ row. row.1.Values → Option (List ℕ)) rows
lines_said [] = tt
lines_said (row ∷ rows) = ((λ values. spoken row.0 row.1.arguments values), lines_said rows)

abbrev lines_made : (rows : List Row) → Table (λ row. row.1.Values → Option (List ℕ)) rows
lines_made [] = tt
lines_made (row ∷ rows) = ((λ values. line_by (row.1.make values)), lines_made rows)

same_lines : lines_said verbs ≡ lines_made verbs
unfolding key keys place_of made
same_lines = refl

in_rows : (rows : List Row) (verb : List ℕ) (values : (form_in rows verb).Values) → lines_said rows ≡ lines_made rows → spoken verb (form_in rows verb).arguments values ≡ line_by ((form_in rows verb).make values)
in_rows [] verb values t = absurd values
in_rows (row ∷ rows) verb values t = by (bytes_eq verb row.0) refl values (λ more. in_rows rows verb more (ap (λ l. l.1) t))
  where
    by : (b : Bool) → bytes_eq verb row.0 ≡ b → (values : (cond b row.1 (form_in rows verb)).Values)
        → ((more : (form_in rows verb).Values) → spoken verb (form_in rows verb).arguments more ≡ line_by ((form_in rows verb).make more))
        → spoken verb (cond b row.1 (form_in rows verb)).arguments values ≡ line_by ((cond b row.1 (form_in rows verb)).make values)
    by true f values k = ap (λ x. spoken x row.1.arguments values) (same_bytes verb row.0 f) ∙ ap (λ l. l.0 values) t
    by false f values k = k values

spoken_so : (verb : List ℕ) (values : (form_of verb).Values) → spoken verb (form_of verb).arguments values ≡ line_by ((form_of verb).make values)
unfolding form_of
spoken_so [] values = absurd values
spoken_so (b ∷ bs) values = in_rows verbs (b ∷ bs) values same_lines

line_is : (c : Command) (line : Option (List ℕ)) → IsLineOf c line → line ≡ line_by c
line_is c line p = p.3 ∙ spoken_so p.0 p.1 ∙ ap line_by p.2

pub one_line : (c : Command) (a b : Option (List ℕ)) → IsLineOf c a → IsLineOf c b → a ≡ b
one_line c a b p q = line_is c a p ∙ sym (line_is c b q)

pub one_journal : (cs : List Command) (a b : Option (List ℕ)) → IsJournalOf cs a → IsJournalOf cs b → a ≡ b
one_journal [] a b p q = p ∙ sym q
one_journal (c ∷ cs) a b p q = by p.0 q.0 (one_line c p.0 q.0 p.1 q.1) p.2 q.2 (λ s t g h. one_journal cs s t g h)
  where
    by : (s t : Option (List ℕ)) → s ≡ t → IsFollowed s (λ more. IsJournalOf cs more) a → IsFollowed t (λ more. IsJournalOf cs more) b
        → ((s t : Option (List ℕ)) → IsJournalOf cs s → IsJournalOf cs t → s ≡ t) → a ≡ b
    by None None e f g k = f ∙ sym g
    by None (Some t) e f g k = cc e
    by (Some s) None e f g k = cc e
    by (Some s) (Some t) e f g k = f.2 ∙ ap₂ (λ line more. option_map (λ m. line ++ 10 ∷ m) more) (the_same e) (k f.0 g.0 f.1 g.1) ∙ sym g.2
