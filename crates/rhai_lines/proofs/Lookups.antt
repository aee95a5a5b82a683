-- Finding the verb given by a word.
use Rattle.std.proofs.Common.{◌≡◌, ℕ, ◌==◌, nat_lt, ◌||◌, cond, length, Bool, true, false, List, [], ◌∷◌, None, bytes_eq, refl, sym, ap, ◌∙◌, subst, Result, eq-eqb}
use Rattle.std.proofs.lemmas.Slice.Eq.{bytes_eq-Decides}
use Rattle.rhai_run.specs.declared.command.Command.{Command}
use Rattle.rhai_lines.specs.declared.words.NoCommand.{NoCommand}
use Rattle.rhai_lines.specs.Words.{Left}
use Rattle.rhai_lines.specs.Arguments.{says}
use Rattle.rhai_lines.specs.Verbs.{Form, verbs, form_in, said, said_by}
use Rattle.rhai_lines.specs.Cursor.{Says}

pub same_bytes : (xs ys : List ℕ) → bytes_eq xs ys ≡ true → xs ≡ ys
same_bytes xs ys e = (bytes_eq-Decides xs ys).0 e

-- the result for a text is that for an equal word
pub says_word : (r : Result Command NoCommand) (word text : List ℕ) (left : Left) → bytes_eq word text ≡ true → Says r text left → Says r word left
says_word r word text left e h = subst (λ w. Says r w left) (sym (same_bytes word text e)) h

-- A word in a class of lengths has no command if it is none of the verbs in that class.
abbrev pub Unlike : (ℕ → Bool) → List (List ℕ × Form) → List ℕ → Type 0 → Type 0
Unlike class [] word Goal = Goal
Unlike class (row ∷ rows) word Goal = cond (class (length row.0)) ((word ≡ row.0 → ⊥) → Unlike class rows word Goal) (Unlike class rows word Goal)

differs : (word text : List ℕ) → (word ≡ text → ⊥) → bytes_eq word text ≡ false
differs word text n = by (bytes_eq word text) refl
  where
    by : (b : Bool) → bytes_eq word text ≡ b → bytes_eq word text ≡ false
    by true e = absurd (n (same_bytes word text e))
    by false e = e

behind_row : (b : Bool) (form more : Form) (left : Left) → b ≡ false → said more left ≡ None → said (cond b form more) left ≡ None
behind_row true form more left e h = cc
behind_row false form more left e h = h

unlike : (class : ℕ → Bool) (rows : List (List ℕ × Form)) (word : List ℕ) (left : Left) (Goal : Type 0) → class (length word) ≡ true → (said (form_in rows word) left ≡ None → Goal) → Unlike class rows word Goal
unfolding says
unlike class [] word left Goal t k = k refl
unlike class (row ∷ rows) word left Goal t k = by (class (length row.0)) refl (λ n. unlike class rows word left Goal t (λ h. k (behind_row (bytes_eq word row.0) row.1 (form_in rows word) left (differs word row.0 n) h)))
  where
    by : (b : Bool) → class (length row.0) ≡ b → ((word ≡ row.0 → ⊥) → Unlike class rows word Goal) → cond b ((word ≡ row.0 → ⊥) → Unlike class rows word Goal) (Unlike class rows word Goal)
    by true f more = more
    by false f more = more (λ e. cc (sym f ∙ ap (λ w. class (length w)) (sym e) ∙ t))

said_by_is : (word : List ℕ) (left : Left) → said (form_in verbs word) left ≡ None → said_by word left ≡ None
unfolding said_by
said_by_is [] left h = refl
said_by_is (b ∷ bs) left h = h

pub of_length : (n : ℕ) (word : List ℕ) (left : Left) → length word ≡ n → Unlike (λ k. k == n) verbs word (said_by word left ≡ None)
of_length n word left e = unlike (λ k. k == n) verbs word left (said_by word left ≡ None) (eq-eqb (length word) n e) (said_by_is word left)

-- the lengths without a function
abbrev pub is_other : ℕ → Bool
is_other n = nat_lt n 3 || nat_lt 9 n

pub of_other_length : (word : List ℕ) (left : Left) → is_other (length word) ≡ true → Unlike is_other verbs word (said_by word left ≡ None)
of_other_length word left t = unlike is_other verbs word left (said_by word left ≡ None) t (said_by_is word left)
