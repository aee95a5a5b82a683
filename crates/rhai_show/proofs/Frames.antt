-- The text of the frames of a walk that prints, the innermost first.
use Rattle.std.proofs.Common.{◌≡◌, ℕ, ◌++◌, List, [], ◌∷◌, map, reverse, sym, subst, ap, ap₂, ◌∙◌, append_assoc}
use Rattle.std.specs.Str.{chars}
use Rattle.rhai_value.specs.declared.cells.store.Cell.{Cell}
use Rattle.rhai_show.specs.declared.text_far.Frame.{Frame}
use Rattle.rhai_show.specs.Frames.{keyed_printed, frame_text}
use Rattle.rhai_show.specs.Rests.{rest_of, is_held, closed_by, HasOpen, Level, level_of, path_left, HaveOpen}
use Rattle.rhai_show.specs.Text.{printed}
use Rattle.rhai_show.specs.Listed.{listed}
use Rattle.rhai_show.proofs.Commas.{listed_none}
use Rattle.rhai_show.proofs.Rests.{reversed}

abbrev pub text_left : List Cell → List ℕ → List Frame → List ℕ
text_left s path [] = []
text_left s path (f ∷ fs) = frame_text (printed s path) f ++ text_left s (closed_by (is_held f.rest) path) fs

abbrev pub levels : List Frame → List Level
levels fs = map (λ f. level_of f.rest) fs

-- a text between two others
pub around : (start old opens inner ending ends whole : List ℕ) → start ≡ old ++ opens → ending ≡ ends → opens ++ inner ++ ends ≡ whole → start ++ (inner ++ ending) ≡ old ++ whole
around start old opens inner ending ends whole e f g =
    ap₂ (λ x y. x ++ (inner ++ y)) e f ∙ append_assoc old opens (inner ++ ends) ∙ ap (λ x. old ++ x) (sym (append_assoc opens inner ends) ∙ g)

-- A value is being printed: these are its text and the path once nothing remains.
pub record Printing (s : List Cell) (whole first out path : List ℕ) (frames : List Frame) : Type 0 where
  pub text : out ++ text_left s path frames ≡ whole
  pub path_after : path_left path (levels frames) ≡ first
  pub have_open : HaveOpen path (levels frames)

module _ (s : List Cell) (whole first : List ℕ) where
  -- a value is appended
  pub goes_on : (out mid value later path next : List ℕ) (f g : Frame) (fs : List Frame) → Printing s whole first out path (f ∷ fs) → is_held g.rest ≡ is_held f.rest
      → mid ++ (value ++ frame_text (printed s path) g) ≡ out ++ frame_text (printed s path) f → later ≡ mid ++ value → next ≡ path → Printing s whole first later next (g ∷ fs)
  goes_on out mid value later path next f g fs h held step e same =
      let rest = frame_text (printed s path) g in
      let others = text_left s (closed_by (is_held f.rest) path) fs in
      subst (λ p. Printing s whole first later p (g ∷ fs)) (sym same) (record {
        text = ap (λ b. later ++ (rest ++ text_left s (closed_by b path) fs)) held ∙ sym (append_assoc later rest others)
            ∙ ap (λ x. x ++ others) (ap (λ x. x ++ rest) e ∙ append_assoc mid value rest ∙ step) ∙ append_assoc out _ others ∙ h.text;
        path_after = ap (λ b. path_left (closed_by b path) (levels fs)) held ∙ h.path_after;
        have_open = subst (λ b. HasOpen b path × HaveOpen (closed_by b path) (levels fs)) (sym held) h.have_open;
      })

  -- a value is entered
  pub goes_down : (before later path next : List ℕ) (child g : Frame) (fs items : List Frame) → Printing s whole first before path (g ∷ reverse fs) → later ++ frame_text (printed s next) child ≡ before
      → closed_by (is_held child.rest) next ≡ path → HasOpen (is_held child.rest) next → items ≡ fs ++ g ∷ [] → Printing s whole first later next (child ∷ reverse items)
  goes_down before later path next child g fs items h e back own pushed =
      let inner = frame_text (printed s next) child in
      subst (λ xs. Printing s whole first later next (child ∷ xs)) (sym (reversed fs items g pushed)) (record {
        text = ap (λ p. later ++ (inner ++ text_left s p (g ∷ reverse fs))) back ∙ sym (append_assoc later inner _) ∙ ap (λ x. x ++ text_left s path (g ∷ reverse fs)) e ∙ h.text;
        path_after = ap (λ p. path_left p (levels (g ∷ reverse fs))) back ∙ h.path_after;
        have_open = (own, subst (λ p. HaveOpen p (levels (g ∷ reverse fs))) (sym back) h.have_open);
      })

  -- a value is finished
  pub goes_up : (out mid later path next : List ℕ) (f g : Frame) (fs : List Frame) → Printing s whole first out path (f ∷ fs) → is_held g.rest ≡ is_held f.rest → rest_of g.rest ≡ []
      → mid ++ frame_text (printed s path) g ≡ out ++ frame_text (printed s path) f → later ≡ mid ++ chars g.ending.now → next ≡ closed_by (is_held g.rest) path → Printing s whole first later next fs
  goes_up out mid later path next f g fs h held none step e back =
      let own = keyed_printed g.form (printed s path) in
      let ends : frame_text (printed s path) g ≡ chars g.ending.now = ap (λ x. x ++ chars g.ending.now) (ap (listed own g.is_first) none ∙ listed_none own g.is_first) in
      let others = text_left s (closed_by (is_held f.rest) path) fs in
      subst (λ p. Printing s whole first later p fs) (sym (back ∙ ap (λ b. closed_by b path) held)) (record {
        text = ap (λ x. x ++ others) (e ∙ ap (λ x. mid ++ x) (sym ends) ∙ step) ∙ append_assoc out _ others ∙ h.text;
        path_after = h.path_after;
        have_open = h.have_open.1;
      })

-- the next value, with the text before it, and then the others and the text after them
pub one_taken : (later value left out before ending : List ℕ) → (later ++ value) ++ left ≡ out ++ before → later ++ (value ++ (left ++ ending)) ≡ out ++ (before ++ ending)
one_taken later value left out before ending e =
    sym (append_assoc later value (left ++ ending)) ∙ sym (append_assoc (later ++ value) left ending)
    ∙ ap (λ x. x ++ ending) e ∙ append_assoc out before ending
