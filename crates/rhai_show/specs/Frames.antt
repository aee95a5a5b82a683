-- The text of the remaining part of a value being printed.
use Rattle.std.specs.Prelude.{ℕ, List, ◌++◌, Option, Some, None}
use Rattle.std.specs.Str.{chars}
use Rattle.rhai_value.specs.Tree.{Tree}
use Rattle.rhai_show.specs.declared.form.Form.{Form}
use Rattle.rhai_show.specs.declared.text_far.Frame.{Frame}
use Rattle.rhai_show.specs.Listed.{listed}
use Rattle.rhai_show.specs.Rests.{Keyed, rest_of}
use Rattle.rhai_show.specs.Text.{field_printed}

-- a text after its key, if it has one
abbrev pub behind_key : Form → Option (List ℕ) → List ℕ → List ℕ
behind_key form None text = text
behind_key form (Some k) text = field_printed form (chars k) text

-- a value after its key, where f gives the text of a value
abbrev pub keyed_printed : Form → (Tree → Form → List ℕ) → Keyed → List ℕ
keyed_printed form f c = behind_key form c.0 (f c.1 form)

-- the remaining values, separated by commas, and the text that ends them
abbrev pub frame_text : (Tree → Form → List ℕ) → Frame → List ℕ
frame_text f frame = listed (keyed_printed frame.form f) frame.is_first (rest_of frame.rest) ++ chars frame.ending.now
