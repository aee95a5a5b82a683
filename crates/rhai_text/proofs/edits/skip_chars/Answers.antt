use Rattle.std.proofs.Common.{length, sym, ◌∙◌, ap, arith}
use Rattle.std.proofs.lemmas.Str.{encodes-chars}
use Rattle.std.specs.Str.{chars}
use Rattle.rhai_text.proofs.Texts.{encodes-drop_next, encodes-drop_past}
use Rattle.rhai_text.proofs.edits.skip_chars.Goals as goal

pub loop-init : goal.loop-init
loop-init c = c.chars-rest.ensures.rest ∙ sym (encodes-chars c.args.text.now c.utf8.text)

pub loop-preserved : goal.loop-preserved
loop-preserved c =
    encodes-drop_next (chars c.args.text.now) c.next.new.self.rest.now c.loop.counter c.in-Some.field-0 (sym c.loop.invariant ∙ c.in-Some.ensures.steps.0)

pub returns-in-None : goal.returns-in-None
returns-in-None c =
    encodes-drop_past (chars c.args.text.now) c.loop.counter c.args.count (ap length (sym c.loop.invariant) ∙ c.in-None.ensures.steps.0.0) (omega arith)
