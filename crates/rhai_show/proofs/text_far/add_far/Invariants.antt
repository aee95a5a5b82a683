use Rattle.std.proofs.Common.{◌++◌, ◌∷◌, reverse, string_bytes}
use Rattle.std.specs.Str.{chars}
use Rattle.rhai_show.specs.Text.{printed}
use Rattle.rhai_show.proofs.Frames.{Printing, levels}
use Rattle.rhai_show.proofs.Rests.{weight_left}
use Rattle.rhai_show.proofs.text_far.add_far.Given as goal

abbrev pub invariant-loop-frames : goal.invariant-loop-frames
invariant-loop-frames l = Printing l.store (chars (string_bytes l.fn.out) ++ printed l.store l.fn.path l.value l.fn.form) l.fn.path (chars (string_bytes l.out)) l.path (l.top ∷ reverse l.frames.items)

abbrev pub decreases-loop-frames : goal.decreases-loop-frames
decreases-loop-frames l = weight_left l.store l.path (levels (l.top ∷ reverse l.frames.items))
