use Rattle.std.proofs.Common.{◌≡◌, length, ap, eq-eqb}
use Rattle.rhai_lines.proofs.Results.{OnOk-always}
use Rattle.rhai_lines.proofs.Feeds.{completes_last}
use Rattle.rhai_lines.proofs.lines.finish.Goals as goal

pub returns-clause-done : goal.returns-clause-done
returns-clause-done g c =
    OnOk-always c.map_err.result (completes_last (g.W.Write.contents c.answer_line.new.writer) (g.W.Write.contents c.flush.new.self) (λ e. let none : length c.args.partial.now ≡ 0 = ap length e in cc (eq-eqb (length c.args.partial.now) 0 none)) c.in_ok-answer_line.ensures.answer c.flush.ensures.bytes)
