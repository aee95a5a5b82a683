use Rattle.std.proofs.Common.{◌∙◌, ◌++◌, ◌∷◌, [], ap, refl, sym, append_assoc}
use Rattle.std.proofs.lemmas.Result.{err_from_is_err_and}
use Rattle.rhai_lines.proofs.Feeds.{feeds_line, feeds_more, stops_within}
use Rattle.rhai_lines.proofs.lines.feed.Goals as goal

pub returns-in_err-answer_whole-clause-fault : goal.returns-in_err-answer_whole-clause-fault
returns-in_err-answer_whole-clause-fault g c =
    let p = err_from_is_err_and c.from_residual.result c.from_residual.ensures.1 in
    let i = c.loop-line.invariant in
    rw (p.1, p.2, i.1) (λ k. stops_within i.0 c.loop-line.left.now (g.W.Write.contents c.answer_whole.new.writer) i.2 (c.in_err-answer_whole.ensures.fault k))

pub returns-then-is_err-clause-fault : goal.returns-then-is_err-clause-fault
returns-then-is_err-clause-fault g c =
    let i = c.loop-line.invariant in
    rw i.1 (λ _. stops_within i.0 c.loop-line.left.now (g.W.Write.contents c.loop-line.writer) i.2 refl)

pub loop-line-preserved : goal.loop-line-preserved
loop-line-preserved g c =
    let i = c.loop-line.invariant in
    let cut = c.in-Some.ensures.some in
    let line = c.in-Some.line.now in
    let rest = c.in-Some.rest.now in
    let done = c.in_ok-answer_whole.ensures in (
      i.0 ++ (line ++ 10 ∷ []),
      i.1 ∙ ap (λ left. i.0 ++ left) cut.0 ∙ sym (append_assoc i.0 (line ++ 10 ∷ []) rest ∙ ap (λ left. i.0 ++ left) (append_assoc line (10 ∷ []) rest)),
      rw done.none (feeds_more i.0 (line ++ 10 ∷ []) i.2 (feeds_line line (g.W.Write.contents c.answer_whole.new.writer) cut.1 done.state done.answer)),
    )
