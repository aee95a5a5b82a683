use Rattle.std.proofs.Common.{ap}
use Rattle.std.proofs.lemmas.Result.{err_from_is_err_and}
use Rattle.rhai_lines.specs.Cursor.{left_in}
use Rattle.rhai_lines.proofs.WordLists.{lacks, found-next, first-kept}
use Rattle.rhai_lines.proofs.args.list.Goals as goal

pub returns-in_err-item-clause-err : goal.returns-in_err-item-clause-err
returns-in_err-item-clause-err g c =
    let p = err_from_is_err_and c.from_residual.result c.from_residual.ensures.1 in
    let e = c.first_word.ensures in
    rw (p.1, p.2) (lacks g.A.Item.said c.in_err-item.field-0.0 _ _ _ _ _ c.loop-left.invariant.found c.loop-left.invariant.first (ap left_in c.in-Some.is) e.word c.in_err-item.ensures)

pub loop-left-preserved : goal.loop-left-preserved
loop-left-preserved g c =
    let e = c.first_word.ensures in
    let is = ap left_in c.in-Some.is in
    record {
      found = found-next g.A.Item.said _ _ _ _ _ _ _ _ c.loop-left.invariant.found is e.word e.left c.in_ok-item.ensures (rw c.if-is_err.ensures.negation at c.push.ensures.items);
      first = first-kept g.A.Item.said _ _ _ _ _ _ c.loop-left.invariant.first is e.word c.in_ok-item.ensures;
    }
