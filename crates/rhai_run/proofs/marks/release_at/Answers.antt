use Rattle.std.proofs.Common.{◌≡◌, Some, sym, subst, List}
use Rattle.std.specs.Prelude.{slice_get}
use Rattle.std.proofs.lemmas.Option.{slice_get_read}
use Rattle.rhai_value.specs.declared.cells.store.Cell.{Cell}
use Rattle.rhai_run.specs.Fits.{MarksAre}
use Rattle.rhai_run.proofs.MarkLists.{mark_taken}
use Rattle.rhai_run.proofs.marks.release_at.Goals as goal

pub returns-clause-marks : goal.returns-clause-marks
returns-clause-marks c =
    let w = c.args.marks.now in
    let at : slice_get w.items c.args.k ≡ Some c.remove-token.result = slice_get_read _ _ _ _ w.ok.0 c.requires.within c.remove-token.ensures.value in
    let h = mark_taken c.args.store.now w.items c.args.k c.remove-token.result c.requires.marks at in
    subst (λ (s : List Cell). MarksAre s c.remove-token.new.self.items) (sym c.release.ensures)
    (subst (MarksAre _) (sym c.remove-token.ensures.items) h)
