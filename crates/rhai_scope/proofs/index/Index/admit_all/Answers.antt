use Rattle.std.proofs.Common.{sym, ◌∙◌}
use Rattle.rhai_scope.specs.Index.{names_of}
use Rattle.rhai_scope.proofs.Indexed.{all_listed, whatever}
use Rattle.rhai_scope.proofs.EntryNames.{length_names}
use Rattle.rhai_scope.proofs.index.Index.admit_all.Goals as goal

pub returns-in_err-push_all-clause-err : goal.returns-in_err-push_all-clause-err
returns-in_err-push_all-clause-err g c =
    let all = c.in_ok-list_all.ensures.ok in
    let ns = names_of c.args.entries.now in
    let len = length_names c.args.entries.now ∙ sym all.0 in
    whatever c.from_residual-in_err-push_all.result
    (all_listed c.list_all.new.self.indexed c.push_all.new.self ns (sym len) (c.in_err-push_all.ensures.err ns len all.1))
