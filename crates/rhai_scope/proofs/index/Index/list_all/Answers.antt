use Rattle.std.proofs.Common.{take, refl}
use Rattle.rhai_scope.specs.Index.{names_of}
use Rattle.rhai_scope.proofs.Indexed.{first_again, length_first, listed_first, listed_others, whatever}
use Rattle.rhai_scope.proofs.index.Index.list_all.Goals as goal

pub returns-clause-ok : goal.returns-clause-ok
returns-clause-ok c =
    let x = c.args.self.now in
    let es = c.args.entries.now in
    (refl, listed_others x es c.requires c.push_all.new.self (c.in_ok-push_all.ensures.ok (names_of (take x.indexed es)) (length_first x es c.requires) (listed_first x es c.requires)))

pub returns-in_err-push_all-clause-err : goal.returns-in_err-push_all-clause-err
returns-in_err-push_all-clause-err c =
    let x = c.args.self.now in
    let es = c.args.entries.now in
    whatever c.from_residual.result
    (first_again x es c.requires c.push_all.new.self (c.in_err-push_all.ensures.err (names_of (take x.indexed es)) (length_first x es c.requires) (listed_first x es c.requires)))
