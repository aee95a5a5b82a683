use Rattle.std.proofs.Common.{[], ◌∷◌, sym, ◌∙◌, arith}
use Rattle.std.proofs.lemmas.Result.{on_ok_weaker}
use Rattle.rhai_scope.specs.Index.{names_of}
use Rattle.rhai_scope.proofs.Indexed.{all_listed, either, listed_with, walked_with}
use Rattle.rhai_scope.proofs.EntryNames.{length_names}
use Rattle.rhai_scope.proofs.index.Index.admit_one.Goals as goal

pub returns-then-walked-lt-WALKED_ENTRIES-clause-ok : goal.returns-then-walked-lt-WALKED_ENTRIES-clause-ok
returns-then-walked-lt-WALKED_ENTRIES-clause-ok c = λ name.
    let x = c.args.self.now in
    let long = length_names c.args.entries.now in
    walked_with x.indexed x.places (names_of c.args.entries.now) (name ∷ []) c.requires (omega (arith, c.requires.within, c.requires.few))

pub returns-clause-ok : goal.returns-clause-ok
returns-clause-ok c =
    on_ok_weaker c.list_all.result
    (λ all name. listed_with c.list_all.new.self.indexed c.list_all.new.self.places (names_of c.args.entries.now) (name ∷ []) (all.0 ∙ sym (length_names c.args.entries.now)) all.1 (omega arith))
    c.list_all.ensures.ok

pub returns-clause-index : goal.returns-clause-index
returns-clause-index c =
    either c.list_all.result
    (on_ok_weaker c.list_all.result (λ all. all_listed c.list_all.new.self.indexed c.list_all.new.self.places (names_of c.args.entries.now) (all.0 ∙ sym (length_names c.args.entries.now)) all.1) c.list_all.ensures.ok)
    c.list_all.ensures.err
