use Rattle.std.proofs.Common.{◌≡◌, Ok, sym, subst, rules}
use Rattle.rhai_value.specs.Tree.{fresh, int}
use Rattle.rhai_run.specs.WriteBack.{IsWorking}
use Rattle.rhai_run.proofs.WorkingValues.{working_field}
use Rattle.rhai_run.proofs.pieces.Piece.working.Goals as goal

pub returns-in-Ok-as_int : goal.returns-in-Ok-as_int
returns-in-Ok-as_int c =
    let made : c.from_int.result ≡ fresh (int c.in-Ok-as_int.bits) = search rules in
    subst (λ p. IsWorking p (Ok c.from_int.result) c.args.store.now c.args.value.now) (sym c.in-Field.is)
    (working_field c.args.store.now c.args.value.now c.from_int.result c.in-Ok-as_int.bits c.in-Field.field-0 c.in-Field.field-1 c.in-Ok-as_int.ensures.ok made)
