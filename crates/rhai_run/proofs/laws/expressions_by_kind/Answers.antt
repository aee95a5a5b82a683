use Rattle.std.proofs.Common.{ap, ◌∙◌, ◌∷◌, [], map}
use Rattle.std.proofs.lemmas.List.{length-map}
use Rattle.rhai_run.specs.declared.command.Command.TheVariants as command
use Rattle.rhai_run.specs.Expressions.Programs.{all, sequence, program_of}
use Rattle.rhai_run.proofs.Expressions.Meant.{program_of-Literal, program_of-Var, program_of-Op, program_of-Array, program_of-Let, program_of-Const, program_of-Set, program_of-Update, program_of-Capture, program_of-Closure, program_of-Block}
use Rattle.rhai_run.proofs.laws.expressions_by_kind.Goals as goal

pub returns-clause-literal : goal.returns-clause-literal
returns-clause-literal c l w = program_of-Literal l w

pub returns-clause-variable : goal.returns-clause-variable
returns-clause-variable c x w = program_of-Var x w

pub returns-clause-operator : goal.returns-clause-operator
returns-clause-operator c t a b w = program_of-Op t a b w

pub returns-clause-array : goal.returns-clause-array
returns-clause-array c items w =
    program_of-Array items w ∙ ap (λ n. sequence (sequence (map program_of items.items) ∷ all (command.MakeArray n ∷ []) ∷ []) w) (length-map items.items program_of)

pub returns-clause-variable_made : goal.returns-clause-variable_made
returns-clause-variable_made c x e w = program_of-Let x e w

pub returns-clause-constant_made : goal.returns-clause-constant_made
returns-clause-constant_made c x e w = program_of-Const x e w

pub returns-clause-written : goal.returns-clause-written
returns-clause-written c x e w = program_of-Set x e w

pub returns-clause-updated : goal.returns-clause-updated
returns-clause-updated c t x e w = program_of-Update t x e w

pub returns-clause-captured : goal.returns-clause-captured
returns-clause-captured c x w = program_of-Capture x w

pub returns-clause-closure : goal.returns-clause-closure
returns-clause-closure c f names w = program_of-Closure f names w

pub returns-clause-block : goal.returns-clause-block
returns-clause-block c parts w = program_of-Block parts w
