use Rattle.std.proofs.Common.{arith}
use Rattle.std.specs.Str.{chars}
use Rattle.rhai_scope.proofs.Indexed.{listed_gone, walked_gone}
use Rattle.rhai_scope.proofs.index.Index.remove.Goals as goal

pub returns-then-place-self : goal.returns-then-place-self
returns-then-place-self c = λ ms ns is x.
    let p = c.args.self.now.places in
    listed_gone p c.remove.new.self c.args.self.now.indexed c.args.place ms ns (chars c.args.name.now) is x (omega arith) (λ ks stood. c.remove.ensures ms ks is stood)

pub returns-else-place-self : goal.returns-else-place-self
returns-else-place-self c = λ ms ns is x.
    let p = c.args.self.now.places in
    walked_gone p p c.args.self.now.indexed c.args.place ms ns (chars c.args.name.now) is x (omega arith)
