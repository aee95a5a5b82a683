use Rattle.std.proofs.Common.{arith}
use Rattle.rhai_scope.proofs.Indexed.{rewound}
use Rattle.rhai_scope.proofs.index.Index.rewind.Goals as goal

pub returns-else-size-self : goal.returns-else-size-self
returns-else-size-self c = rewound c.args.self.now c.args.entries.now c.requires c.args.size (omega arith)
