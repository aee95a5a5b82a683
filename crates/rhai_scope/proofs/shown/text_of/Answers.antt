use Rattle.std.proofs.Common.{ap, ◌∙◌, arith}
use Rattle.std.specs.Str.{chars}
use Rattle.rhai_scope.proofs.Lines.{lines_begin}
use Rattle.rhai_scope.proofs.Names.{no_characters}
use Rattle.rhai_scope.proofs.shown.text_of.Goals as goal

pub loop-name-init : goal.loop-name-init
loop-name-init c = record {
  within = omega (arith, c.len-len.ensures);
  told = lines_begin c.args.store.now _ c.of-rest.result c.len-len.result _ (ap chars c.new-out.ensures.bytes ∙ no_characters) c.len-len.ensures c.of-rest.ensures;
}
