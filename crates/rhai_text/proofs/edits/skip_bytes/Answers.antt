use Rattle.std.proofs.Common.{rules, ◌∙◌}
use Rattle.std.proofs.lemmas.Str.{IsCharBoundary-from_ascii}
use Rattle.rhai_text.proofs.Texts.{drop_encodes, nothing_encodes}
use Rattle.rhai_text.proofs.edits.skip_bytes.Goals as goal

pub returns-then-text-count : goal.returns-then-text-count
returns-then-text-count c = nothing_encodes c.args.text.now c.args.count c.requires (search rules)

pub split_at-requires : goal.split_at-requires
split_at-requires c = IsCharBoundary-from_ascii c.args.text.now c.args.count c.requires (search rules)

pub returns : goal.returns
returns c = c.split_at.ensures.back ∙ drop_encodes c.args.text.now c.args.count c.requires
