use Rattle.std.proofs.Common.{rules, map, string_bytes}
use Rattle.std.specs.BTreeMap.{is_at}
use Rattle.std.specs.Cmp.Lexicographic.{slice_cmp}
use Rattle.std.specs.Ordering.{nat_cmp}
use Rattle.rhai_scope.specs.NameIndex.{lowered}
use Rattle.rhai_scope.proofs.Listed.{all_changed}
use Rattle.rhai_scope.proofs.name_index.NameIndex.lower.Goals as goal

pub returns-clause-lists : goal.returns-clause-lists
returns-clause-lists c = λ q. all_changed _ (map (lowered c.args.gone)) _ (λ k v b w f t. search rules) (is_at (λ k. slice_cmp nat_cmp q (string_bytes k))) _ _ c.retain.ensures.filtered
