use Rattle.std.proofs.Common.{◌≡◌, ◌≤◌, ◌-◌, suc, ◌++◌, length, string_bytes}
use Rattle.std.specs.Str.{chars}
use Rattle.rhai_scope.specs.ScopeText.{lines_from, scope_text}
use Rattle.rhai_scope.proofs.shown.text_of.Given as goal

abbrev pub invariant-loop-name : goal.invariant-loop-name
invariant-loop-name l = record {
  within : length l.rest ≤ l.len;
  told : chars (string_bytes l.out) ++ lines_from l.store (suc (l.len - length l.rest)) l.rest ≡ scope_text l.store l.entries;
}

abbrev pub decreases-loop-name : goal.decreases-loop-name
decreases-loop-name l = length l.rest
