use Rattle.std.proofs.Common.{◌≡◌, ◌≤◌, length, take, vec_capacity}
use Rattle.rhai_value.proofs.cells.copy.copied_tokens.Given as goal

abbrev pub invariant-loop-token : goal.invariant-loop-token
invariant-loop-token l = record {
  room : length l.tokens ≤ vec_capacity l.copies;
  copied : l.copies.items ≡ take l.token-index l.tokens;
}
