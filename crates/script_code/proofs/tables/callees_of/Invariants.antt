use Rattle.std.proofs.Common.{◌≡◌, vec_len}
use Rattle.script_code.proofs.tables.callees_of.Given as goal

abbrev pub invariant-loop-callee : goal.invariant-loop-callee
invariant-loop-callee l = vec_len l.callees ≡ l.callee-index
