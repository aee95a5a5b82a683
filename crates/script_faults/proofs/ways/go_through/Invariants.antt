use Rattle.std.proofs.Common.{◌≡◌, length, vec_len}
use Rattle.script_faults.proofs.ways.go_through.Given as goal

-- each open cell has the work list of the walk around it
abbrev pub invariant-loop : goal.invariant-loop
invariant-loop l = length l.path ≡ vec_len l.outer
