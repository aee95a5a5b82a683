-- Without a script there is none for the present variables.
use Rattle.std.proofs.Common.{◌≡◌, ◌↔◌, false, Option, Some, None, IsTrue}
use Rattle.script_code.specs.declared.program.Program.{Program}
use Rattle.script_run.specs.Variables.{Variables}
use Rattle.script_engine.specs.Engines.{Suits}

pub none_suits : (o : Option Program) (v : Variables) → o ≡ None → IsTrue false ↔ Suits o v
none_suits None v e = (λ t. cc, λ s. absurd s)
none_suits (Some p) v e = cc
