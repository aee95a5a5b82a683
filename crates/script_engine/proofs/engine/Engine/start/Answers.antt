use Rattle.script_engine.proofs.Suited.{none_suits}
use Rattle.script_engine.proofs.engine.Engine.start.Goals as goal

pub returns-in-None-clause-suits : goal.returns-in-None-clause-suits
returns-in-None-clause-suits c = none_suits _ _ c.in-None.is
