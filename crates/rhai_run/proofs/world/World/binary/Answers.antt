use Rattle.rhai_run.specs.declared.command.Command.TheVariants as command
use Rattle.rhai_run.proofs.world.World.binary.Goals as goal

pub invariant_of-self : goal.invariant_of-self
invariant_of-self c = c.methods_fit.ensures _ _ _ (command.Binary _ _ _) c.self.invariant c.binary.ensures
