use Rattle.rhai_run.specs.declared.command.Command.TheVariants as command
use Rattle.rhai_run.proofs.world.World.write_byte.Goals as goal

pub invariant_of-self : goal.invariant_of-self
invariant_of-self c = c.methods_fit.ensures _ _ _ (command.WriteByte _ _ _) c.self.invariant c.write_byte.ensures
