use Rattle.rhai_run.specs.declared.command.Command.TheVariants as command
use Rattle.rhai_run.proofs.world.World.read_marked.Goals as goal

pub invariant_of-self : goal.invariant_of-self
invariant_of-self c = c.methods_fit.ensures _ _ _ (command.ReadMarked _) c.self.invariant c.read_marked.ensures
