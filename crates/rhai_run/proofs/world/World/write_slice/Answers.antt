use Rattle.rhai_run.specs.declared.command.Command.TheVariants as command
use Rattle.rhai_run.proofs.world.World.write_slice.Goals as goal

pub invariant_of-self : goal.invariant_of-self
invariant_of-self c = c.methods_fit.ensures _ _ _ (command.WriteSlice _ c.args.start c.args.end c.args.exclusive c.args.j) c.self.invariant c.write_slice.ensures
