use mir.Syntax.{w64}
use mir.Val.{of_z, to_z}
use Rattle.rhai_run.specs.declared.command.Command.TheVariants as command
use Rattle.rhai_run.proofs.world.World.write_field.Goals as goal

pub invariant_of-self : goal.invariant_of-self
invariant_of-self c = c.methods_fit.ensures _ _ _ (command.WriteField _ (to_z w64 (of_z w64 c.args.mask)) c.args.shift c.args.j) c.self.invariant c.write_field.ensures
