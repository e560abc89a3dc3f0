use Rattle.std.proofs.Common.{sym}
use Rattle.machine_stack.specs.Stacks.{variable_value}
use Rattle.machine_stack.proofs.Kept.{set_there}
use Rattle.machine_stack.proofs.variables.Variables.store.Goals as goal

pub returns : goal.returns
returns c = (
  variable_value c.take.new.self,
  c.take.ensures,
  set_there c.self.inside.variables.items c.args.self.now c.args.slot c.take.new.self (sym c.self.view_is),
)
