use Rattle.std.proofs.Common.{arith, rules, sym}
use Rattle.machine_stack.specs.Stacks.{variable_value}
use Rattle.machine_stack.proofs.Kept.{found_there, set_there}
use Rattle.machine_stack.proofs.variables.Variables.set_member.Goals as goal

pub returns : goal.returns
returns c = (
  variable_value c.index_mut.result.now,
  variable_value c.set_member.new.self,
  found_there
      c.self.inside.variables.items
      c.args.self.now
      c.args.slot
      c.index_mut.result.now
      (sym c.self.view_is)
      c.requires
      c.index_mut.ensures.value,
  set_there c.self.inside.variables.items c.args.self.now c.args.slot c.set_member.new.self (sym c.self.view_is),
  first_of (search (rules, c.set_member.ensures), grind (arith, c.set_member.ensures), search (rules, c.set_member.ensures, c.index_mut.ensures)),
)
