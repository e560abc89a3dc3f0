use Rattle.std.proofs.Common.{◌≡◌, [], List, subst, sym}
use Rattle.lynx_tree.specs.declared.declaration.TypeName.{TypeName}
use Rattle.lynx_meaning.specs.Needs.{wanted_by}
use Rattle.lynx_meaning.specs.Values.{HaveTypes}
use Rattle.machine_values.specs.Told.{values_of}
use Rattle.machine_values.specs.declared.value.Value.{Value}
use Rattle.machine_thread.specs.Told.{action_of}
use Rattle.lynx_interp.specs.Runs.{IsAsked}
use Rattle.lynx_interp.specs.declared.stop.Stop.{Stop}
use Rattle.machine_loops.proofs.loops.finishes.Goals as goal

pub give-requires-clause-fits : goal.give-requires-clause-fits
give-requires-clause-fits c =
    let asking = subst (λ (s : Stop). IsAsked s c.run.new.self.turns) c.in-Act.is c.in_ok-stop.ensures.asked in
    let none = subst (λ (vs : List Value). HaveTypes [] (values_of vs)) (sym c.new.ensures.items) tt in (
      wanted_by (action_of c.in-Act.action),
      asking,
      subst (λ (ts : List TypeName). HaveTypes ts (values_of c.new.result.items)) (sym (c.in_ok-answered-in-Act.ensures c.run.new.self.types.ops)) none,
    )
