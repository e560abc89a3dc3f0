use Rattle.std.proofs.Common.{arith, ◌∙◌}
use Rattle.lynx_rt.proofs.Faults.{fault_step}
use Rattle.lynx_rt.proofs.process.Running.link_fault.Goals as goal

pub loop-place-preserved : goal.loop-place-preserved
loop-place-preserved c = fault_step c.in-Some.end c.args.links.now c.loop-place.place c.args.self.now (omega arith) c.in_default-fault_of.ensures ∙ c.loop-place.invariant
