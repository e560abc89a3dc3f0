use denote.Param.Send.{sendable}
use Rattle.std.proofs.Common.{rules}
use Rattle.kernel_worker.proofs.Crossing.{node-send}
use Rattle.kernel_worker.proofs.Each.{each-from}
use Rattle.kernel_worker.specs.Rounds.{GoesOn, WorksUnspoiled}
use Rattle.kernel_worker.proofs.rounds.work_each.Goals as goal

pub for_each_mut-requires-send-T : goal.for_each_mut-requires-send-T
for_each_mut-requires-send-T g c κs within = search (node-send, sendable) depth 30

pub returns-clause-goes : goal.returns-clause-goes
returns-clause-goes g c =
    each-from (GoesOn (record { step = g.P.Program.step; state = g.P.Program.state; last = g.P.Program.last; version = g.P.Program.version }) g.W.Watch.HasSeen g.W.Watch.made) c.args.nodes.now c.for_each_mut.new.s (search rules) (λ i d below. let is = c.for_each_mut.ensures i d below in search rules)

pub returns-clause-works : goal.returns-clause-works
returns-clause-works g c =
    each-from WorksUnspoiled c.args.nodes.now c.for_each_mut.new.s (search rules) (λ i d below. let is = c.for_each_mut.ensures i d below in search rules)
