use Rattle.kernel_worker.specs.Ends.{AreSomeNodes}
use Rattle.kernel_worker.specs.Rounds.{EachOf, GoesOn, all_left}
use Rattle.kernel_worker.proofs.rounds.run_in_rounds.Given as goal

abbrev pub invariant-rounds : goal.invariant-rounds
invariant-rounds g l =
    record {
      some : AreSomeNodes (record { step = g.P.Program.step; state = g.P.Program.state; last = g.P.Program.last; version = g.P.Program.version }) g.W.Watch.HasSeen l.nodes;
      goes : EachOf (GoesOn (record { step = g.P.Program.step; state = g.P.Program.state; last = g.P.Program.last; version = g.P.Program.version }) g.W.Watch.HasSeen g.W.Watch.made) l.fn.nodes l.nodes;
    }

abbrev pub decreases-rounds : goal.decreases-rounds
decreases-rounds g l = all_left l.nodes
