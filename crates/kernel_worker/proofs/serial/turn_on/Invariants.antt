use Rattle.std.proofs.Common.{◌≡◌, ◌⊎◌, All}
use Rattle.kernel_turns.specs.Amid.{IsSomeNode}
use Rattle.kernel_worker.specs.Awake.{AreIdle}
use Rattle.kernel_worker.specs.Rounds.{EachOf, GoesOn, Works, all_left}
use Rattle.kernel_worker.proofs.serial.turn_on.Given as goal

abbrev pub invariant-again : goal.invariant-again
invariant-again g l =
    record {
      some : All (IsSomeNode (record { step = g.P.Program.step; state = g.P.Program.state; last = g.P.Program.last; version = g.P.Program.version }) g.W.Watch.HasSeen) l.nodes;
      goes : EachOf (GoesOn (record { step = g.P.Program.step; state = g.P.Program.state; last = g.P.Program.last; version = g.P.Program.version }) g.W.Watch.HasSeen g.W.Watch.made) l.fn.nodes l.nodes;
      idle : AreIdle l.awake 0 l.nodes;
      works : (l.nodes ≡ l.fn.nodes) ⊎ EachOf Works l.fn.nodes l.nodes;
    }

abbrev pub decreases-again : goal.decreases-again
decreases-again g l = all_left l.nodes
