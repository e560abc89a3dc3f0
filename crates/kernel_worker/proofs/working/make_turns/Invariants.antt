use Rattle.std.proofs.Common.{◌≡◌, ◌⊎◌, ◌+◌, ◌-◌, ◌*◌, ◌<◌}
use Rattle.kernel_turns.specs.Amid.{IsSomeNode}
use Rattle.kernel_turns.specs.Left.{weight}
use Rattle.kernel_worker.specs.Rounds.{GoesOn, Works}
use Rattle.kernel_worker.proofs.working.make_turns.Given as goal

abbrev pub invariant-turns : goal.invariant-turns
invariant-turns g l =
    record {
      some : IsSomeNode (record { step = g.P.Program.step; state = g.P.Program.state; last = g.P.Program.last; version = g.P.Program.version }) g.W.Watch.HasSeen l.node;
      goes : GoesOn (record { step = g.P.Program.step; state = g.P.Program.state; last = g.P.Program.last; version = g.P.Program.version }) g.W.Watch.HasSeen g.W.Watch.made l.fn.node l.node;
      works : (l.node ≡ l.fn.node) ⊎ Works l.fn.node l.node;
      idle : l.idle.turns < 16384;
    }

abbrev pub decreases-turns : goal.decreases-turns
decreases-turns g l = weight l.node.base * 16385 + (16384 - l.idle.turns)
