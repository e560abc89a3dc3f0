use Rattle.quiet_nodes.proofs.Bare.{quiet-bare}
use Rattle.quiet_nodes.proofs.law.quiet_nodes_are_bare.Goals as goal

pub returns : goal.returns
returns g c = quiet-bare (record { step = g.P.Program.step; state = g.P.Program.state; last = g.P.Program.last; version = g.P.Program.version }) g.W.Watch.HasSeen
