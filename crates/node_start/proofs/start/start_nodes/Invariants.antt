use Rattle.std.proofs.Common.{ℕ, map}
use Rattle.kernel_net.specs.Ports.{place_of}
use Rattle.node_start.proofs.Started.{AreStarted}
use Rattle.node_start.proofs.start.start_nodes.Given as goal

abbrev pub invariant-loop-part : goal.invariant-loop-part
invariant-loop-part g l =
    (capacity : ℕ) × AreStarted (record { step = g.P.Program.step; state = g.P.Program.state; last = g.P.Program.last; version = g.P.Program.version }) g.W.Watch.HasSeen l.fn.setting l.fn.programs.items capacity
    (map place_of l.fn.ports.items) l.fn.parts.items (map (λ list. list.items) l.initial.lists.items) l.number l.nodes.items (map (λ list. list.items) l.lists.items) l.ports.items l.part-iterator.rest.items
