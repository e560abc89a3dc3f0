use Rattle.plan_run.proofs.Making.{are_ready, within-turns}
use Rattle.plan_run.proofs.nodes.nodes_of.Goals as goal

pub start_nodes-requires-clause-orders : goal.start_nodes-requires-clause-orders
start_nodes-requires-clause-orders g c = within-turns c.args.turns c.in_ok-parts.parts.items c.requires.turns c.in_ok-parts.ensures.limit

pub returns : goal.returns
returns g c =
    are_ready (record { step = g.P.Program.step; state = g.P.Program.state; last = g.P.Program.last; version = g.P.Program.version }) c.args.setting.now c.args.programs.items c.args.turns c.in_ok-nodes.nodes.items c.in_ok-parts.parts.items
    c.in_ok-nodes.ensures.nodes c.in_ok-nodes.ensures.unspoiled c.in_ok-nodes.ensures.parts c.in_ok-parts.ensures.limit
