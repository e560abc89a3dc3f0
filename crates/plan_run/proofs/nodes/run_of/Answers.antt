use Rattle.plan_run.proofs.Making.{ended-by}
use Rattle.plan_run.proofs.nodes.run_of.Goals as goal

pub returns-then-serial : goal.returns-then-serial
returns-then-serial g c =
    ended-by (record { step = g.P.Program.step; state = g.P.Program.state; last = g.P.Program.last; version = g.P.Program.version }) _ c.args.nodes.now.items c.run_serial.new.nodes.items c.run_serial.result c.run_serial.ensures.goes c.run_serial.ensures.run c.run_serial.ensures.met c.run_serial.ensures.ends

pub returns-else-serial : goal.returns-else-serial
returns-else-serial g c =
    ended-by (record { step = g.P.Program.step; state = g.P.Program.state; last = g.P.Program.last; version = g.P.Program.version }) _ c.args.nodes.now.items c.run_nodes.new.nodes.items c.run_nodes.result c.run_nodes.ensures.goes c.run_nodes.ensures.run c.run_nodes.ensures.met c.run_nodes.ensures.ends
