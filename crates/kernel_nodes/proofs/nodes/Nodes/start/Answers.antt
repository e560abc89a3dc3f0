use Rattle.std.proofs.Common.{◌+◌, List, sym, subst, arith}
use Rattle.kernel_nodes.specs.declared.node.Node.{Node}
use Rattle.kernel_nodes.proofs.Started.{IsStarting, starting-none, starting-more}
use Rattle.kernel_nodes.proofs.nodes.Nodes.start.Goals as goal

pub loop-id-init : goal.loop-id-init
loop-id-init c = subst (λ (ns : List Node). IsStarting c.args.setting.now 0 ns) (sym c.new-nodes.ensures.items) (starting-none c.args.setting.now)

pub loop-id-preserved : goal.loop-id-preserved
loop-id-preserved c =
    let node = c.in_ok-start.ensures in
    subst (λ (ns : List Node). IsStarting c.args.setting.now (c.loop-id.id + 1) ns) (sym c.in_ok-push.ensures.items)
    (starting-more c.args.setting.now c.loop-id.id c.loop-id.nodes.items c.in_ok-start.field-0 c.loop-id.invariant node.state node.sent node.node)

pub returns-clause-nodes : goal.returns-clause-nodes
returns-clause-nodes c = record { count = omega (arith, c.loop-id.invariant.count); nodes = c.loop-id.invariant.nodes }

pub returns-clause-start : goal.returns-clause-start
returns-clause-start c = c.loop-id.invariant.world
