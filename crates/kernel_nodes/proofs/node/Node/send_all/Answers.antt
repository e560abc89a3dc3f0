-- The first packets are sent, and then those behind them.
use Rattle.std.proofs.Common.{sym, subst}
use Rattle.kernel_named.specs.Named.{GoWithin}
use Rattle.kernel_nodes.proofs.Targets.{back-there, front-there, within-same}
use Rattle.kernel_nodes.proofs.node.Node.send_all.Goals as goal

pub send_first-requires : goal.send_first-requires
send_first-requires c = front-there _ _ _ (subst (GoWithin _) c.open-first.ensures.parts c.requires)

pub send_behind-requires : goal.send_behind-requires
send_behind-requires c = within-same _ _ _ (sym c.in_ok-sent.ensures.lists) (back-there _ _ _ (subst (GoWithin _) c.open-first.ensures.parts c.requires))
