use Rattle.std.proofs.Common.{arith}
use Rattle.lynx_printer.proofs.Lists.{each_step, each_end}
use Rattle.lynx_printer.proofs.print_all.push_all.Goals as goal

pub loop-item-preserved : goal.loop-item-preserved
loop-item-preserved g c =
    each_step (g.T.Declaration.marks c.args.keyword) c.args.all.now c.loop-item.item-index c.item-item.result c.loop-item.out.items c.push.new.out.items _ (omega arith) c.item-item.is c.in_ok-push.ensures c.loop-item.invariant

pub returns : goal.returns
returns g c = each_end (g.T.Declaration.marks c.args.keyword) c.args.all.now c.loop-item.item-index c.args.out.now.items c.loop-item.out.items (omega arith) c.loop-item.invariant
