-- One way more.
use Rattle.transcript_items.proofs.Ways.{adds-more}
use Rattle.transcript_items.specs.Texts.{way_with_packet}
use Rattle.transcript_items.proofs.kept.add_ways.Goals as goal

pub loop-from-preserved : goal.loop-from-preserved
loop-from-preserved g c =
    adds-more (way_with_packet (g.K.Kernels.kept c.args.kernels.now) c.args.to) c.loop-from.from c.args.ways.now.items c.loop-from.ways.items c.add_way.new.ways.items c.loop-from.invariant c.in_ok-add_way.ensures
