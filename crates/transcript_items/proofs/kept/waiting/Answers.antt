-- The ways to one kernel more.
use Rattle.std.proofs.Common.{[]}
use Rattle.transcript_items.proofs.Ways.{adds-more}
use Rattle.transcript_items.specs.Texts.{ways_to}
use Rattle.transcript_items.proofs.kept.waiting.Goals as goal

pub loop-to-preserved : goal.loop-to-preserved
loop-to-preserved g c =
    adds-more (ways_to (g.K.Kernels.kept c.args.kernels.now)) c.loop-to.to [] c.loop-to.ways.items c.add_ways.new.ways.items c.loop-to.invariant c.in_ok-add_ways.ensures
