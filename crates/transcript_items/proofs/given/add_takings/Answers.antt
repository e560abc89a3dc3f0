use Rattle.transcript_items.proofs.Ways.{lists-more}
use Rattle.transcript_items.specs.Given.{takings_at}
use Rattle.transcript_items.proofs.given.add_takings.Goals as goal

pub loop-kernel-preserved : goal.loop-kernel-preserved
loop-kernel-preserved g c =
    lists-more (takings_at (g.K.Kernels.kept c.args.kernels.now)) c.loop-kernel.kernel c.args.lines.now c.loop-kernel.lines c.add_takings_at.new.lines c.loop-kernel.invariant c.in_ok-add_takings_at.ensures
