use Rattle.transcript_items.proofs.Ways.{lists-more}
use Rattle.transcript_items.specs.Given.{takings_from}
use Rattle.transcript_items.proofs.given.add_takings_at.Goals as goal

pub loop-from-preserved : goal.loop-from-preserved
loop-from-preserved g c =
    lists-more (takings_from (g.K.Kernels.kept c.args.kernels.now) c.args.kernel) c.loop-from.from c.args.lines.now c.loop-from.lines c.add_taking.new.lines c.loop-from.invariant c.in_ok-add_taking.ensures
