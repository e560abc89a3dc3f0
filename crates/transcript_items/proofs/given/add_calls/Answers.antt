use Rattle.transcript_items.proofs.Ways.{lists-more}
use Rattle.transcript_items.specs.Given.{calls_of}
use Rattle.transcript_items.proofs.given.add_calls.Goals as goal

pub loop-number-preserved : goal.loop-number-preserved
loop-number-preserved g c =
    lists-more (calls_of (g.K.Kernels.kept c.args.kernels.now)) c.loop-number.number c.args.lines.now c.loop-number.lines c.add_call.new.lines c.loop-number.invariant c.in_ok-add_call.ensures
