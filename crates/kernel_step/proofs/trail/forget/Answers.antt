use Rattle.std.proofs.Common.{arith}
use Rattle.kernel_step.proofs.Forgets.{forgets-more, AddsAtMost-more}
use Rattle.kernel_step.specs.Progress.{progress}
use Rattle.kernel_step.proofs.trail.forget.Goals as goal

pub loop-to-preserved : goal.loop-to-preserved
loop-to-preserved c =
    record {
      part = λ t.
          forgets-more c.args.kernel c.args.value c.loop-to.to-index (progress t c.args.out.now) (progress t c.loop-to.out) (progress t c.forget_at.new.out)
          (omega arith) (c.loop-to.invariant.part t) (c.forget_at.ensures.part t);
      room = AddsAtMost-more _ _ _ _ c.loop-to.invariant.room c.forget_at.ensures.room;
    }
