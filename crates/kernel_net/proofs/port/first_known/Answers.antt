use Rattle.std.proofs.Common.{length, refl, ap, arith}
use Rattle.kernel_net.proofs.Learned.{none-more}
use Rattle.kernel_net.proofs.port.first_known.Goals as goal

pub loop-from-preserved : goal.loop-from-preserved
loop-from-preserved c =
    none-more _ _ _ c.index_mut.result.now c.is_empty.new.self c.loop-from.invariant.0 c.loop-from.invariant.1 (omega (arith, ap length c.loop-from.invariant.0)) c.index_mut.ensures.value c.is_empty.ensures.learns (c.if-not-is_empty.ensures.known.0 refl)
