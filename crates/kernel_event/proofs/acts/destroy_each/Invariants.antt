use Rattle.std.proofs.Common.{length}
use Rattle.kernel_event.proofs.ActsParts.{AreLeft}
use Rattle.kernel_event.proofs.acts.destroy_each.Given as goal

abbrev pub invariant-loop-first : goal.invariant-loop-first
invariant-loop-first l = AreLeft l.ends l.left l.fn.table l.table l.fn.out l.out

abbrev pub decreases-loop-first : goal.decreases-loop-first
decreases-loop-first l = length l.left
