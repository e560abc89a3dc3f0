use Rattle.std.proofs.Common.{arith, ap, ◌∙◌, length}
use Rattle.lynx_interp.proofs.Counting.{counted, few, nothing_there, one_there}
use Rattle.lynx_interp.proofs.machine.Machine.standing.Goals as goal
use Rattle.lynx_interp.proofs.machine.Machine.standing.Goals.{then-stands, else-stands}

pub overflow_add-standing : goal.overflow_add-standing
overflow_add-standing c =
    let small =
    few c.deref-slot-items.result.now c.loop-slot.slot-index c.loop-slot.standing c.loop-slot.invariant c.loop-slot-test.true (ap length c.deref-slot-items.ensures.value ∙ c.self.invariant) in
    omega (arith, small)

pub loop-slot-preserved : goal.loop-slot-preserved
loop-slot-preserved c =
    let items = c.deref-slot-items.result.now in
    let at = c.loop-slot.slot-index in
    let o = c.slot-item.result in
    elim c.if-stands.branch [
      | then-stands w ↦
          let one = one_there o c.stands.result c.stands.ensures w.if-stands.true in
          counted items at c.loop-slot.standing c.if-stands.standing o c.slot-item.is c.loop-slot-test.true c.loop-slot.invariant (omega (arith, one, w.standing-is))
      | else-stands w ↦
          let nothing = nothing_there o c.stands.result c.stands.ensures w.if-stands.false in
          counted items at c.loop-slot.standing c.if-stands.standing o c.slot-item.is c.loop-slot-test.true c.loop-slot.invariant (omega (arith, nothing, w.standing-is))
    ]
