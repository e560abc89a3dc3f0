use Rattle.std.proofs.Common.{arith, ◌≡◌, ◌+◌, ◌-◌, ◌∷◌, length, ap, ◌∙◌}
use Rattle.machine_values.specs.Told.{value_of}
use Rattle.machine_stack.proofs.Gathered.{gathered_more}
use Rattle.machine_stack.proofs.operands.FromTop.gather.Goals as goal

pub loop-preserved : goal.loop-preserved
loop-preserved c =
    let size : length c.loop.self ≡ length (value_of c.in-Some.value ∷ c.next.new.self) = ap length c.in-Some.ensures in
    record {
      got = rw c.in_ok-push-in-Some.ensures.items
          (gathered_more (c.args.count - (c.loop.counter + 1)) (c.args.count - c.loop.counter) c.loop.values.items c.loop.self c.next.new.self c.in-Some.value (omega arith) c.in-Some.ensures
          ∙ c.loop.invariant.got);
      rest = omega (arith, c.loop.invariant.rest, size);
    }
