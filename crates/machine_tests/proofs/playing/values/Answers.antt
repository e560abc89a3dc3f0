use Rattle.lynx_interp.proofs.Needs.{one_more}
use Rattle.machine_tests.proofs.playing.values.Goals as goal

pub loop-kind-preserved : goal.loop-kind-preserved
loop-kind-preserved c =
    one_more c.args.kinds.now c.loop-kind.values.items c.push.new.self.items c.loop-kind.kind-index _ c.in-Some.value c.loop-kind-test.true c.loop-kind.invariant c.in-Some.ensures c.in_ok-push-in-Some.ensures.items
