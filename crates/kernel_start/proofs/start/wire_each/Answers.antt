use Rattle.kernel_start.proofs.start.wire_each.Goals as goal

pub loop-index-init : goal.loop-index-init
loop-index-init c = record { wired = c.new-wiring.ensures.nothing c.args.setting.now; kernel = c.new-wiring.ensures.kernel }
