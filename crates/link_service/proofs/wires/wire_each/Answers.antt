use Rattle.link_service.proofs.wires.wire_each.Goals as goal

pub loop-index-init : goal.loop-index-init
loop-index-init c = record { state = c.in_ok-service.ensures.state; count = c.in_ok-service.ensures.count }
