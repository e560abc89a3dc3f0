-- the wires before this one are made
use Rattle.link_service.specs.Service.{HasWired}
use Rattle.link_service.proofs.wires.wire_each.Given as goal

abbrev pub invariant-loop-index : goal.invariant-loop-index
invariant-loop-index l = HasWired l.setting l.index l.service
