use Rattle.std.proofs.Common.{◌∙◌}
use Rattle.lynx_rt.proofs.Falling.{queue_held}
use Rattle.lynx_rt.proofs.process.Running.hold_queue.Goals as goal

pub loop-message-preserved-in_ok-hold_packet : goal.loop-message-preserved-in_ok-hold_packet
loop-message-preserved-in_ok-hold_packet c = queue_held _ _ _ _ _ c.in-Some.ensures.first c.take.ensures.left c.in_ok-hold_packet.ensures ∙ c.loop-message.invariant

pub loop-message-preserved-in_ok-hold_packet-2 : goal.loop-message-preserved-in_ok-hold_packet-2
loop-message-preserved-in_ok-hold_packet-2 c = queue_held _ _ _ _ _ c.in-Some.ensures.first c.take.ensures.left c.in_ok-hold_packet.ensures ∙ c.loop-message.invariant

pub loop-message-preserved : goal.loop-message-preserved
loop-message-preserved c = queue_held _ _ _ _ _ c.in-Some.ensures.first c.take.ensures.left c.in_ok-hold_packet.ensures ∙ c.loop-message.invariant
