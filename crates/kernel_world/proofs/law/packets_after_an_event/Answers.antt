use Rattle.kernel_world.proofs.Packets.{happens-packets}
use Rattle.kernel_world.proofs.law.packets_after_an_event.Goals as goal

pub returns : goal.returns
returns c = happens-packets
