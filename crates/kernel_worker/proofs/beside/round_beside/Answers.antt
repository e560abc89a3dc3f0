use denote.Param.Send.{sendable}
use Rattle.std.proofs.Crossing.{crosses}
use Rattle.kernel_worker.proofs.Crossing.{node-send}
use Rattle.kernel_worker.proofs.crew.Crew.TheSendSync as crew
use Rattle.kernel_worker.proofs.beside.round_beside.Goals as goal

pub join_mut-worked-requires-send-F : goal.join_mut-worked-requires-send-F
join_mut-worked-requires-send-F g c κs within = search (node-send, crew.the_sync, sendable) depth 40
