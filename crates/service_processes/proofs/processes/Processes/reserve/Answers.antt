-- The process that is set has room, and nothing else changes.
use Rattle.std.proofs.Common.{ap}
use Rattle.service_processes.proofs.Blocks.{state-same, known-same, room-set}
use Rattle.service_processes.proofs.processes.Processes.reserve.Goals as goal

pub returns-clause-process : goal.returns-clause-process
returns-clause-process c = state-same c.args.self.now c.from.result c.at_mut-block.result.now _ c.args.p (c.at_mut-block.ensures.value _) c.from.ensures c.requires c.reserve_report.ensures.process

pub returns-clause-known : goal.returns-clause-known
returns-clause-known c = known-same c.args.self.now c.from.result c.at_mut-block.result.now _ c.args.p (c.at_mut-block.ensures.value _) c.from.ensures c.requires (ap (λ s. s.keys) c.reserve_report.ensures.held) (ap (λ s. s.keys) c.reserve_report.ensures.active)

pub returns-clause-room : goal.returns-clause-room
returns-clause-room c = room-set c.args.self.now c.from.result c.at_mut-block.result.now _ c.args.p (c.at_mut-block.ensures.value _) c.from.ensures c.requires c.in_ok-reserve_report.ensures.room

pub returns-in_err-reserve_report-clause-process : goal.returns-in_err-reserve_report-clause-process
returns-in_err-reserve_report-clause-process c = state-same c.args.self.now c.from.result c.at_mut-block.result.now _ c.args.p (c.at_mut-block.ensures.value _) c.from.ensures c.requires c.reserve_report.ensures.process

pub returns-in_err-reserve_report-clause-known : goal.returns-in_err-reserve_report-clause-known
returns-in_err-reserve_report-clause-known c = known-same c.args.self.now c.from.result c.at_mut-block.result.now _ c.args.p (c.at_mut-block.ensures.value _) c.from.ensures c.requires (ap (λ s. s.keys) c.reserve_report.ensures.held) (ap (λ s. s.keys) c.reserve_report.ensures.active)
