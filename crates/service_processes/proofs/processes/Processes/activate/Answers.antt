-- The process that is set has the end, and nothing else changes.
use Rattle.std.proofs.Common.{ap}
use Rattle.service_processes.proofs.Blocks.{state-same, activates-more, active-noted}
use Rattle.service_processes.proofs.processes.Processes.activate.Goals as goal

pub returns-clause-process : goal.returns-clause-process
returns-clause-process c = state-same c.args.self.now c.from.result c.at_mut-block.result.now _ c.args.p (c.at_mut-block.ensures.value _) c.from.ensures c.requires c.note_active.ensures.process

pub returns-clause-grows : goal.returns-clause-grows
returns-clause-grows c = activates-more c.args.self.now c.from.result c.at_mut-block.result.now _ c.args.p (c.at_mut-block.ensures.value _) c.from.ensures c.requires (ap (λ s. s.keys) c.note_active.ensures.held) c.note_active.ensures.active

pub returns-clause-known : goal.returns-clause-known
returns-clause-known c = active-noted c.args.self.now c.from.result c.at_mut-block.result.now _ c.args.p (c.at_mut-block.ensures.value _) c.from.ensures c.requires c.args.e c.in_ok-note_active.ensures.noted

pub returns-in_err-note_active-clause-process : goal.returns-in_err-note_active-clause-process
returns-in_err-note_active-clause-process c = state-same c.args.self.now c.from.result c.at_mut-block.result.now _ c.args.p (c.at_mut-block.ensures.value _) c.from.ensures c.requires c.note_active.ensures.process

pub returns-in_err-note_active-clause-grows : goal.returns-in_err-note_active-clause-grows
returns-in_err-note_active-clause-grows c = activates-more c.args.self.now c.from.result c.at_mut-block.result.now _ c.args.p (c.at_mut-block.ensures.value _) c.from.ensures c.requires (ap (λ s. s.keys) c.note_active.ensures.held) c.note_active.ensures.active
