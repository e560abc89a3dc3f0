-- The process that is set has the end, and nothing else changes.
use Rattle.service_processes.proofs.Blocks.{state-same, known-grows, known-noted}
use Rattle.service_processes.proofs.processes.Processes.learn.Goals as goal

pub returns-clause-process : goal.returns-clause-process
returns-clause-process c = state-same c.args.self.now c.from.result c.at_mut-block.result.now _ c.args.p (c.at_mut-block.ensures.value _) c.from.ensures c.requires c.note.ensures.process

pub returns-clause-grows : goal.returns-clause-grows
returns-clause-grows c = known-grows c.args.self.now c.from.result c.at_mut-block.result.now _ c.args.p (c.at_mut-block.ensures.value _) c.from.ensures c.requires c.note.ensures.held c.note.ensures.active

pub returns-clause-known : goal.returns-clause-known
returns-clause-known c = known-noted c.args.self.now c.from.result c.at_mut-block.result.now _ c.args.p (c.at_mut-block.ensures.value _) c.from.ensures c.requires c.args.e c.in_ok-note.ensures.noted_held c.in_ok-note.ensures.noted_active

pub returns-in_err-note-clause-process : goal.returns-in_err-note-clause-process
returns-in_err-note-clause-process c = state-same c.args.self.now c.from.result c.at_mut-block.result.now _ c.args.p (c.at_mut-block.ensures.value _) c.from.ensures c.requires c.note.ensures.process

pub returns-in_err-note-clause-grows : goal.returns-in_err-note-clause-grows
returns-in_err-note-clause-grows c = known-grows c.args.self.now c.from.result c.at_mut-block.result.now _ c.args.p (c.at_mut-block.ensures.value _) c.from.ensures c.requires c.note.ensures.held c.note.ensures.active
