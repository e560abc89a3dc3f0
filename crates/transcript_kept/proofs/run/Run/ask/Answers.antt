use Rattle.std.proofs.Common.{refl}
use Rattle.kernel_world.specs.World.{Calls}
use Rattle.transcript_kept.proofs.Runs.{asks-on, stands}
use Rattle.transcript_kept.proofs.run.Run.ask.Goals as goal

pub returns-clause-stand : goal.returns-clause-stand
returns-clause-stand c =
    let did = c.in_ok-noted.ensures c.args.self.now.setting c.requires.nodes in
    stands (Calls c.args.kernel c.args.p c.copy.result did.0) c.ask.new.self c.in_ok-noted.noted c.args.self.now c.note.new.self c.requires
    (record { setting = c.note.ensures.setting; nodes = c.note.ensures.nodes; service = c.note.ensures.service; latest = c.note.ensures.latest; due = c.note.ensures.due; happened = did.2 })

pub returns-clause-asks : goal.returns-clause-asks
returns-clause-asks c =
    let did = c.in_ok-noted.ensures c.args.self.now.setting c.requires.nodes in
    asks-on c.args.kernel c.args.p c.args.call.now c.copy.result did.0 c.ask.new.self c.in_ok-noted.noted c.args.self.now c.note.new.self (c.if-not-runs_at.ensures.0 refl) c.copy.ensures did.1
    (record { setting = c.note.ensures.setting; nodes = c.note.ensures.nodes; service = c.note.ensures.service; latest = c.note.ensures.latest; due = c.note.ensures.due; happened = did.2 })
