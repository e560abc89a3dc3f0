use Rattle.std.proofs.Common.{refl}
use Rattle.transcript_kept.proofs.Runs.{asks-next, none-next}
use Rattle.transcript_kept.proofs.run.Run.ask_next.Goals as goal

pub returns : goal.returns
returns c =
    let did = c.in_ok-noted.ensures c.args.self.now.setting c.requires.run.nodes in
    asks-next c.args.ahead c.reads_call.new.call did.0 c.ask.new.self c.in_ok-noted.noted c.args.self.now c.note.new.self c.args.reader.now c.reads_call.new.reader c.requires.run
    (c.if-not-runs_at.ensures.0 refl) c.if-not-reads_call.ensures did.1
    (record { setting = c.note.ensures.setting; nodes = c.note.ensures.nodes; service = c.note.ensures.service; latest = c.note.ensures.latest; due = c.note.ensures.due; happened = did.2 })
