use Rattle.std.proofs.Common.{Some, refl}
use Rattle.kernel_journal.specs.declared.lines.Replay.{Replay}
use Rattle.kernel_journal.proofs.Taken.{differs, expected, noted}
use Rattle.kernel_journal.proofs.lines.Replay.take_expected.Goals as goal

pub returns-then-not-is_among_entries-clause-taken : goal.returns-then-not-is_among_entries-clause-taken
returns-then-not-is_among_entries-clause-taken c taken at = noted c.skip_note.result taken c.args.self.now c.args.reader.now c.skip_note.new.self c.skip_note.ensures at

pub returns-in-Ok-clause-taken : goal.returns-in-Ok-clause-taken
returns-in-Ok-clause-taken c taken at =
    let new : Replay = record { alloc = c.args.self.now.alloc; request = c.take_expected.new.request; draft = c.args.self.now.draft; body = Some c.take_expected.new.self; last = c.args.self.now.last } in
    expected c.in-Ok.took taken c.args.self.now new c.in-Some.body c.take_expected.new.self c.args.reader.now c.take_expected.new.reader (c.if-not-is_among_entries.ensures.0 refl) c.in-Some.is refl c.in-Ok.ensures.took at

pub returns-in-Err-Differs-clause-fault : goal.returns-in-Err-Differs-clause-fault
returns-in-Err-Differs-clause-fault c taken at =
    differs taken c.args.self.now c.in-Some.body c.args.reader.now c.take_expected.new.reader c.lines.result (c.if-not-is_among_entries.ensures.0 refl) c.in-Some.is c.lines.ensures (rw c.in-Err-Differs.field-0-is at c.in-Err-Differs.ensures.stands) at
