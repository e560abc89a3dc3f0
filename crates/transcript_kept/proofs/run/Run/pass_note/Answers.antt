use Rattle.transcript_kept.proofs.Runs.{note-next}
use Rattle.transcript_kept.proofs.run.Run.pass_note.Goals as goal

pub returns-then-skip_note : goal.returns-then-skip_note
returns-then-skip_note c = note-next c.args.self.now c.args.reader.now c.skip_note.new.self c.requires c.if-skip_note.ensures
