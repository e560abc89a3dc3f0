use Rattle.std.proofs.Common.{All, take}
use Rattle.transcript_lines.specs.TranscriptText.{IsNoteInRange}
use Rattle.script_run.proofs.performance.tell_notes.Given as goal

abbrev pub invariant-loop-note : goal.invariant-loop-note
invariant-loop-note l = All IsNoteInRange (take l.note-index l.notes)
