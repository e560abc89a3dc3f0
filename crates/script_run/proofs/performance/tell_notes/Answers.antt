use Rattle.std.proofs.Common.{All, subst}
use Rattle.std.proofs.lemmas.List.{take_all}
use Rattle.std.proofs.lemmas.List.Elements.{All-more}
use Rattle.transcript_lines.specs.TranscriptText.{IsNoteInRange}
use Rattle.script_run.proofs.performance.tell_notes.Goals as goal

pub loop-note-preserved : goal.loop-note-preserved
loop-note-preserved c = All-more IsNoteInRange c.args.notes.now c.loop-note.note-index _ c.loop-note-test.true c.loop-note.invariant c.tell_note.ensures

pub returns : goal.returns
returns c = subst (All IsNoteInRange) (take_all c.loop-note.note-index c.args.notes.now c.loop-note-test.false) c.loop-note.invariant
