use Rattle.std.proofs.Common.{◌≡◌, ◌++◌, take, map}
use Rattle.transcript_lines.specs.Transcript.{line, note_text}
use Rattle.journal_text.proofs.end_lines.push_note_lines.Given as goal

abbrev pub invariant-loop-note : goal.invariant-loop-note
invariant-loop-note l =
    map (λ t. t.items) l.lines.items ≡ map (λ t. t.items) l.fn.lines.items ++ map (λ n. line (note_text n)) (take l.note-index l.notes)
