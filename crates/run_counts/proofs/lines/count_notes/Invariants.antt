use Rattle.std.proofs.Common.{◌≡◌, drop}
use Rattle.run_counts.specs.Lines.{with_notes}
use Rattle.run_counts.proofs.lines.count_notes.Given as goal

abbrev pub invariant-loop-note : goal.invariant-loop-note
invariant-loop-note l = with_notes (drop l.note-index l.notes) l.counts ≡ with_notes l.fn.notes l.fn.counts
