use Rattle.std.proofs.Common.{◌≡◌, length}
use Rattle.transcript_reader.specs.Lines.{lines_left, lines_read, with_all}
use Rattle.transcript_reader.proofs.read.read_lines.Given as goal

abbrev pub invariant-loop-lines : goal.invariant-loop-lines
invariant-loop-lines l = with_all l.lines.items (lines_left l.reader) ≡ lines_read l.bytes

abbrev pub decreases-loop-lines : goal.decreases-loop-lines
decreases-loop-lines l = length l.reader.texts
