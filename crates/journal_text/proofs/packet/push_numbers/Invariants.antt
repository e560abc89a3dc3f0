use Rattle.std.proofs.Common.{◌≡◌, ◌++◌, take}
use Rattle.transcript_lines.specs.Transcript.{numbers_behind}
use Rattle.journal_text.proofs.packet.push_numbers.Given as goal

abbrev pub invariant-loop-number : goal.invariant-loop-number
invariant-loop-number l = l.out.items ≡ l.fn.out.items ++ numbers_behind l.mark (take l.number-index l.numbers)
