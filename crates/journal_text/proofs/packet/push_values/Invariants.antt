use Rattle.std.proofs.Common.{◌≡◌, ◌++◌, take}
use Rattle.transcript_lines.specs.Transcript.{values_text}
use Rattle.journal_text.proofs.packet.push_values.Given as goal

abbrev pub invariant-loop-value : goal.invariant-loop-value
invariant-loop-value l = l.out.items ≡ l.fn.out.items ++ values_text (take l.value-index l.values)
