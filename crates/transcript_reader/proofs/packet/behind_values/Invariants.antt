use Rattle.std.proofs.Common.{◌≡◌, ◌++◌, take}
use Rattle.transcript_lines.specs.Transcript.{values_text}
use Rattle.transcript_reader.proofs.packet.behind_values.Given as goal

abbrev pub invariant-loop-value : goal.invariant-loop-value
invariant-loop-value l = l.text ≡ values_text (take l.value-index l.values) ++ l.rest
