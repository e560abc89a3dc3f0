use Rattle.std.proofs.Common.{◌≡◌, ◌++◌, take}
use Rattle.transcript_lines.specs.Transcript.{numbers_behind}
use Rattle.transcript_reader.proofs.packet.behind_fields.Given as goal

abbrev pub invariant-loop-number : goal.invariant-loop-number
invariant-loop-number l = l.text ≡ numbers_behind 58 (take l.number-index l.numbers) ++ l.rest
