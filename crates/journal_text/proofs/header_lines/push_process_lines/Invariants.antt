use Rattle.std.proofs.Common.{◌≡◌, ◌++◌, drop, map}
use Rattle.transcript_lines.specs.Transcript.{process_lines}
use Rattle.journal_text.proofs.header_lines.push_process_lines.Given as goal

abbrev pub invariant-loop-number : goal.invariant-loop-number
invariant-loop-number l =
    map (λ t. t.items) l.lines.items ++ process_lines l.number (drop l.number l.homes) ≡ map (λ t. t.items) l.fn.lines.items ++ process_lines 0 l.homes
