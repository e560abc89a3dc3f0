use Rattle.std.proofs.Common.{◌≡◌, ◌++◌, take, map}
use Rattle.transcript_lines.specs.Transcript.{line, wire_text}
use Rattle.journal_text.proofs.header_lines.push_wire_lines.Given as goal

abbrev pub invariant-loop-wire : goal.invariant-loop-wire
invariant-loop-wire l =
    map (λ t. t.items) l.lines.items ≡ map (λ t. t.items) l.fn.lines.items ++ map (λ wire. line (wire_text wire)) (take l.wire-index l.wires)
