use Rattle.std.proofs.Common.{◌≡◌, ◌++◌, take, map}
use Rattle.std.specs.List.{flat_map}
use Rattle.transcript_lines.specs.Transcript.{entry_lines}
use Rattle.journal_text.proofs.entry_lines.push_merged_lines.Given as goal

abbrev pub invariant-loop-placed : goal.invariant-loop-placed
invariant-loop-placed l =
    map (λ t. t.items) l.lines.items ≡ map (λ t. t.items) l.fn.lines.items ++ flat_map entry_lines (take l.placed-index l.merged)
