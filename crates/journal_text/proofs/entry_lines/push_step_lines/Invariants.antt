use Rattle.std.proofs.Common.{◌≡◌, ◌++◌, take, map}
use Rattle.transcript_lines.specs.Transcript.{line, step_text}
use Rattle.journal_text.proofs.entry_lines.push_step_lines.Given as goal

abbrev pub invariant-loop-step : goal.invariant-loop-step
invariant-loop-step l =
    map (λ t. t.items) l.lines.items ≡ map (λ t. t.items) l.fn.lines.items ++ map (λ s. line (step_text s)) (take l.step-index l.steps)
