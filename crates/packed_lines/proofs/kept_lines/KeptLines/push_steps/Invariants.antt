use Rattle.std.proofs.Common.{◌≡◌, ◌++◌, take, map}
use Rattle.packed_lines.specs.Lines.{step_lines}
use Rattle.packed_lines.specs.Packed.{kept_text, line_note}
use Rattle.packed_lines.proofs.kept_lines.KeptLines.push_steps.Given as goal

abbrev pub invariant-loop-step : goal.invariant-loop-step
invariant-loop-step l = record {
  text : l.self.text.items ≡ l.fn.self.text.items ++ kept_text (step_lines (take l.step-index l.steps));
  notes : l.self.notes.items ≡ l.fn.self.notes.items ++ map line_note (step_lines (take l.step-index l.steps));
}
