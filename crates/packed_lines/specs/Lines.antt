-- The lines of one event, as they are kept.
use Rattle.std.specs.Prelude.{◌≡◌, ℕ, List, map}
use Rattle.charlotte_calls.specs.declared.calls.ServiceStep.{ServiceStep}
use Rattle.kernel_entries.specs.declared.entry.Happened.{Happened}
use Rattle.packed_lines.specs.Packed.{kept_text, line_note}
use Rattle.packed_lines.specs.declared.kept_lines.KeptLines.{KeptLines}
use Rattle.transcript_lines.specs.Transcript.{line, happened_text, step_text}

-- the line of what happened, without the stamp and the kernel that stand before it in a transcript
abbrev pub happened_line : Happened → List ℕ
happened_line what = line (happened_text what)

-- the lines of service steps
abbrev pub step_lines : List ServiceStep → List (List ℕ)
step_lines steps = map (λ s. line (step_text s)) steps

-- these lines are kept
pub record AreLines (l : KeptLines) (lines : List (List ℕ)) : Type 0 where
  pub text : l.text.items ≡ kept_text lines
  pub notes : l.notes.items ≡ map line_note lines
