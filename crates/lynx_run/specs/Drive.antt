-- What `drive` finds in the bytes of a script.
use Rattle.std.specs.Prelude.{◌≡◌, ℕ, List, Ok, Err}
use Rattle.std.specs.List.{concat}
use Rattle.transcript_lines.specs.Transcript.{transcript_lines}
use Rattle.transcript_lines.specs.TranscriptText.{IsTranscript}
use Rattle.transcript_lines.specs.declared.last.Last.{Last}
use Rattle.transcript_lines.specs.declared.last.ScriptNote.{ScriptNote}
use Rattle.kernel_entries.specs.declared.entry.Placed.{Placed}
use Rattle.lynx_plan.specs.Reading.{script_of}
use Rattle.lynx_plan.specs.ScriptText.{IsScriptText}
use Rattle.lynx_plan.specs.declared.fault.PlanFault.TheVariants as plan
use Rattle.lynx_plan.specs.declared.script.Script.{Script}
use Rattle.lynx_command.specs.Found.{Found}
use Rattle.lynx_command.specs.declared.ending.End.TheVariants.{Done}
use Rattle.lynx_command.specs.declared.failure.Failure.TheVariants.{Script as BrokenScript, NoMemory}
use Rattle.script_run.specs.Performing.{IsPerformance}
use Rattle.trace_law.specs.Record.{IsLawfulRecord}
use Rattle.trace_law.specs.Law.{IsBareRecord}

-- the bytes are a script: no line of them is refused
pub record IsScriptOf (bytes : List ℕ) (script : Script) : Type 0 where
  pub read : script_of bytes ≡ Ok script
  pub spelled : IsScriptText bytes script

-- the lines are those of the transcript of the run that these bytes name as a script
pub record IsDriven (bytes : List ℕ) (lines : List (List ℕ)) : Type 0 where
  pub script : Script
  pub given : IsScriptOf bytes script
  pub merged : List Placed
  pub notes : List ScriptNote
  pub last : Last
  pub performed : IsPerformance script.setting script.lines merged notes last
  -- what its entries show is one lawful run of the link service, and after each of them the kernels stand for the state of the service
  pub lawful : IsLawfulRecord script.setting merged
  -- where no packet is under way at its end, no kernel keeps a trace of a link that moved on
  pub bare : IsBareRecord script.setting merged
  pub told : IsTranscript (concat lines) script.setting merged notes last
  pub line_by_line : lines ≡ transcript_lines script.setting merged notes last

-- the first line that fails a rule, and the least rule there
abbrev pub IsRefused : List ℕ → ℕ → ℕ → Type 0
IsRefused bytes line rule = script_of bytes ≡ Err (plan.BadPlan line rule)

-- the transcript, or the line at which the bytes are no script; want of memory comes at any script
abbrev pub Drives : List ℕ → Found → Type 0
Drives bytes (Ok output) = IsDriven bytes output.lines × (output.end ≡ Done)
Drives bytes (Err (BrokenScript line rule)) = IsRefused bytes line rule
Drives bytes (Err NoMemory) = Unit {0}
Drives bytes (Err failure) = ⊥
