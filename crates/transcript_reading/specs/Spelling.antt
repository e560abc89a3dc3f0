-- How each line of a transcript is spelled, by what it shows.
use Rattle.std.specs.Prelude.{◌≡◌, ℕ, List, [], ◌++◌, length, codes}
use Rattle.charlotte_calls.specs.Ranges.{IsPid, IsU8, IsU64, IsStepInRange}
use Rattle.charlotte_packets.specs.Ranges.{IsPacketInRange}
use Rattle.charlotte_calls.specs.declared.calls.Call.TheVariants as call
use Rattle.charlotte_calls.specs.declared.calls.ServiceStep.{ServiceStep}
use Rattle.charlotte_calls.specs.declared.calls.ServiceStep.TheVariants as step
use Rattle.charlotte_text.specs.Spelling.{number_text, IsCall}
use Rattle.transcript_lines.specs.Transcript.{entry_text, step_text, process_home_text, wire_text, note_text, last_text}
use Rattle.transcript_lines.specs.TranscriptText.{IsFew, HasFewPacket, IsShownReport, IsNoteInRange, IsLastInRange}
use Rattle.kernel_entries.specs.declared.entry.Happened.{Happened}
use Rattle.kernel_entries.specs.declared.entry.Happened.TheVariants.{Asked, Took}
use Rattle.kernel_entries.specs.declared.entry.Placed.{Placed}
use Rattle.transcript_reading.specs.declared.line.LineKind.{LineKind}
use Rattle.transcript_reading.specs.declared.line.LineKind.TheVariants as kind
use Rattle.transcript_reading.specs.declared.line.ServiceLine.{ServiceLine}
use Rattle.transcript_reading.specs.declared.line.ServiceLine.TheVariants as service

-- an entry without steps
abbrev pub bare_entry : ℕ → ℕ → Happened → Placed
bare_entry stamp kernel what = record { kernel = kernel; entry = record { stamp = stamp; what = what; steps = [] } }

-- a step that shows this; what no line shows of a step is nothing in it
abbrev pub bare_step : ServiceLine → ServiceStep
bare_step (service.Make a b) = step.Make (record { 0 = 0 }) a b
bare_step (service.Refuse p cause) = step.Refuse p call.Make cause
bare_step (service.Destroy on) = step.Destroy on
bare_step (service.Send on n enclose) = step.Send on n [] enclose
bare_step (service.Receive on) = step.Receive on
bare_step (service.Cancel on way) = step.Cancel on way
bare_step (service.Wait p) = step.Wait p
bare_step (service.Report p report) = step.Report p report
bare_step (service.Exit p) = step.Exit p
bare_step (service.Match on n) = step.Match on n
bare_step (service.Take on n p late) = step.Take on n p late
bare_step (service.Complete on n) = step.Complete on n
bare_step (service.Withdraw on) = step.Withdraw on
bare_step (service.Free on) = step.Free on
bare_step (service.Notice on dead) = step.Notice on dead
bare_step (service.Back on n dead) = step.Back on n dead

-- how a line is spelled, without its line feed
abbrev pub kind_text : LineKind → List ℕ
kind_text (kind.First version) = codes "transcript " ++ number_text version
kind_text (kind.Kernels kernels) = codes "kernels " ++ number_text kernels
kind_text (kind.Process p kernel) = process_home_text p.0 kernel
kind_text (kind.Wire first second) = wire_text (first, second)
kind_text (kind.CallEntry stamp kernel p c) = entry_text (bare_entry stamp kernel (Asked p c))
kind_text (kind.PacketEntry stamp kernel from picture) = entry_text (bare_entry stamp kernel (Took from picture))
kind_text (kind.Service s) = step_text (bare_step s)
kind_text (kind.Note note) = note_text note
kind_text (kind.End last) = last_text last

-- the ends of a message are no more than the version has, and a report has what its line shows
abbrev pub HasShown : ℕ → ServiceLine → Type 0
HasShown version (service.Send on n enclose) = IsFew version (length enclose)
HasShown version (service.Report p r) = IsShownReport version r.way r.outcome r.bytes r.enclosed
HasShown version _ = Unit {0}

-- what a line of a version shows: values of their types, and no stamp of a picture
abbrev pub IsKind : ℕ → LineKind → Type 0
IsKind version (kind.First told) = IsU8 told
IsKind version (kind.Kernels kernels) = IsU8 kernels
IsKind version (kind.Process p kernel) = IsPid p × IsU8 kernel
IsKind version (kind.Wire first second) = IsPid first × IsPid second
IsKind version (kind.CallEntry stamp kernel p c) = IsU64 stamp × IsU8 kernel × IsPid p × IsCall version c
IsKind version (kind.PacketEntry stamp kernel from picture) =
    IsU64 stamp × IsU8 kernel × IsU8 from × (picture.stamp ≡ 0) × IsPacketInRange picture.what × HasFewPacket version picture.what
IsKind version (kind.Service s) = IsStepInRange (bare_step s) × HasShown version s
IsKind version (kind.Note note) = IsNoteInRange note
IsKind version (kind.End last) = IsLastInRange last
