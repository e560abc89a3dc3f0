-- The lines of a transcript, each as what its form shows.
use Rattle.std.specs.Prelude.{ℕ, ◌+◌, List, [], ◌∷◌, ◌++◌, map, Result, Ok, Err}
use Rattle.std.specs.List.{flat_map}
use Rattle.charlotte_calls.specs.declared.calls.Call.TheVariants as call
use Rattle.charlotte_calls.specs.declared.calls.ServiceStep.{ServiceStep}
use Rattle.charlotte_calls.specs.declared.calls.ServiceStep.TheVariants as step
use Rattle.charlotte_calls.specs.declared.names.Pid.{Pid}
use Rattle.charlotte_packets.specs.declared.picture.Picture.{Picture}
use Rattle.charlotte_calls.specs.declared.setting.Setting.{Setting}
use Rattle.charlotte_text.specs.declared.fault.Fault.{Fault}
use Rattle.charlotte_text.specs.declared.fault.Fault.TheVariants.{Form}
use Rattle.transcript_lines.specs.declared.last.Last.{Last}
use Rattle.transcript_lines.specs.declared.last.ScriptNote.{ScriptNote}
use Rattle.kernel_entries.specs.declared.entry.Happened.{Happened}
use Rattle.kernel_entries.specs.declared.entry.Happened.TheVariants.{Asked, Took}
use Rattle.kernel_entries.specs.declared.entry.Placed.{Placed}
use Rattle.transcript_reading.specs.declared.line.LineKind.{LineKind}
use Rattle.transcript_reading.specs.declared.line.LineKind.TheVariants as line
use Rattle.transcript_reading.specs.declared.line.ServiceLine.{ServiceLine}
use Rattle.transcript_reading.specs.declared.line.ServiceLine.TheVariants as service

-- no line shows the stamp of a packet
abbrev pub without_stamp : Picture → Picture
without_stamp picture = record { stamp = 0; what = picture.what }

abbrev pub unstamped_what : Happened → Happened
unstamped_what (Asked p call) = Asked p call
unstamped_what (Took from picture) = Took from (without_stamp picture)

abbrev pub unstamped : Placed → Placed
unstamped p =
    record { kernel = p.kernel; entry = record { stamp = p.entry.stamp; what = unstamped_what p.entry.what; steps = p.entry.steps } }

-- what the line of a step shows
abbrev pub shown_step : ServiceStep → ServiceLine
shown_step (step.Make p a b) = service.Make a b
shown_step (step.Refuse p call cause) = service.Refuse p cause
shown_step (step.Destroy on) = service.Destroy on
shown_step (step.Send on n bytes enclose) = service.Send on n enclose
shown_step (step.Receive on) = service.Receive on
shown_step (step.Cancel on way) = service.Cancel on way
shown_step (step.Wait p) = service.Wait p
shown_step (step.Report p report) = service.Report p report
shown_step (step.Exit p) = service.Exit p
shown_step (step.Match on n) = service.Match on n
shown_step (step.Take on n p late) = service.Take on n p late
shown_step (step.Complete on n) = service.Complete on n
shown_step (step.Withdraw on) = service.Withdraw on
shown_step (step.Free on) = service.Free on
shown_step (step.Notice on dead) = service.Notice on dead
shown_step (step.Back on n dead) = service.Back on n dead

-- a step, with what its line leaves out and the entry above it says: the process of a call, the call, the bytes of a send
abbrev pub full_step : Happened → ServiceLine → Result ServiceStep Fault
full_step what (service.Destroy on) = Ok (step.Destroy on)
full_step what (service.Receive on) = Ok (step.Receive on)
full_step what (service.Cancel on way) = Ok (step.Cancel on way)
full_step what (service.Wait p) = Ok (step.Wait p)
full_step what (service.Report p report) = Ok (step.Report p report)
full_step what (service.Exit p) = Ok (step.Exit p)
full_step what (service.Match on n) = Ok (step.Match on n)
full_step what (service.Take on n p late) = Ok (step.Take on n p late)
full_step what (service.Complete on n) = Ok (step.Complete on n)
full_step what (service.Withdraw on) = Ok (step.Withdraw on)
full_step what (service.Free on) = Ok (step.Free on)
full_step what (service.Notice on dead) = Ok (step.Notice on dead)
full_step what (service.Back on n dead) = Ok (step.Back on n dead)
full_step (Asked p c) (service.Make a b) = Ok (step.Make p a b)
full_step (Asked p c) (service.Refuse q cause) = Ok (step.Refuse q c cause)
full_step (Asked p (call.Send on bytes enclose)) (service.Send from n ends) = Ok (step.Send from n bytes ends)
full_step what (service.Make a b) = Err Form
full_step what (service.Refuse q cause) = Err Form
full_step what (service.Send from n ends) = Err Form

-- what the line of an entry shows
abbrev pub happened_kind : ℕ → ℕ → Happened → LineKind
happened_kind stamp kernel (Asked p call) = line.CallEntry stamp kernel p call
happened_kind stamp kernel (Took from picture) = line.PacketEntry stamp kernel from (without_stamp picture)

-- the line of an entry, and those of its steps
abbrev pub entry_kinds : Placed → List LineKind
entry_kinds p = happened_kind p.entry.stamp p.kernel p.entry.what ∷ map (λ s. line.Service (shown_step s)) p.entry.steps

-- each process; the first has this number
abbrev pub process_kinds : ℕ → List ℕ → List LineKind
process_kinds number [] = []
process_kinds number (home ∷ homes) = line.Process (record { 0 = number }) home ∷ process_kinds (number + 1) homes

abbrev pub wire_kinds : List (Pid × Pid) → List LineKind
wire_kinds wires = map (λ wire. line.Wire wire.0 wire.1) wires

-- the lines of a transcript
abbrev pub transcript_kinds : Setting → List Placed → List ScriptNote → Last → List LineKind
transcript_kinds s merged notes last =
    line.First s.version ∷ line.Kernels s.kernels ∷ process_kinds 0 s.homes ++ wire_kinds s.wires ++ flat_map entry_kinds merged
    ++ map (λ n. line.Note n) notes ++ line.End last ∷ []
