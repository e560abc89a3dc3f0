-- The lines of a transcript. Each value has one spelling.
use Rattle.std.specs.Prelude.{ℕ, ◌+◌, List, [], ◌∷◌, ◌++◌, Bool, map, if◌then◌else◌, codes}
use Rattle.std.specs.List.{flat_map}
use Rattle.charlotte_calls.specs.declared.calls.Cause.{Cause}
use Rattle.charlotte_calls.specs.declared.calls.Cause.TheVariants as cause
use Rattle.charlotte_calls.specs.declared.calls.Report.{Report}
use Rattle.charlotte_calls.specs.declared.calls.ServiceStep.{ServiceStep}
use Rattle.charlotte_calls.specs.declared.calls.ServiceStep.TheVariants as step
use Rattle.charlotte_calls.specs.declared.names.EndId.{EndId}
use Rattle.charlotte_calls.specs.declared.names.Outcome.{Outcome}
use Rattle.charlotte_calls.specs.declared.names.Outcome.TheVariants.{Done, Destroyed}
use Rattle.charlotte_calls.specs.declared.names.Pid.{Pid}
use Rattle.charlotte_calls.specs.declared.names.Way.{Way}
use Rattle.charlotte_calls.specs.declared.names.Way.TheVariants.{Inward, Outward}
use Rattle.charlotte_packets.specs.declared.picture.MovingPicture.{MovingPicture}
use Rattle.charlotte_packets.specs.declared.picture.PictureWhat.{PictureWhat}
use Rattle.charlotte_packets.specs.declared.picture.PictureWhat.TheVariants as packet
use Rattle.charlotte_calls.specs.declared.setting.Setting.{Setting}
use Rattle.charlotte_text.specs.Spelling.{number_text, end_text, ends_text, process_text, bytes_text, way_text, call_text, blank, line_feed, colon}
use Rattle.transcript_lines.specs.declared.last.Last.{Last}
use Rattle.transcript_lines.specs.declared.last.Last.TheVariants.{Quiet, Unsettled, Spent}
use Rattle.transcript_lines.specs.declared.last.ScriptNote.{ScriptNote}
use Rattle.kernel_entries.specs.declared.entry.Happened.{Happened}
use Rattle.kernel_entries.specs.declared.entry.Happened.TheVariants.{Asked, Took}
use Rattle.kernel_entries.specs.declared.entry.Placed.{Placed}

-- numbers, each behind this byte
abbrev pub numbers_behind : ℕ → List ℕ → List ℕ
numbers_behind mark ns = flat_map (λ n. mark ∷ number_text n) ns

-- numbers, each behind a blank
abbrev pub numbers_text : List ℕ → List ℕ
numbers_text ns = numbers_behind blank ns

-- numbers, each behind a colon
abbrev pub fields_text : List ℕ → List ℕ
fields_text ns = numbers_behind colon ns

-- 1 for yes and 0 for no
abbrev pub bit : Bool → ℕ
bit b = if b then 1 else 0

-- the value of an end, as `0.1b:1:2:0:0:0:0:0:0:1`
abbrev pub value_text : MovingPicture → List ℕ
value_text v =
    end_text v.end ++ fields_text (v.hops ∷ v.hint.0 ∷ v.hint.1 ∷ v.sent ∷ v.asked ∷ v.served ∷ v.want ∷ bit v.dead ∷ v.trail ∷ [])

-- the values that a packet carries, each behind a blank and a plus
abbrev pub values_text : List MovingPicture → List ℕ
values_text vs = flat_map (λ v. codes " +" ++ value_text v) vs

-- a packet: its name, the end, the numbers, the bytes and the values
abbrev pub packet_text : PictureWhat → List ℕ
packet_text (packet.Want to w at hops) = codes "want " ++ end_text to ++ numbers_text (w ∷ at ∷ hops ∷ [])
packet_text (packet.Unwant to w at hops) = codes "unwant " ++ end_text to ++ numbers_text (w ∷ at ∷ hops ∷ [])
packet_text (packet.Unwanted to w at hops) = codes "unwanted " ++ end_text to ++ numbers_text (w ∷ at ∷ hops ∷ [])
packet_text (packet.Parcel to n w at hops bytes moving) =
    codes "parcel " ++ end_text to ++ numbers_text (n ∷ w ∷ at ∷ hops ∷ []) ++ codes " " ++ bytes_text bytes ++ values_text moving
packet_text (packet.Taken to n at hops) = codes "taken " ++ end_text to ++ numbers_text (n ∷ at ∷ hops ∷ [])
packet_text (packet.Back to n moving) = codes "back " ++ end_text to ++ numbers_text (n ∷ []) ++ values_text moving
packet_text (packet.Gone to at) = codes "gone " ++ end_text to ++ numbers_text (at ∷ [])
packet_text (packet.Moved to at hops) = codes "moved " ++ end_text to ++ numbers_text (at ∷ hops ∷ [])
packet_text (packet.Known to hops) = codes "known " ++ end_text to ++ numbers_text (hops ∷ [])
packet_text (packet.Forget to hops) = codes "forget " ++ end_text to ++ numbers_text (hops ∷ [])
packet_text (packet.GoneSeen to) = codes "goneseen " ++ end_text to

-- a cause of refusal, by its name
abbrev pub cause_text : Cause → List ℕ
cause_text cause.NoEnd = codes "NoEnd"
cause_text cause.Busy = codes "Busy"
cause_text cause.Dead = codes "Dead"
cause_text cause.EncloseNoEnd = codes "EncloseNoEnd"
cause_text cause.EncloseBusy = codes "EncloseBusy"
cause_text cause.EncloseSame = codes "EncloseSame"
cause_text cause.Late = codes "Late"
cause_text cause.NoActivity = codes "NoActivity"
cause_text cause.LinksFull = codes "LinksFull"
cause_text cause.EncloseTwice = codes "EncloseTwice"

-- how an activity was over, with the bytes that were received and the ends that were received or came back
abbrev pub result_text : Way → Outcome → List ℕ → List EndId → List ℕ
result_text Outward Done bytes ends = codes " done"
result_text Outward Destroyed bytes ends = codes " destroyed" ++ ends_text ends
result_text Inward Done bytes ends = codes " done " ++ bytes_text bytes ++ ends_text ends
result_text Inward Destroyed bytes ends = codes " destroyed"

-- a report, as `. report p1 0.0b in done hello`
abbrev pub report_text : Pid → Report → List ℕ
report_text p r =
    codes ". report " ++ process_text p ++ codes " " ++ end_text r.on ++ codes " " ++ way_text r.way
    ++ result_text r.way r.outcome r.bytes r.enclosed

-- a word that stands only where a Cancel was answered so
abbrev pub suffix_text : Bool → List ℕ → List ℕ
suffix_text said word = if said then codes " " ++ word else []

-- a service step
abbrev pub step_text : ServiceStep → List ℕ
step_text (step.Make p a b) = codes ". make " ++ end_text a ++ codes " " ++ end_text b
step_text (step.Refuse p call cause) = codes ". refuse " ++ process_text p ++ codes " " ++ cause_text cause
step_text (step.Destroy on) = codes ". destroy " ++ end_text on
step_text (step.Send on n bytes enclose) = codes ". send " ++ end_text on ++ numbers_text (n ∷ []) ++ ends_text enclose
step_text (step.Receive on) = codes ". receive " ++ end_text on
step_text (step.Cancel on way) = codes ". cancel " ++ end_text on ++ codes " " ++ way_text way
step_text (step.Wait p) = codes ". wait " ++ process_text p
step_text (step.Report p r) = report_text p r
step_text (step.Exit p) = codes ". exit " ++ process_text p
step_text (step.Match on n) = codes ". match " ++ end_text on ++ numbers_text (n ∷ [])
step_text (step.Take on n p late) =
    codes ". take " ++ end_text on ++ numbers_text (n ∷ []) ++ codes " " ++ process_text p ++ suffix_text late (codes "late")
step_text (step.Complete on n) = codes ". complete " ++ end_text on ++ numbers_text (n ∷ [])
step_text (step.Withdraw on) = codes ". withdraw " ++ end_text on
step_text (step.Free on) = codes ". free " ++ end_text on
step_text (step.Notice on dead) = codes ". notice " ++ end_text on ++ suffix_text dead (codes "dead")
step_text (step.Back on n dead) = codes ". back " ++ end_text on ++ numbers_text (n ∷ []) ++ suffix_text dead (codes "dead")

-- what happened: the process and its call, or the kernel and its packet
abbrev pub happened_text : Happened → List ℕ
happened_text (Asked p call) = codes " " ++ process_text p ++ codes " " ++ call_text call
happened_text (Took from picture) = codes " from " ++ number_text from ++ codes " " ++ packet_text picture.what

-- an entry: its stamp, its kernel and what happened
abbrev pub entry_text : Placed → List ℕ
entry_text p = number_text p.entry.stamp ++ codes " k" ++ number_text p.kernel ++ happened_text p.entry.what

-- a line is ended by a line feed
abbrev pub line : List ℕ → List ℕ
line text = text ++ line_feed ∷ []

-- the line of an entry and, below it, those of its service steps
abbrev pub entry_lines : Placed → List (List ℕ)
entry_lines p = line (entry_text p) ∷ map (λ s. line (step_text s)) p.entry.steps

-- a process with its kernel
abbrev pub process_home_text : ℕ → ℕ → List ℕ
process_home_text number home = codes "process " ++ number_text number ++ codes " on " ++ number_text home

-- each process with its kernel; the first has this number
abbrev pub process_lines : ℕ → List ℕ → List (List ℕ)
process_lines number [] = []
process_lines number (home ∷ homes) =
    line (process_home_text number home) ∷ process_lines (number + 1) homes

-- a wire with its two processes
abbrev pub wire_text : Pid × Pid → List ℕ
wire_text wire = codes "wire" ++ numbers_text (wire.0.0 ∷ wire.1.0 ∷ [])

-- the lines of a setting
abbrev pub header_lines : Setting → List (List ℕ)
header_lines s =
    line (codes "transcript " ++ number_text s.version)
    ∷ line (codes "kernels " ++ number_text s.kernels)
    ∷ process_lines 0 s.homes ++ map (λ wire. line (wire_text wire)) s.wires

-- what a script's line did not do
abbrev pub note_text : ScriptNote → List ℕ
note_text n = codes "note " ++ number_text n.line ++ (if n.waits then codes " waits" else codes " nothing")

-- how the run ended
abbrev pub last_text : Last → List ℕ
last_text Quiet = codes "quiet"
last_text Unsettled = codes "open"
last_text (Spent kernel) = codes "spent " ++ number_text kernel

-- the lines of a transcript
abbrev pub transcript_lines : Setting → List Placed → List ScriptNote → Last → List (List ℕ)
transcript_lines s merged notes last =
    header_lines s ++ flat_map entry_lines merged ++ map (λ n. line (note_text n)) notes ++ line (last_text last) ∷ []
