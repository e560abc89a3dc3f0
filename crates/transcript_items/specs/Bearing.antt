-- Which items of what is kept bear on a line: those with which a replay compares it.
use Rattle.std.specs.Prelude.{ℕ, Bool, List, [], ◌∷◌, ◌++◌, map, Option, Some, None, if◌then◌else◌}
use Rattle.std.specs.List.{flat_map, list_any}
use Rattle.charlotte_calls.specs.Names.{opposite}
use Rattle.charlotte_calls.specs.declared.calls.ServiceStep.{ServiceStep}
use Rattle.charlotte_calls.specs.declared.names.EndId.{EndId}
use Rattle.charlotte_calls.specs.declared.names.Pid.{Pid}
use Rattle.transcript_lines.specs.declared.last.Last.{Last}
use Rattle.transcript_lines.specs.declared.last.Last.TheVariants.{Quiet, Unsettled, Spent}
use Rattle.transcript_reading.specs.Kinds.{shown_step}
use Rattle.transcript_reading.specs.declared.line.LineKind.{LineKind}
use Rattle.transcript_reading.specs.declared.line.LineKind.TheVariants as line
use Rattle.transcript_reading.specs.declared.line.ServiceLine.{ServiceLine}
use Rattle.transcript_reading.specs.declared.line.ServiceLine.TheVariants as service
use Rattle.transcript_items.specs.contracts.bearing.ItemPartialEq.TheImpl as derived
use Rattle.transcript_items.specs.declared.bearing.Item.{Item}
use Rattle.transcript_items.specs.declared.bearing.Item.TheVariants as item

-- what is known before a line: stamp and kernel of the last entry, the step that is due, the kernel of the process that the line names,
-- and each way on which a packet waits, from a kernel to a kernel
pub record Known : Type 0 where
  pub latest : Option (ℕ × ℕ)
  pub due : Option ServiceStep
  pub home : Option ℕ
  pub waiting : List (ℕ × ℕ)

-- what a service line names: a process, and ends; of a message that is taken the end at which it is, which is the opposite one
pub record Named : Type 0 where
  pub process : Option Pid
  pub ends : List EndId

abbrev pub listed : Option EndId → List EndId
listed None = []
listed (Some end) = end ∷ []

abbrev pub ends_alone : List EndId → Named
ends_alone ends = record { process = None; ends = ends }

abbrev pub process_with : Pid → List EndId → Named
process_with p ends = record { process = Some p; ends = ends }

abbrev pub named : ServiceLine → Named
named (service.Make a b) = ends_alone (a ∷ b ∷ [])
named (service.Refuse p cause) = process_with p []
named (service.Destroy on) = ends_alone (on ∷ [])
named (service.Send on n enclose) = ends_alone (on ∷ enclose)
named (service.Receive on) = ends_alone (on ∷ [])
named (service.Cancel on way) = ends_alone (on ∷ [])
named (service.Wait p) = process_with p []
named (service.Report p report) = process_with p (report.on ∷ report.enclosed)
named (service.Exit p) = process_with p []
named (service.Match on n) = ends_alone (on ∷ [])
named (service.Take on n p late) = process_with p (opposite on ∷ [])
named (service.Complete on n) = ends_alone (on ∷ [])
named (service.Withdraw on) = ends_alone (on ∷ [])
named (service.Free on) = ends_alone (on ∷ [])
named (service.Notice on dead) = ends_alone (on ∷ [])
named (service.Back on n dead) = ends_alone (on ∷ [])

-- ---- items

abbrev pub of_latest : Option (ℕ × ℕ) → List Item
of_latest None = []
of_latest (Some at) = item.LastEntry at.0 at.1 ∷ []

abbrev pub of_process : Option Pid → List Item
of_process None = []
of_process (Some p) = item.Process p ∷ []

abbrev pub of_home : Option ℕ → List Item
of_home None = []
of_home (Some kernel) = item.Stamp kernel ∷ []

-- an end at the kernel of the last entry, and in the link service
abbrev pub of_end : Option (ℕ × ℕ) → EndId → List Item
of_end None end = item.Place end ∷ []
of_end (Some at) end = item.Entry at.1 end ∷ item.Place end ∷ []

-- a service step: its process and its ends, at the event that it is of
abbrev pub of_named : Option (ℕ × ℕ) → Named → List Item
of_named latest n = of_process n.process ++ flat_map (of_end latest) n.ends

abbrev pub of_way : ℕ × ℕ → Item
of_way way = item.Way way.0 way.1

-- a last line tells of packets that wait, or of a kernel
abbrev pub of_waiting : List (ℕ × ℕ) → List Item
of_waiting [] = item.NoPacket ∷ []
of_waiting (way ∷ ways) = map of_way (way ∷ ways)

abbrev pub of_last : Known → Last → List Item
of_last k Quiet = of_waiting k.waiting
of_last k Unsettled = of_waiting k.waiting
of_last k (Spent kernel) = item.Stamp kernel ∷ []

-- Where no step is due. A call has the next stamp of its process's kernel, and that process runs; a packet has the stamp behind those of
-- its kernel and of the packet, which is the first on its way; both come behind the last entry.
abbrev pub of_line : Known → LineKind → List Item
of_line k (line.CallEntry stamp kernel p call) = of_latest k.latest ++ of_home k.home ++ item.Process p ∷ []
of_line k (line.PacketEntry stamp kernel from picture) = of_latest k.latest ++ item.Stamp kernel ∷ item.Way from kernel ∷ []
of_line k (line.Service s) = of_latest k.latest ++ of_named k.latest (named s)
of_line k (line.End last) = of_last k last
of_line k other = []

-- what a line names as a service line
abbrev pub of_shown : Option (ℕ × ℕ) → LineKind → List Item
of_shown latest (line.Service s) = of_named latest (named s)
of_shown latest other = []

-- where a step is due, it is that which stands there: its items, and those that the line names besides
abbrev pub of_due : Known → ServiceStep → LineKind → List Item
of_due k step kind = of_latest k.latest ++ of_named k.latest (named (shown_step step)) ++ of_shown k.latest kind

abbrev pub where_due : Option ServiceStep → Known → LineKind → List Item
where_due None k kind = of_line k kind
where_due (Some step) k kind = of_due k step kind

abbrev pub mentioned : Known → LineKind → List Item
mentioned k kind = where_due k.due k kind

-- two items are the same, as `==` of items tells
unfoldable pub item_eq : Item → Item → Bool
item_eq = (derived.ghosts).eq

-- an item that is not there yet, behind those that are
abbrev pub add_once : Item → List Item → List Item
add_once x items = if list_any (λ y. item_eq y x) items then items else items ++ x ∷ []

abbrev pub add_each : List Item → List Item → List Item
add_each [] items = items
add_each (x ∷ xs) items = add_each xs (add_once x items)

-- the items that bear on a line, each once
abbrev pub bearing : Known → LineKind → List Item
bearing k kind = add_each (mentioned k kind) []
