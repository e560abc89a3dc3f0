-- What an event may take for granted as it begins: what it is about, and its room.
use Rattle.std.specs.Prelude.{ℕ, ◌<◌, List, length, if◌then◌else◌}
use Rattle.charlotte_packets.specs.Packets.{is_addressed, what_picture}
use Rattle.charlotte_calls.specs.declared.names.EndId.{EndId}
use Rattle.charlotte_packets.specs.declared.packet.What.{What}
use Rattle.charlotte_packets.specs.declared.picture.PictureWhat.{PictureWhat}
use Rattle.end_table.specs.Table.{entries}
use Rattle.kernel_core.specs.Stepping.{Begins, AreListedFor}
use Rattle.kernel_core.specs.declared.state.Request.{Request}
use Rattle.kernel_core.specs.declared.state.State.{State}
use Rattle.kernel_event.specs.Places.{ArePlaced, IsPlacedFor, brought}
use Rattle.kernel_event.specs.Room.{room_of_call, room_of_packet}
use Rattle.kernel_step.specs.Room.{and_ends}
use Rattle.kernel_process.specs.Closing.{HaveSpare, HavePlace, IsBegun}
use Rattle.kernel_process.specs.declared.event.Event.{Event}
use Rattle.kernel_step.specs.Progress.{Progress}
use Rattle.kernel_step.specs.Rows.{row}
use Rattle.kernel_touched.specs.Found.{IsHeard}
use Rattle.kernel_touched.specs.Touched.{HavePlaceFor, touched_by}

-- a call of one of the kernel's processes, which owns these ends, in order, where it exits
pub record IsRequest (s : State) (r : Request) (mine : List EndId) : Type 0 where
  pub process : r.p.0 < length s.processes
  pub listed : AreListedFor r.p s.table mine r.call
  pub placed : IsPlacedFor r.call s.table s.made

-- all room that the event of a call needs was reserved
pub record IsReadyToCall (s : State) (r : Request) (mine : List EndId) (event : Event) : Type 0 where
  pub begun : IsBegun (and_ends (length mine) (room_of_call r.call)) 1 event
  pub begins : Begins s.table event.work.stamp event.work
  pub place : HavePlaceFor (touched_by (entries s.table) r.call) s.processes

-- all room that the event of a packet needs was reserved
pub record IsReadyToTake (s : State) (what : What) (event : Event) : Type 0 where
  pub begun : IsBegun (room_of_packet what) 0 event
  pub placed : ArePlaced s.table (brought what)
  pub spare : IsHeard (entries s.table) (what_picture what) → 0 < (room_of_packet what).reports
      → HaveSpare (room_of_packet what).reports s.processes
  pub place : IsHeard (entries s.table) (what_picture what) → HavePlace s.processes

-- what a kernel does with a packet: one that names a kernel that is not there is dropped
abbrev pub takes_addressed : ℕ → ℕ → ℕ → ℕ → PictureWhat → Progress → Progress
takes_addressed kernels k made from what d = if is_addressed what kernels then row k made from what d else d
