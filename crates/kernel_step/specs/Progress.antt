-- How far an event has come at one kernel: the table as it is now, and what the event added so far.
use Rattle.std.specs.Prelude.{◌≡◌, ℕ, ◌+◌, ◌≤◌, List, [], ◌∷◌, ◌++◌, length, map, vec_len, vec_capacity}
use Rattle.charlotte_packets.specs.Packets.{packet_picture}
use Rattle.charlotte_calls.specs.declared.calls.Answer.{Answer}
use Rattle.charlotte_calls.specs.declared.calls.Report.{Report}
use Rattle.charlotte_calls.specs.declared.calls.ServiceStep.{ServiceStep}
use Rattle.charlotte_calls.specs.declared.names.EndId.{EndId}
use Rattle.charlotte_calls.specs.declared.names.Pid.{Pid}
use Rattle.charlotte_packets.specs.declared.packet.Packet.{Packet}
use Rattle.charlotte_packets.specs.declared.work.Room.{Room}
use Rattle.charlotte_packets.specs.declared.work.Work.{Work}
use Rattle.charlotte_packets.specs.declared.picture.Picture.{Picture}
use Rattle.charlotte_packets.specs.declared.picture.PictureWhat.{PictureWhat}
use Rattle.end_table.specs.declared.entry.Entry.{Entry}
use Rattle.end_table.specs.Place.{put}
use Rattle.end_table.specs.Table.{TableView}

pub record Progress : Type 0 where
  -- what the kernel keeps of each end
  pub table : EndId → Entry
  -- the stamp of the event, which its packets carry
  pub stamp : ℕ
  -- the packets sent, each with the kernel that it goes to
  pub packets : List (ℕ × Picture)
  -- the reports, each for the process whose list it joins
  pub reports : List (Pid × Report)
  -- the answers to Cancels that waited
  pub answers : List (Pid × Answer)
  -- what the event means to the link service
  pub steps : List ServiceStep

-- one packet more
unfoldable pub sends : ℕ → PictureWhat → Progress → Progress
sends to what d = record d { packets = d.packets ++ (to, record { stamp = d.stamp; what = what }) ∷ [] }

-- one report more
unfoldable pub reports_to : Pid → Report → Progress → Progress
reports_to p r d = record d { reports = d.reports ++ (p, r) ∷ [] }

-- one answer more
unfoldable pub answers_to : Pid → Answer → Progress → Progress
answers_to p a d = record d { answers = d.answers ++ (p, a) ∷ [] }

-- one service step more
unfoldable pub means : ServiceStep → Progress → Progress
means step d = record d { steps = d.steps ++ step ∷ [] }

-- the entry of one end changed
unfoldable pub keeps : EndId → Entry → Progress → Progress
keeps end x d = record d { table = put d.table end x }

-- a packet that is sent, as plain data
abbrev pub sent_picture : ℕ × Packet → ℕ × Picture
sent_picture sent = (sent.0, packet_picture sent.1)

-- how far an event has come, as a table and a `Work` have it
unfoldable pub progress : (EndId → Entry) → Work → Progress
progress t out =
    record {
      table = t;
      stamp = out.stamp;
      packets = map sent_picture out.packets.items;
      reports = out.reports.items;
      answers = out.answers.items;
      steps = out.steps.items;
    }

-- the lists have this spare room
pub record HasRoom (room : Room) (out : Work) : Type 0 where
  pub packets : length out.packets.items + room.packets ≤ out.packets.fits
  pub reports : vec_len out.reports + room.reports ≤ vec_capacity out.reports
  pub answers : vec_len out.answers + room.answers ≤ vec_capacity out.answers
  pub steps : vec_len out.steps + room.steps ≤ vec_capacity out.steps

-- no list took memory, and none gained more than this room
pub record AddsAtMost (room : Room) (old new : Work) : Type 0 where
  pub packets : length new.packets.items ≤ length old.packets.items + room.packets
  pub reports : vec_len new.reports ≤ vec_len old.reports + room.reports
  pub answers : vec_len new.answers ≤ vec_len old.answers + room.answers
  pub steps : vec_len new.steps ≤ vec_len old.steps + room.steps
  pub packets_in_place : new.packets.fits ≡ old.packets.fits
  pub reports_in_place : vec_capacity new.reports ≡ vec_capacity old.reports
  pub answers_in_place : vec_capacity new.answers ≡ vec_capacity old.answers
  pub steps_in_place : vec_capacity new.steps ≡ vec_capacity old.steps

-- a part of an event stays within a room: the table is that of the same kernel, and the lists gain no more than the room
pub record StaysWithin (room : Room) (before after : TableView) (old new : Work) : Type 0 where
  pub kernel : after.kernel ≡ before.kernel
  pub added : AddsAtMost room old new
