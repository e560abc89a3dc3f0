-- What was reserved is enough for the packet.
use Rattle.std.proofs.Common.{◌≡◌, ◌<◌, true, subst}
use Rattle.charlotte_packets.specs.Packets.{what_picture}
use Rattle.charlotte_calls.specs.declared.names.EndId.{EndId}
use Rattle.charlotte_packets.specs.declared.work.Room.{Room}
use Rattle.end_table.specs.Table.{entries}
use Rattle.end_table.specs.declared.entry.Entry.{Entry}
use Rattle.kernel_core.proofs.Begun.{begun-plain}
use Rattle.kernel_event.specs.Room.{room_of_packet}
use Rattle.kernel_process.specs.Closing.{HaveSpare}
use Rattle.kernel_touched.specs.Found.{IsHeard}
use Rattle.kernel_core.proofs.taking.reserve_taking.Goals as goal

pub returns-clause-ready : goal.returns-clause-ready
returns-clause-ready c =
    record {
      begun = begun-plain (room_of_packet c.args.what.now) c.room_of_packet-room.result 0 c.begin.new.self c.room_of_packet-room.ensures c.in_ok-begin.ensures.begun;
      placed = c.in_ok-reserve_brought.ensures.placed;
      spare = λ heard. subst (λ (r : Room). 0 < r.reports → HaveSpare r.reports c.reserve_processes.new.processes) c.room_of_packet-room.ensures
          (c.in_ok-reserve_processes.ensures.spare (told heard));
      place = λ heard. c.in_ok-reserve_processes.ensures.place (told heard);
    }
  where
    told : IsHeard (entries c.reserve_brought.new.table) (what_picture c.args.what.now) → c.args.heard ≡ true
    told heard = c.requires.heard (subst (λ (t : EndId → Entry). IsHeard t (what_picture c.args.what.now)) c.reserve_brought.ensures.entries heard)
