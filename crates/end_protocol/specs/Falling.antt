-- What dies with a link.
use Rattle.std.specs.Prelude.{ℕ, true, false, Bool, if◌then◌else◌, List, [], ◌∷◌, ◌++◌, map, Option, None, Some}
use Rattle.std.specs.List.{flat_map}
use Rattle.charlotte_calls.specs.declared.names.EndId.{EndId}
use Rattle.lynx_packets.specs.declared.packet.RtPacket.{RtPacket}
use Rattle.lynx_packets.specs.declared.packet.RtPacket.TheVariants as packets
use Rattle.end_protocol.specs.declared.falling.Fallen.{Fallen}
use Rattle.end_protocol.specs.declared.kept.Kept.{Kept}
use Rattle.end_protocol.specs.declared.kept.Response.{Response}
use Rattle.end_protocol.specs.declared.kept.Wanted.{Wanted}
use Rattle.end_protocol.specs.declared.messages.Connect.{Connect}
use Rattle.end_protocol.specs.declared.messages.Message.{Message}

-- the end is dead: nothing of it is queued, nobody connects or accepts on it, no entry is bound to it, and no message is in part.
-- What it owes and what it forbade stays
unfoldable pub dies : Kept → Kept
dies k =
    record k {
      queue = [];
      outstanding = None;
      barred = false;
      behind = [];
      request = None;
      reply = None;
      accepts = [];
      bindings = [];
      dead = true;
    }

-- what falls when it dies or is destroyed
unfoldable pub fallen : Kept → Fallen
fallen k =
    record {
      queue = k.queue;
      outstanding = k.outstanding;
      behind = k.behind;
      request = k.request;
      reply = k.reply;
      accepts = k.accepts;
    }

-- the ends that travel with the packet were held by this process
abbrev pub is_own : RtPacket → Bool
is_own (packets.Retry number) = false
is_own (packets.Forbid number) = false
is_own _ = true

-- the ends of a packet that is not sent, if the process held them
abbrev pub own_ends : Message → List EndId
own_ends m = if is_own m.packet then m.ends else []

abbrev pub outstanding_ends : Option Connect → List EndId
outstanding_ends None = []
outstanding_ends (Some c) = c.ends

abbrev pub outstanding_thread : Option Connect → List ℕ
outstanding_thread None = []
outstanding_thread (Some c) = c.thread ∷ []

-- the ends that the process holds again: those of dropped packets, and those of connects that were in no packet
abbrev pub held_again : Fallen → List EndId
held_again f = flat_map own_ends f.queue ++ outstanding_ends f.outstanding ++ flat_map (λ c. c.ends) f.behind

abbrev pub request_ends : Option Wanted → List EndId
request_ends None = []
request_ends (Some w) = w.ends

abbrev pub reply_ends : Option Response → List EndId
reply_ends None = []
reply_ends (Some r) = r.ends

-- the ends that are destroyed: those of messages in part
abbrev pub destroyed : Fallen → List EndId
destroyed f = request_ends f.request ++ reply_ends f.reply

-- the threads in which DEADLINK is raised: those that connect, and those that accept
abbrev pub raised : Fallen → List ℕ
raised f = outstanding_thread f.outstanding ++ map (λ c. c.thread) f.behind ++ map (λ a. a.thread) f.accepts
