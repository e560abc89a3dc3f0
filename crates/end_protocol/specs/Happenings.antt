-- All that happens at an end, as one list: what the end keeps afterwards, and the deeds. The tests for exceptions are passed before.
use Rattle.std.specs.Prelude.{Bool, ℕ, List, [], ◌∷◌, ◌++◌}
use Rattle.charlotte_calls.specs.declared.names.EndId.{EndId}
use Rattle.lynx_packets.specs.declared.packet.RtPacket.{RtPacket}
use Rattle.end_protocol.specs.declared.kept.Accept.{Accept}
use Rattle.end_protocol.specs.declared.kept.Binding.{Binding}
use Rattle.end_protocol.specs.declared.kept.Kept.{Kept}
use Rattle.end_protocol.specs.declared.kept.Response.{Response}
use Rattle.end_protocol.specs.declared.messages.Connect.{Connect}
use Rattle.end_protocol.specs.Asking.{connected, accepts_too, binds, unbinds, replied}
use Rattle.end_protocol.specs.Hearing.{hears}
use Rattle.end_protocol.specs.Falling.{dies}
use Rattle.end_protocol.specs.Going.{settled, sent, send_over, receives, receive_over, cancel_late}
use Rattle.end_protocol.specs.Deeds.{Deed, issued_deeds, replied_deeds, heard_deeds}

pub data Happening : Type 0 where
  -- threads ask: a connect, an accept, a bind, an unbind, a reply or the failed reply of a close
  Connects : Connect → Happening
  Accepts : Accept → Happening
  Binds : Binding → Happening
  Unbinds : ℕ → Happening
  Replies : Response → Happening
  -- a packet is heard with these ends, while there is room for a thread or not
  Hears : Bool → RtPacket → List EndId → Happening
  -- an allow is queued if it is due
  Settles : Bool → Happening
  -- a Send is answered Ok, and reported
  Sends : Happening
  SendOver : Happening
  -- a Receive is answered Ok; it is reported, or its Cancel answered Ok; its Cancel is answered Late or Dead
  Receives : Happening
  ReceiveOver : Happening
  CancelLate : Happening
  -- the link dies, or the end is destroyed
  Dies : Happening

-- what is kept afterwards
abbrev pub after : ℕ → Happening → Kept → Kept
after version (Connects c) k = connected version c k
after version (Accepts a) k = accepts_too a k
after version (Binds b) k = binds b k
after version (Unbinds entry) k = unbinds entry k
after version (Replies r) k = replied version r k
after version (Hears room packet xs) k = (hears version room packet xs k).0
after version (Settles room) k = settled room k
after version Sends k = sent k
after version SendOver k = send_over k
after version Receives k = receives k
after version ReceiveOver k = receive_over k
after version CancelLate k = cancel_late k
after version Dies k = dies k

-- the deeds of it
abbrev pub deeds_of : ℕ → Happening → Kept → List Deed
deeds_of version (Connects c) k = issued_deeds c k
deeds_of version (Replies r) k = replied_deeds r k
deeds_of version (Hears room packet xs) k = heard_deeds (hears version room packet xs k).1
deeds_of version _ k = []

-- what is kept after all of it
abbrev pub after_all : ℕ → List Happening → Kept → Kept
after_all version [] k = k
after_all version (h ∷ hs) k = after_all version hs (after version h k)

-- the deeds of all of it, in order
abbrev pub all_deeds : ℕ → List Happening → Kept → List Deed
all_deeds version [] k = []
all_deeds version (h ∷ hs) k = deeds_of version h k ++ all_deeds version hs (after version h k)
