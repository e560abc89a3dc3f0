-- Calls that are due on an end, and what their answers and reports do with it.
use Rattle.std.specs.Prelude.{Bool, true, false, not, ◌&&◌, ◌||◌, ℕ, if◌then◌else◌, List, [], ◌∷◌, ◌++◌, take, Option, None, Some, is_some}
use Rattle.charlotte_calls.specs.declared.names.EndId.{EndId}
use Rattle.lynx_packets.specs.declared.packet.RtPacket.TheVariants as packets
use Rattle.end_protocol.specs.declared.going.Due.{Due}
use Rattle.end_protocol.specs.declared.going.Due.TheVariants as due
use Rattle.end_protocol.specs.declared.kept.Forbade.{Forbade}
use Rattle.end_protocol.specs.declared.kept.Kept.{Kept}
use Rattle.end_protocol.specs.declared.kept.Receiving.TheVariants as receiving
use Rattle.end_protocol.specs.declared.kept.Sending.{Sending}
use Rattle.end_protocol.specs.declared.kept.Sending.TheVariants as sending
use Rattle.end_protocol.specs.declared.messages.Message.{Message}
use Rattle.end_protocol.specs.Lists.{head, tail, is_nil}
use Rattle.end_protocol.specs.Messages.{most_of}
use Rattle.end_protocol.specs.Wanting.{is_needed, is_silent, is_deaf, may_cancel, taker}
use Rattle.end_protocol.specs.Falling.{is_own}

-- ---- allow

-- what was forbidden is wanted now, or nothing is received any more
abbrev pub is_allow_due : Bool → Forbade → Kept → Bool
is_allow_due room f k = is_some (taker room f.signature k) || not (is_needed room k)

-- the request that was forbidden may be sent again
unfoldable pub allows : ℕ → Kept → Kept
allows number k = record k { forbade = None; queue = k.queue ++ record { packet = packets.Allow number; ends = [] } ∷ [] }

-- an allow is queued as soon as it is due
abbrev pub settled_with : Option Forbade → Bool → Kept → Kept
settled_with None room k = k
settled_with (Some f) room k = if is_allow_due room f k then allows f.number k else k

abbrev pub settled : Bool → Kept → Kept
settled room k = settled_with k.forbade room k

-- ---- calls

-- the first call that is due: a Send of the first packet that is queued, a Receive that is needed, a Cancel of one that is not
unfoldable pub due_call : Bool → Kept → Due
due_call room k =
    if is_silent k.sending && not (is_nil k.queue) then due.Send
    else if is_deaf k.receiving && is_needed room k then due.Receive
    else if may_cancel k.receiving && not (is_needed room k) then due.Cancel
    else due.Nothing

-- the ends that a Send of a message encloses
abbrev pub enclosed : ℕ → Message → List EndId
enclosed version m = take (most_of version) m.ends

-- ---- answers and reports

-- a send of the message is started
abbrev pub sending_of : Option Message → Sending
sending_of None = sending.Idle
sending_of (Some m) = if is_own m.packet then sending.Own else sending.Back

-- a Send was answered Ok: the packet leaves the queue
unfoldable pub sent : Kept → Kept
sent k = record k { queue = tail k.queue; sending = sending_of (head k.queue) }

-- a send was reported
abbrev pub send_over : Kept → Kept
send_over k = record k { sending = sending.Idle }

-- the ends that a report Destroyed of the send returns are held again
abbrev pub returns : Sending → Bool
returns sending.Own = true
returns _ = false

-- a Receive was answered Ok
abbrev pub receives : Kept → Kept
receives k = record k { receiving = receiving.Started }

-- a receive was reported, or its Cancel was answered Ok
abbrev pub receive_over : Kept → Kept
receive_over k = record k { receiving = receiving.Idle }

-- the Cancel of a receive was answered Late or Dead
abbrev pub cancel_late : Kept → Kept
cancel_late k = record k { receiving = receiving.Late }
