-- Sends as a table keeps them at their ends, and the messages that wait beside.
use Rattle.std.specs.Prelude.{◌≡◌, ◌≤◌, length, Option, None, Some, IfSome, IsSome}
use Rattle.std.specs.Map.{lookup}
use Rattle.charlotte_calls.specs.declared.names.EndId.{EndId}
use Rattle.end_table.specs.declared.entry.Entry.{Entry}
use Rattle.end_table.specs.declared.entry.Entry.TheVariants as entry
use Rattle.end_table.specs.declared.entry.Outward.{Outward}
use Rattle.end_table.specs.declared.entry.Outward.TheVariants as outward
use Rattle.end_table.specs.declared.entry.Sending.{Sending}
use Rattle.end_table.specs.declared.entry.Sending.TheVariants as sending
use Rattle.end_table.specs.declared.message.Message.{Message}
use Rattle.end_table.specs.Kept.{MessagesView}
use Rattle.end_table.specs.Place.{end_eq}
use Rattle.end_table.specs.Table.{TableView, entries, HasPlace}

-- a send, with what proofs see of its message
abbrev pub outward_of : Sending → Outward
outward_of sending.Idle = outward.Idle
outward_of (sending.Waiting n message) = outward.Waiting n message.bytes message.enclosed
outward_of (sending.Matched n) = outward.Matched n
outward_of sending.Unreported = outward.Unreported

-- the message of a send that waits
abbrev pub message_of : Outward → Option Message
message_of outward.Idle = None
message_of (outward.Waiting n bytes enclosed) = Some (record { bytes = bytes; enclosed = enclosed })
message_of (outward.Matched n) = None
message_of outward.Unreported = None

-- the message that waits at an entry
abbrev pub waiting_message : Entry → Option Message
waiting_message entry.Nothing = None
waiting_message (entry.Here v) = message_of v.outward
waiting_message (entry.Left to hops) = None
waiting_message (entry.Destroyed m) = None

-- the message that waits at an entry is kept beside the entries; only ends with a place have a message; and there is room
-- for as many messages as there are places
pub record HoldsMessages (t : TableView) (messages : MessagesView) : Type 0 where
  pub each : (end : EndId) → IfSome (waiting_message (entries t end)) (λ m. lookup (end_eq end) messages.kept ≡ Some m)
  pub placed : (end : EndId) → IsSome (lookup (end_eq end) messages.kept) → HasPlace t end
  pub room : length t.places ≤ messages.most

-- there are no more places than before
abbrev pub HasNoMorePlaces : TableView → TableView → Type 0
HasNoMorePlaces old new = length new.places ≤ length old.places
