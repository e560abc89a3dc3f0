-- The law of one link.
use Rattle.std.specs.Prelude.{◌≡◌, ◌⊎◌, Bool, false, ℕ, List, ◌++◌, map}
use Rattle.std.specs.List.{AllByRecursion, flat_map}
use Rattle.charlotte_calls.specs.declared.names.EndId.{EndId}
use Rattle.lynx_packets.specs.declared.packet.RtPacket.TheVariants as packets
use Rattle.end_protocol.specs.declared.hearing.Heard.TheVariants as heard
use Rattle.end_protocol.specs.declared.kept.Kept.{Kept}
use Rattle.end_protocol.specs.declared.kept.Response.{Response}
use Rattle.end_protocol.specs.declared.messages.Message.{Message}
use Rattle.end_protocol.specs.Falling.{outstanding_ends, reply_ends, request_ends}
use Rattle.end_protocol.specs.Hearing.{has_results, hears}
use Rattle.request_meaning.specs.Requests.{AreExchanged, Request, accepted, issued, replied, returned}
use Rattle.request_meaning.specs.Views.{back_in, forth_in}
use Rattle.request_meaning.specs.Phases.{request_in}
use Rattle.request_meaning.specs.Links.{Link, turned}

-- After any steps of both ends, and seen from either end: what was accepted at the opposite is what was issued first, what was returned is what the
-- opposite replied first, and replies go to the requests that were accepted, in order
pub record IsInOrder (l : Link) : Type 0 where
  pub near : AreExchanged l.near_deeds l.far_deeds
  pub far : AreExchanged l.far_deeds l.near_deeds

-- ---- where the ends of a request are

-- the ends in messages
abbrev pub ends_in : List Message → List EndId
ends_in ms = flat_map (λ m. m.ends) ms

-- what is queued or on its way from who asks, and to it
abbrev pub forth_on : Link → List Message
forth_on l = forth_in l.there ++ forth_in l.near.queue

abbrev pub back_on : Link → List Message
back_on l = back_in l.here ++ back_in l.far.queue

-- Of the requests that are asked at the end that is near: each that was issued is accepted, or under way, or waits behind another one, and each reply
-- that was made is returned or under way
pub record EndsAreThere (l : Link) : Type 0 where
  pub under_way : List Request
  pub issued_is : issued l.near_deeds ≡ accepted l.far_deeds ++ (under_way ++ map request_in l.near.behind)
  -- its ends are, in order, with the request in part, in its packets, in a packet that brings them back, and with the connect
  pub ends : AllByRecursion (λ r. r.ends ≡ request_ends l.far.request ++ (ends_in (forth_on l) ++ (ends_in (back_on l) ++ outstanding_ends l.near.outstanding))) under_way
  pub coming_back : List Response
  pub replied_is : replied l.far_deeds ≡ returned l.near_deeds ++ coming_back
  -- those of a reply are with the reply in part, and in its packets
  pub reply_ends_are : AllByRecursion (λ r. r.ends ≡ reply_ends l.near.reply ++ ends_in (back_on l)) coming_back

-- of both ways
pub record AreAllThere (l : Link) : Type 0 where
  pub near_ends : EndsAreThere l
  pub far_ends : EndsAreThere (turned l)

-- ---- messages that can be read

-- the message is a reply whose values have not the types of the results that were asked for
pub record IsMistyped (m : Message) (k : Kept) : Type 0 where
  pub reply : Response
  pub packet : m.packet ≡ packets.Reply reply.number reply.status reply.values
  pub mistyped : has_results reply.status reply.values k.outstanding ≡ false

-- the next message that comes to the end that is near can be read, but for such a reply
pub record IsReadable (version : ℕ) (room : Bool) (m : Message) (k : Kept) : Type 0 where
  pub read : ((xs : List EndId) → (hears version room m.packet m.ends k).1 ≡ heard.Unreadable xs → ⊥) ⊎ IsMistyped m k
