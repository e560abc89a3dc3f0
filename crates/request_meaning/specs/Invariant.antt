-- What holds of a link after any steps: while it lives how far a request has come each way, and once it was cut what may still come.
use Rattle.std.specs.Prelude.{◌≡◌, ◌⊎◌, Bool, true, false, ℕ, ◌+◌, List, [], ◌∷◌, ◌++◌, length, None, Some}
use Rattle.std.specs.List.{AllByRecursion}
use mathlib.Core.List.{IsPrefix}
use Rattle.charlotte_calls.specs.declared.names.EndId.{EndId}
use Rattle.lynx_packets.specs.declared.packet.RtPacket.{RtPacket}
use Rattle.lynx_packets.specs.declared.packet.RtPacket.TheVariants as packets
use Rattle.end_protocol.specs.declared.kept.Response.{Response}
use Rattle.end_protocol.specs.declared.kept.Taker.{Taker}
use Rattle.end_protocol.specs.declared.messages.Connect.{Connect}
use Rattle.end_protocol.specs.declared.messages.Message.{Message}
use Rattle.end_protocol.specs.Asking.{replies}
use Rattle.end_protocol.specs.Messages.{encs, request_of}
use Rattle.request_meaning.specs.Requests.{issued, accepted, replied, returned, request_numbers, reply_numbers}
use Rattle.request_meaning.specs.Views.{Asking, Serving, asking, serving, forth_in, back_in}
use Rattle.request_meaning.specs.Phases.{Exchange, HasLinks, IsExchange, owed_number, part, request_in, response_with}
use Rattle.request_meaning.specs.Links.{Link, turned}

-- what was done one way: issued and returned at the end that is near
abbrev pub exchange : Link → Exchange
exchange l =
    record {
      issued = issued l.near_deeds;
      accepted = accepted l.far_deeds;
      replied = replied l.far_deeds;
      returned = returned l.near_deeds;
    }

-- ---- while the link lives

-- the requests that are asked at the end that is near: what is on its way, and what is queued behind it
abbrev pub IsAsked : ℕ → Link → Type 0
IsAsked version l =
    IsExchange version (asking l.near) (serving l.far) (forth_in l.there ++ forth_in l.near.queue) (back_in l.here ++ back_in l.far.queue) (exchange l)

-- ---- what may still come to who serves, once the link was cut

-- the request that was issued next
pub record RequestComes (version : ℕ) (forth : List Message) (x : Exchange) : Type 0 where
  pub connect : Connect
  pub links : HasLinks connect.values connect.ends
  pub only : forth ≡ request_of version connect ∷ []
  pub next : IsPrefix (x.accepted ++ request_in connect ∷ []) x.issued

-- of a request in part, which was issued next, these ends came, and some of the others are still coming
pub record EndsCome (s : Serving) (forth : List Message) (x : Exchange) : Type 0 where
  pub connect : Connect
  pub by : Taker
  pub came : List EndId
  pub coming : List EndId
  pub links : HasLinks connect.values connect.ends
  pub all : came ++ coming ≡ connect.ends
  pub request : s.request ≡ Some (part connect by came)
  pub unowed : s.owed ≡ None
  pub first : IsPrefix forth (encs 1 connect.number (length came + 1) coming)
  pub next : IsPrefix (x.accepted ++ request_in connect ∷ []) x.issued

-- it serves no more: it is dead, or nothing is owed and nothing comes
pub record ServesNoMore (s : Serving) (forth : List Message) (x : Exchange) : Type 0 where
  pub over : (s.dead ≡ true) ⊎ ((s.owed ≡ None) × (forth ≡ []))
  pub answers : IsPrefix (reply_numbers x.replied) (request_numbers x.accepted)

-- it may accept what comes, and reply to what is owed
pub record ServesStill (version : ℕ) (s : Serving) (forth : List Message) (x : Exchange) : Type 0 where
  pub comes : (forth ≡ []) ⊎ (RequestComes version forth x ⊎ EndsCome s forth x)
  pub numbers : request_numbers x.accepted ≡ reply_numbers x.replied ++ owed_number s.owed

-- ---- what may still come to who asks, once the link was cut

-- the packet brings a reply, or a part of one
abbrev pub is_reply : RtPacket → Bool
is_reply (packets.Reply number status vs) = true
is_reply (packets.Enc kind number index) = true
is_reply _ = false

-- the reply that was made next, or the first packets of it
pub record ReplyComes (version : ℕ) (back : List Message) (x : Exchange) : Type 0 where
  pub reply : Response
  pub links : HasLinks reply.values reply.ends
  pub first : IsPrefix back (replies version reply)
  pub next : IsPrefix (x.returned ++ reply ∷ []) x.replied

-- of a reply in part, which was made next, these ends came, and some of the others are still coming
pub record ReplyEndsCome (a : Asking) (back : List Message) (x : Exchange) : Type 0 where
  pub connect : Connect
  pub reply : Response
  pub came : List EndId
  pub coming : List EndId
  pub links : HasLinks reply.values reply.ends
  pub all : came ++ coming ≡ reply.ends
  pub outstanding : a.outstanding ≡ Some connect
  pub part : a.reply ≡ Some (response_with came reply)
  pub first : IsPrefix back (encs 2 reply.number (length came + 1) coming)
  pub next : IsPrefix (x.returned ++ reply ∷ []) x.replied

-- it is dead, or nothing of a reply comes
abbrev pub HearsNoReply : Asking → List Message → Type 0
HearsNoReply a back = (a.dead ≡ true) ⊎ AllByRecursion (λ m. is_reply m.packet ≡ false) back

-- ---- once the link was cut

-- the requests that were asked at the end that is near: only what is on its way counts
pub record WasAsked (version : ℕ) (a : Asking) (s : Serving) (forth back : List Message) (x : Exchange) : Type 0 where
  pub requests : IsPrefix x.accepted x.issued
  pub replies : IsPrefix x.returned x.replied
  pub serves : ServesNoMore s forth x ⊎ ServesStill version s forth x
  pub hears : HearsNoReply a back ⊎ (ReplyComes version back x ⊎ ReplyEndsCome a back x)

abbrev pub WasAskedOn : ℕ → Link → Type 0
WasAskedOn version l =
    WasAsked version (asking l.near) (serving l.far) (forth_in l.there) (back_in l.here) (exchange l)

-- ---- both ways

pub record Lives (version : ℕ) (l : Link) : Type 0 where
  pub uncut : l.cut ≡ false
  pub near : IsAsked version l
  pub far : IsAsked version (turned l)

pub record WasCut (version : ℕ) (l : Link) : Type 0 where
  pub is_cut : l.cut ≡ true
  pub near : WasAskedOn version l
  pub far : WasAskedOn version (turned l)

abbrev pub IsLink : ℕ → Link → Type 0
IsLink version l = Lives version l ⊎ WasCut version l
