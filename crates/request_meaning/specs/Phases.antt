-- How far a request has come. What both ends keep for requests of one way, and what is between the two, is what the phase says.
use Rattle.std.specs.Prelude.{◌≡◌, ℕ, ◌+◌, ◌≤◌, Bool, true, false, List, [], ◌∷◌, ◌++◌, length, map, take, Option, None, Some, ⊤}
use Rattle.std.specs.List.{AllByRecursion}
use Rattle.charlotte_calls.specs.declared.names.EndId.{EndId}
use Rattle.lynx_packets.specs.declared.packet.RtPacket.TheVariants as packets
use Rattle.lynx_packets.specs.declared.value.RtValue.{RtValue}
use Rattle.lynx_packets.specs.Spelling.{links_of}
use Rattle.end_protocol.specs.declared.kept.Forbade.{Forbade}
use Rattle.end_protocol.specs.declared.kept.Response.{Response}
use Rattle.end_protocol.specs.declared.kept.Taker.{Taker}
use Rattle.end_protocol.specs.declared.kept.Wanted.{Wanted}
use Rattle.end_protocol.specs.declared.messages.Connect.{Connect}
use Rattle.end_protocol.specs.declared.messages.Message.{Message}
use Rattle.end_protocol.specs.Asking.{replies}
use Rattle.end_protocol.specs.Messages.{most_of, request_of, left_of, encs}
use Rattle.request_meaning.specs.Requests.{Request, request_numbers, reply_numbers}
use Rattle.request_meaning.specs.Views.{Asking, Serving}

-- The connect has all ends of its request, also where some are elsewhere
pub data Phase : Type 0 where
  -- no request is outstanding
  Quiet : Phase
  -- the request is queued or on its way
  Asked : Connect → Phase
  -- it comes back with a retry
  Retried : Connect → Phase
  -- it comes back with a forbid. Whether an allow comes behind that
  Forbidden : Connect → Bool → Phase
  -- the forbid came. Whether an allow is on its way
  Barred : Connect → Bool → Phase
  -- in version 1 a goahead is on its way, for this one who wants the request
  LetCome : Connect → Taker → Phase
  -- these ends came, and of the others, of which there is one at least, the enc are on their way
  Coming : Connect → Taker → List EndId → EndId → List EndId → Phase
  -- it is accepted, and owed a reply
  Owed : Connect → Phase
  -- the reply is on its way
  Replied : Connect → Response → Phase
  -- of the reply these ends came, and the enc of the others are on their way
  Returning : Connect → Response → List EndId → EndId → List EndId → Phase

-- ---- the tables

-- what stands where no request is outstanding, and what is on its way
pub record Standing : Type 0 where
  pub outstanding : Option Connect
  pub barred : Bool
  pub reply : Option Response
  pub owed : Option ℕ
  pub forbade : Option Forbade
  pub request : Option Wanted
  -- what is queued or on its way from who asks, and to it
  pub forth : List Message
  pub back : List Message

abbrev pub nothing : Standing
nothing =
    record {
      outstanding = None;
      barred = false;
      reply = None;
      owed = None;
      forbade = None;
      request = None;
      forth = [];
      back = [];
    }

-- a packet with these ends
abbrev pub retry : ℕ → List EndId → Message
retry number xs = record { packet = packets.Retry number; ends = xs }

abbrev pub forbid : ℕ → List EndId → Message
forbid number xs = record { packet = packets.Forbid number; ends = xs }

abbrev pub allow : ℕ → Message
allow number = record { packet = packets.Allow number; ends = [] }

abbrev pub goahead : ℕ → Message
goahead number = record { packet = packets.GoAhead number; ends = [] }

-- what was forbidden, until an allow is queued
abbrev pub forbidden : Connect → Bool → Option Forbade
forbidden c true = None
forbidden c false = Some (record { number = c.number; signature = c.signature })

abbrev pub allowed : Connect → Bool → List Message
allowed c true = allow c.number ∷ []
allowed c false = []

-- the request in part, with these ends
abbrev pub part : Connect → Taker → List EndId → Wanted
part c by xs = record { by = by; number = c.number; signature = c.signature; values = c.values; ends = xs }

-- the connect with these ends
abbrev pub connect_with : List EndId → Connect → Connect
connect_with xs c = record c { ends = xs }

abbrev pub response_with : List EndId → Response → Response
response_with xs r = record r { ends = xs }

-- what stands in a phase, and what is on its way
abbrev pub stands : ℕ → Phase → Standing
stands version Quiet = nothing
stands version (Asked c) =
    record nothing { outstanding = Some (left_of version c); forth = request_of version c ∷ [] }
stands version (Retried c) =
    record nothing { outstanding = Some (left_of version c); back = retry c.number (take (most_of version) c.ends) ∷ [] }
stands version (Forbidden c b) =
    record nothing {
      outstanding = Some (left_of version c);
      forbade = forbidden c b;
      back = forbid c.number (take (most_of version) c.ends) ∷ allowed c b;
    }
stands version (Barred c b) =
    record nothing { outstanding = Some c; barred = true; forbade = forbidden c b; back = allowed c b }
stands version (LetCome c by) =
    record nothing {
      outstanding = Some (left_of version c);
      request = Some (part c by (take (most_of version) c.ends));
      back = goahead c.number ∷ [];
    }
stands version (Coming c by came x xs) =
    record nothing {
      outstanding = Some (connect_with [] c);
      request = Some (part c by came);
      forth = encs 1 c.number (length came + 1) (x ∷ xs);
    }
stands version (Owed c) = record nothing { outstanding = Some (connect_with [] c); owed = Some c.number }
stands version (Replied c r) =
    record nothing { outstanding = Some (connect_with [] c); back = replies version r }
stands version (Returning c r came x xs) =
    record nothing {
      outstanding = Some (connect_with [] c);
      reply = Some (response_with came r);
      back = encs 2 r.number (length came + 1) (x ∷ xs);
    }

-- the request that was issued, and is not accepted yet
abbrev pub request_in : Connect → Request
request_in c = record { number = c.number; signature = c.signature; values = c.values; ends = c.ends }

abbrev pub unaccepted : Phase → List Request
unaccepted Quiet = []
unaccepted (Asked c) = request_in c ∷ []
unaccepted (Retried c) = request_in c ∷ []
unaccepted (Forbidden c b) = request_in c ∷ []
unaccepted (Barred c b) = request_in c ∷ []
unaccepted (LetCome c by) = request_in c ∷ []
unaccepted (Coming c by came x xs) = request_in c ∷ []
unaccepted (Owed c) = []
unaccepted (Replied c r) = []
unaccepted (Returning c r came x xs) = []

-- the reply that was made, and is not returned yet
abbrev pub unreturned : Phase → List Response
unreturned (Replied c r) = r ∷ []
unreturned (Returning c r came x xs) = r ∷ []
unreturned _ = []

-- ---- what holds in a phase

-- the ends are those of the link values, and there are eight at most
pub record HasLinks (vs : List RtValue) (xs : List EndId) : Type 0 where
  pub each : length xs ≡ links_of vs
  pub few : length xs ≤ 8

-- a reply to this request
pub record Answers (c : Connect) (r : Response) : Type 0 where
  pub number : r.number ≡ c.number
  pub links : HasLinks r.values r.ends

abbrev pub IsPhase : ℕ → Phase → Type 0
IsPhase version Quiet = ⊤
IsPhase version (Asked c) = HasLinks c.values c.ends
IsPhase version (Retried c) = HasLinks c.values c.ends
IsPhase version (Forbidden c b) = HasLinks c.values c.ends
IsPhase version (Barred c b) = HasLinks c.values c.ends
IsPhase version (LetCome c by) = HasLinks c.values c.ends × (version ≡ 1) × (2 ≤ length c.ends)
IsPhase version (Coming c by came x xs) = HasLinks c.values c.ends × (came ++ x ∷ xs ≡ c.ends)
IsPhase version (Owed c) = ⊤
IsPhase version (Replied c r) = Answers c r
IsPhase version (Returning c r came x xs) = Answers c r × (came ++ x ∷ xs ≡ r.ends)

-- ---- the invariant of the requests of one way, while the link lives

-- the number that is owed, as a list of one
abbrev pub owed_number : Option ℕ → List ℕ
owed_number None = []
owed_number (Some n) = n ∷ []

-- what was done in the one way: issued and returned where requests are asked, accepted and replied where they are served
pub record Exchange : Type 0 where
  pub issued : List Request
  pub accepted : List Request
  pub replied : List Response
  pub returned : List Response

-- In this phase: where requests are asked this is kept, and where they are served this; this is queued or on its way from who asks, and
-- to it; and this was done
pub record IsAt (version : ℕ) (phase : Phase) (a : Asking) (s : Serving) (forth back : List Message) (x : Exchange) : Type 0 where
  pub so : IsPhase version phase
  pub outstanding : a.outstanding ≡ (stands version phase).outstanding
  pub barred : a.barred ≡ (stands version phase).barred
  pub reply : a.reply ≡ (stands version phase).reply
  pub owed : s.owed ≡ (stands version phase).owed
  pub forbade : s.forbade ≡ (stands version phase).forbade
  pub request : s.request ≡ (stands version phase).request
  pub forth_is : forth ≡ (stands version phase).forth
  pub back_is : back ≡ (stands version phase).back
  -- connects wait only behind another one
  pub behind : AllByRecursion (λ c. HasLinks c.values c.ends) a.behind
  pub none_behind : a.outstanding ≡ None → a.behind ≡ []
  -- what was issued is what was accepted, then the request that is not accepted yet, then those of the connects that wait behind it
  pub issued : x.issued ≡ x.accepted ++ (unaccepted phase ++ map request_in a.behind)
  -- what was replied is what was returned, and the reply that is not returned yet
  pub replied : x.replied ≡ x.returned ++ unreturned phase
  -- what was accepted was replied to, but perhaps the last
  pub numbers : request_numbers x.accepted ≡ reply_numbers x.replied ++ owed_number s.owed
  pub asker_lives : a.dead ≡ false
  pub server_lives : s.dead ≡ false

-- in some phase
pub record IsExchange (version : ℕ) (a : Asking) (s : Serving) (forth back : List Message) (x : Exchange) : Type 0 where
  pub phase : Phase
  pub at : IsAt version phase a s forth back x
