-- What a process does with a packet that is reported on an end, with the ends that came with it.
use Rattle.std.specs.Prelude.{Bool, true, false, not, ◌&&◌, ℕ, zero, suc, ◌+◌, ◌==◌, nat_le, if◌then◌else◌, List, [], ◌∷◌, ◌++◌, length, filter, drop, pos, Option, None, Some, is_none}
use Rattle.charlotte_calls.specs.declared.names.EndId.{EndId}
use Rattle.lynx_tree.specs.declared.declaration.TypeName.{TypeName}
use Rattle.lynx_tree.specs.declared.declaration.TypeName.TheVariants as types
use Rattle.typing_rules.specs.Types.{same_type}
use Rattle.lynx_packets.specs.declared.packet.RtPacket.{RtPacket}
use Rattle.lynx_packets.specs.declared.packet.RtPacket.TheVariants as packets
use Rattle.lynx_packets.specs.declared.value.RtValue.{RtValue}
use Rattle.lynx_packets.specs.declared.value.RtValue.TheVariants as values
use Rattle.lynx_packets.specs.Spelling.{links_of}
use Rattle.end_protocol.specs.declared.hearing.Heard.{Heard}
use Rattle.end_protocol.specs.declared.hearing.Heard.TheVariants as heard
use Rattle.end_protocol.specs.declared.kept.Accept.{Accept}
use Rattle.end_protocol.specs.declared.kept.Kept.{Kept}
use Rattle.end_protocol.specs.declared.kept.Response.{Response}
use Rattle.end_protocol.specs.declared.kept.Taker.{Taker}
use Rattle.end_protocol.specs.declared.kept.Taker.TheVariants as takers
use Rattle.end_protocol.specs.declared.kept.Wanted.{Wanted}
use Rattle.end_protocol.specs.declared.messages.Connect.{Connect}
use Rattle.end_protocol.specs.declared.messages.Message.{Message}
use Rattle.end_protocol.specs.Lists.{head, tail}
use Rattle.end_protocol.specs.Messages.{carried, further}
use Rattle.end_protocol.specs.Kept.{queued}
use Rattle.end_protocol.specs.Wanting.{is_needed, taker}
use Rattle.end_protocol.specs.Asking.{asked}

-- ---- which messages answer what stands on the end

abbrev pub type_of : RtValue → TypeName
type_of (values.Int n) = types.Int
type_of (values.Bool b) = types.Bool
type_of (values.Text bytes) = types.Text
type_of (values.Row numbers) = types.Row (pos (length numbers))
type_of values.Link = types.Link

-- as many values as types, and each of its type
abbrev pub have_types : List RtValue → List TypeName → Bool
have_types [] [] = true
have_types (v ∷ vs) (t ∷ ts) = same_type t (type_of v) && have_types vs ts
have_types _ _ = false

-- the number is that of the outstanding request, whether this is barred or not
abbrev pub is_outstanding : ℕ → Option Connect → Bool
is_outstanding number None = false
is_outstanding number (Some c) = c.number == number

-- the number is that of the outstanding request, and it is not barred
abbrev pub is_awaited : ℕ → Kept → Bool
is_awaited number k = is_outstanding number k.outstanding && not k.barred

-- how many links are among the values of the outstanding request
abbrev pub links_out : Option Connect → ℕ
links_out None = 0
links_out (Some c) = links_of c.values

-- a reply that is done has the results of the operation that was asked for
abbrev pub has_results : ℕ → List RtValue → Option Connect → Bool
has_results status vs None = false
has_results zero vs (Some c) = have_types vs c.results
has_results (suc status) vs (Some c) = true

-- the enc is the next one of the request in part
abbrev pub is_next_of_request : ℕ → ℕ → Option Wanted → Bool
is_next_of_request number index None = false
is_next_of_request number index (Some w) = (w.number == number) && (index == length w.ends + 1)

-- the enc is the next one of the reply in part
abbrev pub is_next_of_reply : ℕ → ℕ → Option Response → Bool
is_next_of_reply number index None = false
is_next_of_reply number index (Some r) = (r.number == number) && (index == length r.ends + 1)

-- the packet answers what stands on the end
abbrev pub answers : RtPacket → Kept → Bool
answers (packets.Request number signature vs) k = is_none k.owed && is_none k.request
answers (packets.Reply number status vs) k = is_awaited number k && is_none k.reply && has_results status vs k.outstanding
answers (packets.Retry number) k = is_awaited number k
answers (packets.Forbid number) k = is_awaited number k
answers (packets.Allow number) k = is_outstanding number k.outstanding && k.barred
answers (packets.GoAhead number) k = is_awaited number k && nat_le 2 (links_out k.outstanding)
answers (packets.Enc kind number index) k =
    if kind == 1 then is_next_of_request number index k.request else is_next_of_reply number index k.reply

-- how many ends travel with the outstanding request, and back with a retry or forbid
abbrev pub brought_back : ℕ → Option Connect → ℕ
brought_back version None = 0
brought_back version (Some c) = carried version c.values

-- how many ends a packet brings
abbrev pub brings : ℕ → RtPacket → Kept → ℕ
brings version (packets.Request number signature vs) k = carried version vs
brings version (packets.Reply number status vs) k = carried version vs
brings version (packets.Retry number) k = brought_back version k.outstanding
brings version (packets.Forbid number) k = brought_back version k.outstanding
brings version (packets.Allow number) k = 0
brings version (packets.GoAhead number) k = 0
brings version (packets.Enc kind number index) k = 1

-- the message can be read: its packet answers what stands on the end, and brings as many ends as it should
unfoldable pub is_readable : ℕ → RtPacket → List EndId → Kept → Bool
is_readable version packet xs k = answers packet k && (length xs == brings version packet k)

-- no thread goes on
abbrev pub silently : Kept → Kept × Heard
silently k = (k, heard.Nothing)

-- ---- a request

-- all ends of the message are there
abbrev pub is_whole : List RtValue → List EndId → Bool
is_whole vs xs = length xs == links_of vs

-- the threads that go on accepting when this one takes a request
abbrev pub still_accepting : Taker → List Accept → List Accept
still_accepting (takers.Thread thread) accepts = filter (λ a. not (a.thread == thread)) accepts
still_accepting (takers.Entry entry) accepts = accepts

-- a request is accepted: it is owed a reply
unfoldable pub accepted : Wanted → Kept → Kept
accepted w k = record k { owed = Some w.number; request = None; accepts = still_accepting w.by k.accepts }

-- a request begins to come in part: its further ends may come
unfoldable pub let_come : Wanted → Kept → Kept
let_come w k = record k { request = Some w; queue = k.queue ++ record { packet = packets.GoAhead w.number; ends = [] } ∷ [] }

-- a request that is wanted is accepted at once where all of its ends are there
abbrev pub wanted : Wanted → Kept → Kept × Heard
wanted w k = if is_whole w.values w.ends then (accepted w k, heard.Accepted w) else silently (let_come w k)

-- a retry of the request, with the ends that came with it
abbrev pub retry_of : ℕ → List EndId → Message
retry_of number xs = record { packet = packets.Retry number; ends = xs }

-- a request is forbidden, with the ends that came with it
unfoldable pub forbade : ℕ → List ℕ → List EndId → Kept → Kept
forbade number signature xs k =
    record k {
      forbade = Some (record { number = number; signature = signature });
      queue = k.queue ++ record { packet = packets.Forbid number; ends = xs } ∷ [];
    }

-- a request that is not wanted goes back: it is forbidden where other messages are still to come, else it may be tried again
abbrev pub unwanted : Bool → ℕ → List ℕ → List EndId → Kept → Kept
unwanted room number signature xs k =
    if is_needed room k then forbade number signature xs k else queued (retry_of number xs ∷ []) k

-- a request comes, and this is who wants it
abbrev pub request_for : Option Taker → Bool → ℕ → List ℕ → List RtValue → List EndId → Kept → Kept × Heard
request_for None room number signature vs xs k = silently (unwanted room number signature xs k)
request_for (Some t) room number signature vs xs k =
    wanted (record { by = t; number = number; signature = signature; values = vs; ends = xs }) k

-- ---- a reply

-- the next connect is lined up, if there is one
abbrev pub next_asked : ℕ → Option Connect → Kept → Kept
next_asked version None k = k
next_asked version (Some c) k = asked version c k

-- the first connect goes on, and the request of the next one is queued
unfoldable pub gone_on : ℕ → Kept → Kept
gone_on version k =
    next_asked version (head k.behind) (record k { reply = None; outstanding = None; barred = false; behind = tail k.behind })

-- a reply is there, whole or in part: where all of its ends are, the thread that asked goes on
abbrev pub reply_to : Option Connect → ℕ → Response → Kept → Kept × Heard
reply_to None version r k = silently k
reply_to (Some c) version r k =
    if is_whole r.values r.ends then (gone_on version k, heard.Returned c.thread r) else silently (record k { reply = Some r })

-- ---- what comes back, and goes again

-- ends of the request came back
abbrev pub back_with : List EndId → Connect → Connect
back_with xs c = record c { ends = xs ++ c.ends }

-- retry, and an allow, which brings no ends: the request is queued again
abbrev pub retried : Option Connect → ℕ → List EndId → Kept → Kept
retried None version xs k = k
retried (Some c) version xs k = asked version (back_with xs c) k

-- forbid: the request waits for an allow
abbrev pub is_forbidden : Option Connect → List EndId → Kept → Kept
is_forbidden None xs k = k
is_forbidden (Some c) xs k = record k { outstanding = Some (back_with xs c); barred = true }

-- goahead: the further ends of the request are queued
abbrev pub gone_ahead : Option Connect → Kept → Kept
gone_ahead None k = k
gone_ahead (Some c) k = record k { queue = k.queue ++ further 1 c.number c.ends; outstanding = Some (record c { ends = drop 7 c.ends }) }

-- ---- further ends

-- a further end of the request in part came: it is accepted where all are there
abbrev pub request_grown : Wanted → Kept → Kept × Heard
request_grown w k = if is_whole w.values w.ends then (accepted w k, heard.Accepted w) else silently (record k { request = Some w })

abbrev pub request_further : Option Wanted → List EndId → Kept → Kept × Heard
request_further None xs k = silently k
request_further (Some w) xs k = request_grown (record w { ends = w.ends ++ xs }) k

-- a further end of the reply in part came
abbrev pub reply_further : Option Response → ℕ → List EndId → Kept → Kept × Heard
reply_further None version xs k = silently k
reply_further (Some r) version xs k = reply_to k.outstanding version (record r { ends = r.ends ++ xs }) (record k { reply = None })

-- ---- a message

-- a message that can be read
abbrev pub read : ℕ → Bool → RtPacket → List EndId → Kept → Kept × Heard
read version room (packets.Request number signature vs) xs k = request_for (taker room signature k) room number signature vs xs k
read version room (packets.Reply number status vs) xs k =
    reply_to k.outstanding version (record { number = number; status = status; values = vs; ends = xs }) k
read version room (packets.Retry number) xs k = silently (retried k.outstanding version xs k)
read version room (packets.Forbid number) xs k = silently (is_forbidden k.outstanding xs k)
read version room (packets.Allow number) xs k = silently (retried k.outstanding version xs k)
read version room (packets.GoAhead number) xs k = silently (gone_ahead k.outstanding k)
read version room (packets.Enc kind number index) xs k =
    if kind == 1 then request_further k.request xs k else reply_further k.reply version xs k

-- the number of a request that comes too late, with as many ends as it should
abbrev pub late_request : ℕ → RtPacket → List EndId → Option ℕ
late_request version (packets.Request number signature vs) xs = if length xs == carried version vs then Some number else None
late_request version _ xs = None

-- on a dead end a request goes back, and all else does nothing but that the ends that came are destroyed
abbrev pub sent_back : Option ℕ → List EndId → Kept → Kept × Heard
sent_back None xs k = (k, heard.TooLate xs)
sent_back (Some number) xs k = silently (queued (retry_of number xs ∷ []) k)

-- a packet is reported on the end, with these ends
abbrev pub hears : ℕ → Bool → RtPacket → List EndId → Kept → Kept × Heard
hears version room packet xs k =
    if k.dead then sent_back (late_request version packet xs) xs k
    else if is_readable version packet xs k then read version room packet xs k
    else (k, heard.Unreadable xs)
