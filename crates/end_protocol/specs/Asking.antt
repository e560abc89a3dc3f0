-- What threads ask on an end, once the tests for exceptions are passed.
use Rattle.std.specs.Prelude.{Bool, false, not, ℕ, ◌+◌, ◌==◌, ◌^◌, ◌-◌, min, if◌then◌else◌, List, [], ◌∷◌, ◌++◌, filter, take, drop, Option, None, Some, is_some}
use Rattle.std.specs.List.{list_any}
use Rattle.lynx_packets.specs.declared.packet.RtPacket.TheVariants as packets
use Rattle.end_protocol.specs.declared.kept.Accept.{Accept}
use Rattle.end_protocol.specs.declared.kept.Binding.{Binding}
use Rattle.end_protocol.specs.declared.kept.Kept.{Kept}
use Rattle.end_protocol.specs.declared.kept.Response.{Response}
use Rattle.end_protocol.specs.declared.messages.Connect.{Connect}
use Rattle.end_protocol.specs.declared.messages.Message.{Message}
use Rattle.end_protocol.specs.Messages.{most_of, request_of, left_of, further}

-- ---- connects

-- the number of the next request: the greatest one, once it is there, stays
abbrev pub later : ℕ → ℕ
later n = min (n + 1) (2 ^ 32 - 1)

-- the request of a connect is queued, and is outstanding from then on
unfoldable pub asked : ℕ → Connect → Kept → Kept
asked version c k = record k { queue = k.queue ++ request_of version c ∷ []; outstanding = Some (left_of version c); barred = false }

-- a connect with its number: its request is queued where no other one is outstanding, else it waits behind the others
unfoldable pub lined_up : ℕ → Connect → Kept → Kept
lined_up version c k = if is_some k.outstanding then record k { behind = k.behind ++ c ∷ [] } else asked version c k

-- a thread connects
abbrev pub connected : ℕ → Connect → Kept → Kept
connected version c k = lined_up version (record c { number = later k.last }) (record k { last = later k.last })

-- ---- accepts and bindings

-- a thread accepts
abbrev pub accepts_too : Accept → Kept → Kept
accepts_too a k = record k { accepts = k.accepts ++ a ∷ [] }

-- the entry is bound to the end
abbrev pub is_bound : ℕ → Kept → Bool
is_bound entry k = list_any (λ b. b.entry == entry) k.bindings

-- an entry is bound behind the others, if it is not bound yet
abbrev pub binds : Binding → Kept → Kept
binds b k = if is_bound b.entry k then k else record k { bindings = k.bindings ++ b ∷ [] }

-- an entry is bound no longer
abbrev pub unbinds : ℕ → Kept → Kept
unbinds entry k = record k { bindings = filter (λ b. not (b.entry == entry)) k.bindings }

-- ---- replies

-- the request of this number is owed a reply
abbrev pub is_owed : ℕ → Option ℕ → Bool
is_owed number None = false
is_owed number (Some n) = n == number

-- the packets of a reply: its enc stand right behind it
abbrev pub replies : ℕ → Response → List Message
replies version r =
    record { packet = packets.Reply r.number r.status r.values; ends = take (most_of version) r.ends }
    ∷ further 2 r.number (drop (most_of version) r.ends)

-- a reply, or the failed reply of a close: nothing is owed any longer, and its packets are queued, unless the end is dead.
-- To another request than the one that is owed it does nothing
unfoldable pub replied : ℕ → Response → Kept → Kept
replied version r k =
    if not (is_owed r.number k.owed) then k
    else if k.dead then record k { owed = None }
    else record k { owed = None; queue = k.queue ++ replies version r }
