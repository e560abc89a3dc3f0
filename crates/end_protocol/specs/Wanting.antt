-- Which requests of an end are wanted, when a Receive is needed on it, and when it may not be moved. `room` says that fewer
-- threads stand than may (32), where a request in part for an entry counts as one.
use Rattle.std.specs.Prelude.{Bool, true, false, not, ◌&&◌, ◌||◌, ℕ, if◌then◌else◌, List, [], ◌∷◌, Option, None, Some, is_some, is_none}
use Rattle.std.specs.Str.{bytes_eq}
use Rattle.end_protocol.specs.declared.kept.Accept.{Accept}
use Rattle.end_protocol.specs.declared.kept.Binding.{Binding}
use Rattle.end_protocol.specs.declared.kept.Kept.{Kept}
use Rattle.end_protocol.specs.declared.kept.Receiving.{Receiving}
use Rattle.end_protocol.specs.declared.kept.Receiving.TheVariants as receiving
use Rattle.end_protocol.specs.declared.kept.Sending.{Sending}
use Rattle.end_protocol.specs.declared.kept.Sending.TheVariants as sending
use Rattle.end_protocol.specs.declared.kept.Taker.{Taker}
use Rattle.end_protocol.specs.declared.kept.Taker.TheVariants as takers
use Rattle.end_protocol.specs.declared.kept.Wanted.{Wanted}
use Rattle.end_protocol.specs.Lists.{is_nil}

-- no send is started
abbrev pub is_silent : Sending → Bool
is_silent sending.Idle = true
is_silent _ = false

-- no receive is started
abbrev pub is_deaf : Receiving → Bool
is_deaf receiving.Idle = true
is_deaf _ = false

-- a receive is started, and may be cancelled
abbrev pub may_cancel : Receiving → Bool
may_cancel receiving.Started = true
may_cancel _ = false

-- the end is open: it owes no reply and a thread accepts on it, or an entry is bound to it and there is room for a thread
abbrev pub is_open : Bool → Kept → Bool
is_open room k = (is_none k.owed && not (is_nil k.accepts)) || (not (is_nil k.bindings) && room)

-- a request or a reply came in part
abbrev pub is_in_part : Kept → Bool
is_in_part k = is_some k.request || is_some k.reply

-- a Receive is needed: the end is not dead, and an own request is outstanding, a message is in part, or the end is open
unfoldable pub is_needed : Bool → Kept → Bool
is_needed room k = not k.dead && (is_some k.outstanding || is_in_part k || is_open room k)

-- the first thread that accepts requests of the signature
abbrev pub accepting : List ℕ → List Accept → Option Taker
accepting signature [] = None
accepting signature (a ∷ as') = if bytes_eq a.signature signature then Some (takers.Thread a.thread) else accepting signature as'

-- the first entry that is bound and serves requests of the signature
abbrev pub bound : List ℕ → List Binding → Option Taker
bound signature [] = None
bound signature (b ∷ bs) = if bytes_eq b.signature signature then Some (takers.Entry b.entry) else bound signature bs

-- the first of two that is there
abbrev pub or_else : Option Taker → Option Taker → Option Taker
or_else None second = second
or_else (Some t) second = Some t

-- who wants a request of the signature: the thread that came first to accept it, else the first binding, where there is room for a thread
unfoldable pub taker : Bool → List ℕ → Kept → Option Taker
taker room signature k = or_else (accepting signature k.accepts) (if room then bound signature k.bindings else None)

-- a link value that names the end raises BUSYLINK: a packet is queued, a send or receive is started, a request is unanswered on one
-- side or the other, one is forbidden, an entry is bound, or a thread accepts
unfoldable pub is_busy : Kept → Bool
is_busy k =
    not (is_nil k.queue)
    || not (is_silent k.sending)
    || not (is_deaf k.receiving)
    || is_some k.outstanding
    || is_some k.owed
    || is_some k.forbade
    || not (is_nil k.bindings)
    || not (is_nil k.accepts)

abbrev pub is_entry : Taker → Bool
is_entry (takers.Thread thread) = false
is_entry (takers.Entry entry) = true

-- a request in part counts as a thread that stands: it is for an entry
abbrev pub counts : Option Wanted → Bool
counts None = false
counts (Some w) = is_entry w.by
