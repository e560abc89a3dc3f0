-- What a process does with the answer to its call, and with what is reported to it.
use Rattle.std.specs.Prelude.{ℕ, zero, suc, false, true, Bool, if◌then◌else◌, List, [], ◌∷◌, length, Option, None, Some, Result, Ok, Err, slice_get}
use Rattle.charlotte_calls.specs.declared.calls.Answer.{Answer}
use Rattle.charlotte_calls.specs.declared.calls.Answer.TheVariants as answer
use Rattle.charlotte_calls.specs.declared.calls.Cause.TheVariants.{Dead, Late}
use Rattle.charlotte_calls.specs.declared.calls.Report.{Report}
use Rattle.charlotte_calls.specs.declared.names.EndId.{EndId}
use Rattle.charlotte_calls.specs.declared.names.Outcome.{Outcome}
use Rattle.charlotte_calls.specs.declared.names.Outcome.TheVariants.{Done, Destroyed}
use Rattle.charlotte_calls.specs.declared.names.Way.{Way}
use Rattle.charlotte_calls.specs.declared.names.Way.TheVariants.{Inward, Outward}
use Rattle.lynx_packets.specs.declared.packet.RtPacket.{RtPacket}
use Rattle.lynx_packets.specs.declared.value.RtValue.{RtValue}
use Rattle.lynx_packets.specs.declared.value.RtValue.TheVariants as packed
use Rattle.lynx_packets.specs.Packets.{packet_of}
use Rattle.typing_rules.specs.declared.exception.Exception.TheVariants as exceptions
use Rattle.code_shapes.specs.Shapes.{PartTypes, opened_by}
use Rattle.compiler_runnable.specs.Runnable.{start_locals}
use Rattle.machine_turns.specs.Threads.{Standing}
use Rattle.machine_turns.specs.Turns.{spawned}
use Rattle.end_protocol.specs.declared.hearing.Heard.{Heard}
use Rattle.end_protocol.specs.declared.hearing.Heard.TheVariants as heard
use Rattle.end_protocol.specs.declared.kept.Kept.{Kept}
use Rattle.end_protocol.specs.declared.kept.Response.{Response}
use Rattle.end_protocol.specs.declared.kept.Taker.{Taker}
use Rattle.end_protocol.specs.declared.kept.Taker.TheVariants as takers
use Rattle.end_protocol.specs.declared.kept.Wanted.{Wanted}
use Rattle.end_protocol.specs.Deeds.{heard_deeds}
use Rattle.end_protocol.specs.Going.{sent, send_over, returns, receives, receive_over, cancel_late}
use Rattle.end_protocol.specs.Hearing.{hears}
use Rattle.process_run.specs.States.{Holding, Keeps, Gone, Place, Held, Open, Asked, State, quietly, deeds_on}
use Rattle.process_run.specs.States as process
use Rattle.process_run.specs.Ends.{place_at, held_at, keeps, number_of, gets, holds_again, dooms, unpacked, room}
use Rattle.process_run.specs.Deaths.{gives, raises, does, dies_at, destroys}
use Rattle.process_run.specs.Actions.{opened_in, with_opened}

-- ---- requests and replies

-- a thread goes on with values, and the ends among them get their numbers
abbrev pub goes_on_with : ℕ → List RtValue → List EndId → State → State
goes_on_with thread vs xs s = gives thread (Ok (unpacked (length s.places) vs)) (gets xs s)

-- the request of this number on this end is open from now on
abbrev pub opening : ℕ → Wanted → Open
opening on w = record { on = on; number = w.number; answered = false }

-- the first number of no thread, from this one on
abbrev pub free_from : ℕ → List (Option Standing) → Option ℕ
free_from n [] = None
free_from n (None ∷ ss) = Some n
free_from n (Some s ∷ ss) = free_from (suc n) ss

-- a thread of this part begins under this number
abbrev pub spawns : Option ℕ → Option PartTypes → ℕ → Wanted → State → State
spawns (Some n) (Some p) on w s =
    with_opened n (opening on w ∷ [])
    (record (gets w.ends s) { turns = spawned n (opened_by p.op) p.start (start_locals p.locals (unpacked (length s.places) w.values)) s.turns })
spawns n part on w s = s

-- a request that was accepted on this end is taken
abbrev pub takes : Taker → ℕ → Wanted → State → State
takes (takers.Thread thread) on w s =
    with_opened thread (opening on w ∷ opened_in thread s) (goes_on_with thread w.values w.ends s)
takes (takers.Entry entry) on w s = spawns (free_from 0 s.turns.threads) (slice_get s.code.parts (suc entry)) on w s

-- a connect goes on with its reply: with the values, or with FAILED
abbrev pub returns_to : ℕ → ℕ → Response → State → State
returns_to thread zero r s = goes_on_with thread r.values r.ends s
returns_to thread (suc status) r s = raises thread exceptions.Failed s

-- ---- messages

abbrev pub comes_of : Held → Heard → State → State
comes_of h heard.Nothing s = s
comes_of h (heard.Accepted w) s = takes w.by h.number w s
comes_of h (heard.Returned thread r) s = returns_to thread r.status r s
comes_of h (heard.TooLate xs) s = dooms xs s
comes_of h (heard.Unreadable xs) s = dooms xs (destroys h s)

-- this is kept for the end, and this comes of what was heard
abbrev pub heard_on : Held → Kept × Heard → State → process.Done
heard_on h x s =
    record { state = comes_of (record h { kept = x.0 }) x.1 (keeps h x.0 s); deeds = deeds_on h.end (heard_deeds x.1) }

-- bytes that spell no packet can't be read
abbrev pub listens : ℕ → Bool → Result RtPacket ℕ → List EndId → Kept → Kept × Heard
listens version free (Ok packet) xs k = hears version free packet xs k
listens version free (Err left) xs k = (k, if k.dead then heard.TooLate xs else heard.Unreadable xs)

-- ---- reports

-- the ends that a report returns are held again, if they were the process's own
abbrev pub held_if : Bool → List EndId → State → State
held_if true xs s = holds_again xs s
held_if false xs s = s

-- of an end that the process holds
abbrev pub reported_on : Held → Way → Outcome → Report → State → process.Done
reported_on h Inward Done r s =
    heard_on h (listens s.version (room s) (packet_of s.version r.bytes) r.enclosed (receive_over h.kept)) s
reported_on h Inward Destroyed r s = quietly (dies_at (record h { kept = receive_over h.kept }) s)
reported_on h Outward Done r s = quietly (keeps h (send_over h.kept) s)
reported_on h Outward Destroyed r s =
    quietly (held_if (returns h.kept.sending) r.enclosed (dies_at (record h { kept = send_over h.kept }) s))

-- of one that it does not hold: the ends are destroyed where they were received, and held again where they were returned
abbrev pub reported_off : Bool → Way → Report → State → State
reported_off own Inward r s = dooms r.enclosed s
reported_off own Outward r s = held_if own r.enclosed s

abbrev pub reported_in : ℕ → Holding → Report → State → process.Done
reported_in n (Keeps k) r s = reported_on (record { number = n; end = r.on; kept = k }) r.way r.outcome r s
reported_in n (Gone own) r s = quietly (reported_off own r.way r s)

abbrev pub holding_of : Option Place → Holding
holding_of None = Gone false
holding_of (Some p) = p.holding

abbrev pub reported : Report → State → process.Done
reported r s = reported_in (number_of r.on s.places) (holding_of (place_at (number_of r.on s.places) s.places)) r s

-- ---- answers

-- to a Send, a Receive and the Cancel of a receive. No other refusal comes, and it would change nothing
abbrev pub sent_so : Option Answer → Held → State → State
sent_so (Some answer.Ok) h s = keeps h (sent h.kept) s
sent_so (Some (answer.Refused Dead)) h s = dies_at h s
sent_so _ h s = s

abbrev pub receives_so : Option Answer → Held → State → State
receives_so (Some answer.Ok) h s = keeps h (receives h.kept) s
receives_so (Some (answer.Refused Dead)) h s = dies_at h s
receives_so _ h s = s

abbrev pub cancelled_so : Option Answer → Held → State → State
cancelled_so (Some answer.Ok) h s = keeps h (receive_over h.kept) s
cancelled_so (Some (answer.Refused Late)) h s = keeps h (cancel_late h.kept) s
cancelled_so (Some (answer.Refused Dead)) h s = dies_at (record h { kept = cancel_late h.kept }) s
cancelled_so _ h s = s

-- a call on an end that the process held
abbrev pub on_end : Option Held → (Held → State → State) → State → process.Done
on_end None next s = quietly s
on_end (Some h) next s = quietly (next h s)

-- What was asked has this answer. The two ends that were made are the values of a `new`
abbrev pub answered : Asked → Option Answer → State → process.Done
answered (process.Make thread) (Some (answer.Made a b)) s =
    quietly (goes_on_with thread (packed.Link ∷ packed.Link ∷ []) (a ∷ b ∷ []) s)
answered (process.Make thread) given s = quietly (raises thread exceptions.LinksFull s)
answered (process.Print thread) given s = quietly (does thread s)
answered (process.Send n) given s = on_end (held_at n s) (sent_so given) s
answered (process.Receive n) given s = on_end (held_at n s) (receives_so given) s
answered (process.Cancel n) given s = on_end (held_at n s) (cancelled_so given) s
answered process.Wait (Some (answer.Reported r)) s = reported r s
answered process.Wait given s = quietly (record s { over = true })
answered _ given s = quietly s
