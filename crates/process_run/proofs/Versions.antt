-- A step keeps the version, and in version 1 a Send encloses one end at most.
use Rattle.std.proofs.Common.{arith, ◌≡◌, ◌⊎◌, inl, inr, ℕ, zero, suc, ◌+◌, ◌<◌, ◌≤◌, min, Bool, true, false, List, [], ◌∷◌, length, take, Option, ap, slice_get, if◌then◌else◌, Some, None, refl, sym, subst}
use Rattle.std.specs.Bool.{⊤}
use Rattle.std.specs.List.{list_any}
use Rattle.std.proofs.lemmas.List.{length-take}
use Rattle.lynx_packets.specs.Packets.{packet_of}
use Rattle.typing_rules.specs.declared.exception.Exception.TheVariants as exceptions
use Rattle.charlotte_calls.specs.declared.calls.Answer.{Answer}
use Rattle.charlotte_calls.specs.declared.calls.Answer.TheVariants as answer
use Rattle.charlotte_calls.specs.declared.calls.Cause.{Cause}
use Rattle.charlotte_calls.specs.declared.calls.Cause.TheVariants as causes
use Rattle.charlotte_calls.specs.declared.calls.Report.{Report}
use Rattle.charlotte_calls.specs.declared.names.EndId.{EndId}
use Rattle.charlotte_calls.specs.declared.names.Outcome.{Outcome}
use Rattle.charlotte_calls.specs.declared.names.Outcome.TheVariants as outcomes
use Rattle.charlotte_calls.specs.declared.names.Way.{Way}
use Rattle.charlotte_calls.specs.declared.names.Way.TheVariants.{Inward, Outward}
use Rattle.charlotte_calls.specs.declared.program.Next.TheVariants as next
use Rattle.charlotte_calls.specs.Program.{IsOfVersion}
use Rattle.typing_rules.specs.declared.exception.Exception.{Exception}
use Rattle.code_shapes.specs.Shapes.{PartTypes}
use Rattle.lynx_meaning.specs.Courses.{Action}
use Rattle.lynx_meaning.specs.Courses as actions
use Rattle.lynx_meaning.specs.Values.{Value}
use Rattle.machine_turns.specs.Turns.{Turns, Beat, RunsOn, Stops, Broken, Spent, Act, AllBlocked, Finished}
use Rattle.end_protocol.specs.declared.falling.Fallen.{Fallen}
use Rattle.end_protocol.specs.declared.going.Due.{Due}
use Rattle.end_protocol.specs.declared.going.Due.TheVariants as due
use Rattle.end_protocol.specs.declared.hearing.Heard.{Heard}
use Rattle.end_protocol.specs.declared.hearing.Heard.TheVariants as heard
use Rattle.end_protocol.specs.declared.kept.Kept.{Kept}
use Rattle.end_protocol.specs.declared.kept.Response.{Response}
use Rattle.end_protocol.specs.declared.kept.Taker.{Taker}
use Rattle.end_protocol.specs.declared.kept.Taker.TheVariants as takers
use Rattle.end_protocol.specs.declared.kept.Wanted.{Wanted}
use Rattle.end_protocol.specs.declared.messages.Message.{Message}
use Rattle.end_protocol.specs.Asking.{accepts_too, binds, unbinds}
use Rattle.end_protocol.specs.Messages.{most_of}
use Rattle.end_protocol.specs.Falling.{dies, fallen, destroyed, held_again, raised}
use Rattle.end_protocol.specs.Going.{due_call, returns, receive_over, send_over, cancel_late}
use Rattle.end_protocol.specs.Lists.{head}
use Rattle.process_run.specs.States.{Holding, Keeps, Gone, Place, Held, Open, Asked, State, Done, quietly}
use Rattle.process_run.specs.States as process
use Rattle.process_run.specs.Ends.{room, lets_go, held_at, puts, dooms, holds_again, link_of, links_in, keeps, number_of, place_at}
use Rattle.process_run.specs.Deaths.{raises, does, raises_in, falls, dies_at, destroys}
use Rattle.process_run.specs.Actions.{and_then, done_with, with_opened, on_held, on_live, unless, tested, fault_among, with_signature, served, asking, issues, replies, replies_on, answers_on, fails, failed, closes, opened_in, acts}
use Rattle.process_run.specs.Reports.{listens, comes_of, takes, spawns, returns_to, free_from, reported_on, reported_off, reported_in, holding_of, held_if, sent_so, receives_so, cancelled_so, on_end, answered}
use Rattle.process_run.specs.Runs.{with_deeds, is_in_use, most_actions, most_instructions, Asking, Did, or_asking, sending, due_so, due_on, due_among, first_due, asks_first, calls, settles, unless_over, stopped, finishes, goes_on, machine_run, slice, proceeds, step, pauses, waits}

-- ---- what keeps the version

raised_keep : (ns : List ℕ) (x : Exception) (s : State) (v : ℕ) → s.version ≡ v → (raises_in ns x s).version ≡ v
raised_keep [] x s v e = e
raised_keep (n ∷ ns) x s v e = raised_keep ns x (raises n x s) v e

falls_keep : (f : Fallen) (s : State) (v : ℕ) → s.version ≡ v → (falls f s).version ≡ v
falls_keep f s v e = raised_keep (raised f) exceptions.DeadLink (dooms (destroyed f) (holds_again (held_again f) s)) v e

death_keeps : (h : Held) (s : State) (v : ℕ) → s.version ≡ v → (dies_at h s).version ≡ v
unfolding dies_at
death_keeps h s v e = falls_keep (fallen h.kept) (puts h.number (Keeps (dies h.kept)) s) v e

destroy_keeps : (h : Held) (s : State) (v : ℕ) → s.version ≡ v → (destroys h s).version ≡ v
unfolding destroys
destroy_keeps h s v e = falls_keep (fallen h.kept) (dooms (h.end ∷ []) (puts h.number (Gone (returns h.kept.sending)) s)) v e

-- ---- actions

held_keep : (thread : ℕ) (o : Option Held) (s : State) (next : Held → Done) (v : ℕ) → s.version ≡ v → ((h : Held) → (next h).state.version ≡ v) → (on_held thread o s next).state.version ≡ v
held_keep thread None s next v e each = e
held_keep thread (Some h) s next v e each = each h

live_keeps : (b : Bool) (thread : ℕ) (s : State) (d : Done) (v : ℕ) → s.version ≡ v → d.state.version ≡ v → (on_live b thread s d).state.version ≡ v
live_keeps true thread s d v e done = e
live_keeps false thread s d v e done = done

test_keeps : (thread : ℕ) (o : Option Exception) (s : State) (d : Done) (v : ℕ) → s.version ≡ v → d.state.version ≡ v → (unless thread o s d).state.version ≡ v
test_keeps thread (Some x) s d v e done = e
test_keeps thread None s d v e done = done

signature_keeps : (thread : ℕ) (o : Option (List ℕ)) (s : State) (next : List ℕ → Done) (v : ℕ) → s.version ≡ v → ((x : List ℕ) → (next x).state.version ≡ v)
    → (with_signature thread o s next).state.version ≡ v
signature_keeps thread None s next v e each = e
signature_keeps thread (Some x) s next v e each = each x

reply_keeps : (thread : ℕ) (vs : List Value) (o : Open) (os : List Open) (held : Option Held) (s : State) (v : ℕ) → s.version ≡ v → (replies_on thread vs o os held s).state.version ≡ v
reply_keeps thread vs o os None s v e = e
reply_keeps thread vs o os (Some h) s v e =
    live_keeps h.kept.dead thread s
    (tested thread h vs s (and_then (answers_on h (done_with o vs s) (lets_go (links_in vs) s)) (λ t. does thread (with_opened thread (record o { answered = true } ∷ os) t)))) v e
    (test_keeps thread (fault_among h [] (links_in vs) s) s
    (and_then (answers_on h (done_with o vs s) (lets_go (links_in vs) s)) (λ t. does thread (with_opened thread (record o { answered = true } ∷ os) t))) v e e)

choice_keeps : (b : Bool) (c d : Done) (v : ℕ) → c.state.version ≡ v → d.state.version ≡ v → (if b then c else d).state.version ≡ v
choice_keeps true c d v first second = first
choice_keeps false c d v first second = second

replies_keep : (thread : ℕ) (vs : List Value) (os : List Open) (s : State) (v : ℕ) → s.version ≡ v → (replies thread vs os s).state.version ≡ v
replies_keep thread vs [] s v e = e
replies_keep thread vs (o ∷ os) s v e =
    choice_keeps o.answered (quietly (raises thread exceptions.Replied s)) (replies_on thread vs o os (held_at o.on s) s) v e (reply_keeps thread vs o os (held_at o.on s) s v e)

fails_keep : (o : Open) (held : Option Held) (s : State) (v : ℕ) → s.version ≡ v → (fails o held s).state.version ≡ v
fails_keep o None s v e = e
fails_keep o (Some h) s v e = choice_keeps o.answered (quietly s) (answers_on h (failed o) s) v e e

closes_keep : (thread : ℕ) (os : List Open) (s : State) (v : ℕ) → s.version ≡ v → (closes thread os s).state.version ≡ v
closes_keep thread [] s v e = e
closes_keep thread (o ∷ os) s v e = fails_keep o (held_at o.on s) s v e

acts_keep : (thread : ℕ) (a : Action) (s : State) (v : ℕ) → s.version ≡ v → (acts thread a s).state.version ≡ v
acts_keep thread (actions.Destroy link) s v e =
    held_keep thread (held_at (link_of link) s) s (λ h. quietly (does thread (destroys h s))) v e (λ h. destroy_keeps h s v e)
acts_keep thread (actions.Bind link entry) s v e =
    signature_keeps thread (served s.code entry) s
    (λ signature. on_held thread (held_at (link_of link) s) s
    (λ h. on_live h.kept.dead thread s (quietly (does thread (keeps h (binds (record { entry = entry; signature = signature }) h.kept) s))))) v e
    (λ signature. held_keep thread (held_at (link_of link) s) s
    (λ h. on_live h.kept.dead thread s (quietly (does thread (keeps h (binds (record { entry = entry; signature = signature }) h.kept) s)))) v e
    (λ h. live_keeps h.kept.dead thread s (quietly (does thread (keeps h (binds (record { entry = entry; signature = signature }) h.kept) s))) v e e))
acts_keep thread (actions.Unbind link entry) s v e =
    signature_keeps thread (served s.code entry) s
    (λ signature. on_held thread (held_at (link_of link) s) s (λ h. quietly (does thread (keeps h (unbinds entry h.kept) s)))) v e
    (λ signature. held_keep thread (held_at (link_of link) s) s (λ h. quietly (does thread (keeps h (unbinds entry h.kept) s))) v e (λ h. e))
acts_keep thread (actions.Connect link op vs) s v e =
    signature_keeps thread (slice_get s.code.signatures op) s
    (λ signature. on_held thread (held_at (link_of link) s) s
    (λ h. on_live h.kept.dead thread s (tested thread h vs s (issues (asking thread op signature vs s) h vs s)))) v e
    (λ signature. held_keep thread (held_at (link_of link) s) s
    (λ h. on_live h.kept.dead thread s (tested thread h vs s (issues (asking thread op signature vs s) h vs s))) v e
    (λ h. live_keeps h.kept.dead thread s (tested thread h vs s (issues (asking thread op signature vs s) h vs s)) v e
    (test_keeps thread (fault_among h [] (links_in vs) s) s (issues (asking thread op signature vs s) h vs s) v e e)))
acts_keep thread (actions.Accept link op) s v e =
    signature_keeps thread (slice_get s.code.signatures op) s
    (λ signature. on_held thread (held_at (link_of link) s) s
    (λ h. on_live h.kept.dead thread s (quietly (keeps h (accepts_too (record { thread = thread; signature = signature }) h.kept) s)))) v e
    (λ signature. held_keep thread (held_at (link_of link) s) s
    (λ h. on_live h.kept.dead thread s (quietly (keeps h (accepts_too (record { thread = thread; signature = signature }) h.kept) s))) v e
    (λ h. live_keeps h.kept.dead thread s (quietly (keeps h (accepts_too (record { thread = thread; signature = signature }) h.kept) s)) v e e))
acts_keep thread (actions.Reply vs) s v e = replies_keep thread vs (opened_in thread s) s v e
acts_keep thread actions.Close s v e = closes_keep thread (opened_in thread s) s v e
acts_keep thread actions.Stop s v e = e
acts_keep thread actions.New s v e = e
acts_keep thread (actions.Write bytes) s v e = e
acts_keep thread actions.Await s v e = e

-- ---- answers

spawn_keeps : (n : Option ℕ) (p : Option PartTypes) (on : ℕ) (w : Wanted) (s : State) (v : ℕ) → s.version ≡ v → (spawns n p on w s).version ≡ v
spawn_keeps (Some n) (Some p) on w s v e = e
spawn_keeps (Some n) None on w s v e = e
spawn_keeps None p on w s v e = e

takes_keep : (t : Taker) (on : ℕ) (w : Wanted) (s : State) (v : ℕ) → s.version ≡ v → (takes t on w s).version ≡ v
takes_keep (takers.Thread thread) on w s v e = e
takes_keep (takers.Entry entry) on w s v e = spawn_keeps (free_from 0 s.turns.threads) (slice_get s.code.parts (suc entry)) on w s v e

return_keeps : (thread status : ℕ) (r : Response) (s : State) (v : ℕ) → s.version ≡ v → (returns_to thread status r s).version ≡ v
return_keeps thread zero r s v e = e
return_keeps thread (suc status) r s v e = e

comes_keep : (h : Held) (x : Heard) (s : State) (v : ℕ) → s.version ≡ v → (comes_of h x s).version ≡ v
comes_keep h heard.Nothing s v e = e
comes_keep h (heard.Accepted w) s v e = takes_keep w.by h.number w s v e
comes_keep h (heard.Returned thread r) s v e = return_keeps thread r.status r s v e
comes_keep h (heard.TooLate xs) s v e = e
comes_keep h (heard.Unreadable xs) s v e = destroy_keeps h s v e

hold_keeps : (b : Bool) (xs : List EndId) (s : State) (v : ℕ) → s.version ≡ v → (held_if b xs s).version ≡ v
hold_keeps true xs s v e = e
hold_keeps false xs s v e = e

report_keeps : (h : Held) (w : Way) (o : Outcome) (r : Report) (s : State) (v : ℕ) → s.version ≡ v → (reported_on h w o r s).state.version ≡ v
report_keeps h Inward outcomes.Done r s v e =
    let x = listens s.version (room s) (packet_of s.version r.bytes) r.enclosed (receive_over h.kept) in
    comes_keep (record h { kept = x.0 }) x.1 (keeps h x.0 s) v e
report_keeps h Inward outcomes.Destroyed r s v e = death_keeps (record h { kept = receive_over h.kept }) s v e
report_keeps h Outward outcomes.Done r s v e = e
report_keeps h Outward outcomes.Destroyed r s v e =
    hold_keeps (returns h.kept.sending) r.enclosed (dies_at (record h { kept = send_over h.kept }) s) v (death_keeps (record h { kept = send_over h.kept }) s v e)

gone_keeps : (own : Bool) (w : Way) (r : Report) (s : State) (v : ℕ) → s.version ≡ v → (reported_off own w r s).version ≡ v
gone_keeps own Inward r s v e = e
gone_keeps own Outward r s v e = hold_keeps own r.enclosed s v e

reported_keeps : (n : ℕ) (h : Holding) (r : Report) (s : State) (v : ℕ) → s.version ≡ v → (reported_in n h r s).state.version ≡ v
reported_keeps n (Keeps k) r s v e = report_keeps (record { number = n; end = r.on; kept = k }) r.way r.outcome r s v e
reported_keeps n (Gone own) r s v e = gone_keeps own r.way r s v e

end_keeps : (o : Option Held) (next : Held → State → State) (s : State) (v : ℕ) → s.version ≡ v → ((h : Held) → (next h s).version ≡ v) → (on_end o next s).state.version ≡ v
end_keeps None next s v e each = e
end_keeps (Some h) next s v e each = each h

-- of an answer Ok, of one that is Dead, and of any other
abbrev IsPlain : (Option Answer → Held → State → State) → Type 0
IsPlain f = (given : Option Answer) (h : Held) (s : State) (v : ℕ) → s.version ≡ v → (f given h s).version ≡ v

refused_send : (c : Cause) (h : Held) (s : State) (v : ℕ) → s.version ≡ v → (sent_so (Some (answer.Refused c)) h s).version ≡ v
refused_send causes.Dead h s v e = death_keeps h s v e
refused_send causes.NoEnd h s v e = e
refused_send causes.Busy h s v e = e
refused_send causes.EncloseNoEnd h s v e = e
refused_send causes.EncloseBusy h s v e = e
refused_send causes.EncloseSame h s v e = e
refused_send causes.Late h s v e = e
refused_send causes.NoActivity h s v e = e
refused_send causes.LinksFull h s v e = e
refused_send causes.EncloseTwice h s v e = e

send_keeps : IsPlain sent_so
send_keeps None h s v e = e
send_keeps (Some answer.Ok) h s v e = e
send_keeps (Some (answer.Made a b)) h s v e = e
send_keeps (Some (answer.Reported r)) h s v e = e
send_keeps (Some (answer.Refused c)) h s v e = refused_send c h s v e

refused_receive : (c : Cause) (h : Held) (s : State) (v : ℕ) → s.version ≡ v → (receives_so (Some (answer.Refused c)) h s).version ≡ v
refused_receive causes.Dead h s v e = death_keeps h s v e
refused_receive causes.NoEnd h s v e = e
refused_receive causes.Busy h s v e = e
refused_receive causes.EncloseNoEnd h s v e = e
refused_receive causes.EncloseBusy h s v e = e
refused_receive causes.EncloseSame h s v e = e
refused_receive causes.Late h s v e = e
refused_receive causes.NoActivity h s v e = e
refused_receive causes.LinksFull h s v e = e
refused_receive causes.EncloseTwice h s v e = e

receive_keeps : IsPlain receives_so
receive_keeps None h s v e = e
receive_keeps (Some answer.Ok) h s v e = e
receive_keeps (Some (answer.Made a b)) h s v e = e
receive_keeps (Some (answer.Reported r)) h s v e = e
receive_keeps (Some (answer.Refused c)) h s v e = refused_receive c h s v e

refused_cancel : (c : Cause) (h : Held) (s : State) (v : ℕ) → s.version ≡ v → (cancelled_so (Some (answer.Refused c)) h s).version ≡ v
refused_cancel causes.Dead h s v e = death_keeps (record h { kept = cancel_late h.kept }) s v e
refused_cancel causes.NoEnd h s v e = e
refused_cancel causes.Busy h s v e = e
refused_cancel causes.EncloseNoEnd h s v e = e
refused_cancel causes.EncloseBusy h s v e = e
refused_cancel causes.EncloseSame h s v e = e
refused_cancel causes.Late h s v e = e
refused_cancel causes.NoActivity h s v e = e
refused_cancel causes.LinksFull h s v e = e
refused_cancel causes.EncloseTwice h s v e = e

cancel_keeps : IsPlain cancelled_so
cancel_keeps None h s v e = e
cancel_keeps (Some answer.Ok) h s v e = e
cancel_keeps (Some (answer.Made a b)) h s v e = e
cancel_keeps (Some (answer.Reported r)) h s v e = e
cancel_keeps (Some (answer.Refused c)) h s v e = refused_cancel c h s v e

made_keeps : (thread : ℕ) (given : Option Answer) (s : State) (v : ℕ) → s.version ≡ v → (answered (process.Make thread) given s).state.version ≡ v
made_keeps thread None s v e = e
made_keeps thread (Some answer.Ok) s v e = e
made_keeps thread (Some (answer.Made a b)) s v e = e
made_keeps thread (Some (answer.Reported r)) s v e = e
made_keeps thread (Some (answer.Refused c)) s v e = e

waited_keeps : (given : Option Answer) (s : State) (v : ℕ) → s.version ≡ v → (answered process.Wait given s).state.version ≡ v
waited_keeps None s v e = e
waited_keeps (Some answer.Ok) s v e = e
waited_keeps (Some (answer.Made a b)) s v e = e
waited_keeps (Some (answer.Reported r)) s v e = reported_keeps (number_of r.on s.places) (holding_of (place_at (number_of r.on s.places) s.places)) r s v e
waited_keeps (Some (answer.Refused c)) s v e = e

answer_keeps : (a : Asked) (given : Option Answer) (s : State) (v : ℕ) → s.version ≡ v → (answered a given s).state.version ≡ v
answer_keeps process.Nothing given s v e = e
answer_keeps (process.Make thread) given s v e = made_keeps thread given s v e
answer_keeps (process.Print thread) given s v e = e
answer_keeps process.Destroy given s v e = e
answer_keeps (process.Send n) given s v e = end_keeps (held_at n s) (sent_so given) s v e (λ h. send_keeps given h s v e)
answer_keeps (process.Receive n) given s v e = end_keeps (held_at n s) (receives_so given) s v e (λ h. receive_keeps given h s v e)
answer_keeps (process.Cancel n) given s v e = end_keeps (held_at n s) (cancelled_so given) s v e (λ h. cancel_keeps given h s v e)
answer_keeps process.Wait given s v e = waited_keeps given s v e
answer_keeps process.Exit given s v e = e

-- ---- calls that are due

few : (v : ℕ) → (v ≡ 1) ⊎ (v ≡ 2) → (xs : List EndId) → v < 2 → length (take (most_of v) xs) ≤ 1
few v (inl one) xs below =
    subst (λ (n : ℕ). length (take (most_of n) xs) ≤ 1) (sym one) (let size : length (take 1 xs) ≡ min 1 (length xs) = length-take 1 xs in omega (arith, size))
few v (inr two) xs below = absurd (omega (arith, two, below))

-- what is asked of an end is of the version, and the state after it has the version
abbrev Fits : ℕ → Option Asking → Type 0
Fits v None = ⊤
Fits v (Some a) = IsOfVersion v (next.Ask a.call)

sending_fits : (v n : ℕ) (x : EndId) (o : Option Message) → (v ≡ 1) ⊎ (v ≡ 2) → Fits v (sending v n x o)
sending_fits v n x None is = tt
sending_fits v n x (Some m) is = λ below. few v is m.ends below

due_fits : (v n : ℕ) (x : EndId) (k : Kept) (d : Due) → (v ≡ 1) ⊎ (v ≡ 2) → Fits v (due_so v n x k d)
due_fits v n x k due.Nothing is = tt
due_fits v n x k due.Send is = sending_fits v n x (head k.queue) is
due_fits v n x k due.Receive is = tt
due_fits v n x k due.Cancel is = tt

end_fits : (v : ℕ) (free : Bool) (n : ℕ) (x : EndId) (h : Holding) → (v ≡ 1) ⊎ (v ≡ 2) → Fits v (due_on v free n x h)
end_fits v free n x (Keeps k) is = due_fits v n x k (due_call free k) is
end_fits v free n x (Gone own) is = tt

first_fits : (v : ℕ) (o others : Option Asking) → Fits v o → Fits v others → Fits v (or_asking o others)
first_fits v None others fits later = later
first_fits v (Some a) others fits later = fits

among_fits : (v : ℕ) (free : Bool) (n : ℕ) (ps : List Place) → (v ≡ 1) ⊎ (v ≡ 2) → Fits v (due_among v free n ps)
among_fits v free n [] is = tt
among_fits v free n (p ∷ ps) is =
    first_fits v (due_on v free n p.end p.holding) (due_among v free (n + 1) ps) (end_fits v free n p.end p.holding is) (among_fits v free (n + 1) ps is)

first_due_fits : (xs : List EndId) (s : State) (v : ℕ) → s.version ≡ v → (v ≡ 1) ⊎ (v ≡ 2) → Fits v (first_due xs s)
first_due_fits [] s v e is = subst (λ (n : ℕ). Fits v (due_among n (room s) 1 s.places)) (sym e) (among_fits v (room s) 1 s.places is)
first_due_fits (x ∷ xs) s v e is = tt

-- ---- steps

-- what is done next is of the version, and the state after it has it
record IsOf (v : ℕ) (d : Did) : Type 0 where
  fits : IsOfVersion v d.next
  version : d.state.version ≡ v

asked_is : (o : Option Asking) (s : State) (next : State → Did) (v : ℕ) → s.version ≡ v → Fits v o → IsOf v (next s) → IsOf v (asks_first o s next)
asked_is None s next v e fits later = later
asked_is (Some a) s next v e fits later = record { fits = fits; version = e }

settling_keeps : (s : State) (v : ℕ) → s.version ≡ v → (settles s).version ≡ v
unfolding settles
settling_keeps s v e = e

calls_are : (s : State) (next : State → Did) (v : ℕ) → s.version ≡ v → (v ≡ 1) ⊎ (v ≡ 2) → ((t : State) → t.version ≡ v → IsOf v (next t)) → IsOf v (calls s next)
calls_are s next v e is each =
    let kept : (settles s).version ≡ v = settling_keeps s v e in
    asked_is (first_due (settles s).doomed (settles s)) (settles s) next v kept (first_due_fits (settles s).doomed (settles s) v kept is) (each (settles s) kept)

over_is : (b : Bool) (s : State) (next : State → Did) (v : ℕ) → s.version ≡ v → IsOf v (next s) → IsOf v (unless_over b s next)
over_is true s next v e later = record { fits = tt; version = e }
over_is false s next v e later = later

finish_is : (b : Bool) (s : State) (v : ℕ) → s.version ≡ v → IsOf v (finishes b s)
finish_is true s v e = record { fits = tt; version = e }
finish_is false s v e = record { fits = tt; version = e }

act_is : (n : ℕ) (a : Action) (left : ℕ) (t : Turns) (s : State) (next : ℕ → Done → Did) (v : ℕ) → s.version ≡ v
    → ((k : ℕ) (d : Done) → d.state.version ≡ v → IsOf v (next k d)) → IsOf v (stopped (Stops (Act n a) left t) s next)
act_is n actions.New left t s next v e each = record { fits = tt; version = e }
act_is n (actions.Write bytes) left t s next v e each = record { fits = tt; version = e }
act_is n (actions.Destroy link) left t s next v e each = each left (acts n (actions.Destroy link) (record s { turns = t })) (acts_keep n (actions.Destroy link) (record s { turns = t }) v e)
act_is n (actions.Bind link entry) left t s next v e each = each left (acts n (actions.Bind link entry) (record s { turns = t })) (acts_keep n (actions.Bind link entry) (record s { turns = t }) v e)
act_is n (actions.Unbind link entry) left t s next v e each = each left (acts n (actions.Unbind link entry) (record s { turns = t })) (acts_keep n (actions.Unbind link entry) (record s { turns = t }) v e)
act_is n (actions.Connect link op vs) left t s next v e each = each left (acts n (actions.Connect link op vs) (record s { turns = t })) (acts_keep n (actions.Connect link op vs) (record s { turns = t }) v e)
act_is n (actions.Accept link op) left t s next v e each = each left (acts n (actions.Accept link op) (record s { turns = t })) (acts_keep n (actions.Accept link op) (record s { turns = t }) v e)
act_is n (actions.Reply vs) left t s next v e each = each left (acts n (actions.Reply vs) (record s { turns = t })) (acts_keep n (actions.Reply vs) (record s { turns = t }) v e)
act_is n actions.Close left t s next v e each = each left (acts n actions.Close (record s { turns = t })) (acts_keep n actions.Close (record s { turns = t }) v e)
act_is n actions.Stop left t s next v e each = each left (acts n actions.Stop (record s { turns = t })) (acts_keep n actions.Stop (record s { turns = t }) v e)
act_is n actions.Await left t s next v e each = each left (acts n actions.Await (record s { turns = t })) (acts_keep n actions.Await (record s { turns = t }) v e)

stop_is : (b : Beat) (s : State) (next : ℕ → Done → Did) (v : ℕ) → s.version ≡ v → (v ≡ 1) ⊎ (v ≡ 2)
    → ((k : ℕ) (d : Done) → d.state.version ≡ v → IsOf v (next k d)) → IsOf v (stopped b s next)
stop_is (RunsOn left t) s next v e is each = record { fits = tt; version = e }
stop_is Broken s next v e is each = record { fits = tt; version = e }
stop_is (Stops Spent left t) s next v e is each = record { fits = tt; version = e }
stop_is (Stops (Act n a) left t) s next v e is each = act_is n a left t s next v e each
stop_is (Stops AllBlocked left t) s next v e is each = calls_are (record s { turns = t }) waits v e is (λ now same. record { fits = tt; version = same })
stop_is (Stops Finished left t) s next v e is each =
    calls_are (record s { turns = t }) (λ now. finishes (list_any (λ p. is_in_use p.holding) now.places) now) v e is
    (λ now same. finish_is (list_any (λ p. is_in_use p.holding) now.places) now v same)

going_is : (k fuel : ℕ) (s : State) (v : ℕ) → s.version ≡ v → (v ≡ 1) ⊎ (v ≡ 2) → IsOf v (goes_on k fuel s)
going_is zero fuel s v e is =
    calls_are s (λ t. unless_over t.over t pauses) v e is (λ t same. over_is t.over t pauses v same (record { fits = tt; version = same }))
going_is (suc k) fuel s v e is =
    calls_are s (λ t. unless_over t.over t (λ u. stopped (machine_run fuel u) u (λ left d. with_deeds d.deeds (goes_on k left d.state)))) v e is
    (λ t same. over_is t.over t (λ u. stopped (machine_run fuel u) u (λ left d. with_deeds d.deeds (goes_on k left d.state))) v same
    (stop_is (machine_run fuel t) t (λ left d. with_deeds d.deeds (goes_on k left d.state)) v same is
    (λ left d kept. let later : IsOf v (goes_on k left d.state) = going_is k left d.state v kept is in record { fits = later.fits; version = later.version })))

slice_is : (d : Done) (v : ℕ) → d.state.version ≡ v → (v ≡ 1) ⊎ (v ≡ 2) → IsOf v (with_deeds d.deeds (slice d.state))
slice_is d v e is =
    let later : IsOf v (slice d.state) = going_is (most_actions d.state) most_instructions d.state v e is in record { fits = later.fits; version = later.version }

proceeding_is : (a : Asked) (d : Done) (v : ℕ) → d.state.version ≡ v → (v ≡ 1) ⊎ (v ≡ 2) → IsOf v (proceeds a d)
proceeding_is process.Exit d v e is = record { fits = tt; version = e }
proceeding_is process.Nothing d v e is = slice_is d v e is
proceeding_is (process.Make n) d v e is = slice_is d v e is
proceeding_is (process.Print n) d v e is = slice_is d v e is
proceeding_is process.Destroy d v e is = slice_is d v e is
proceeding_is (process.Send n) d v e is = slice_is d v e is
proceeding_is (process.Receive n) d v e is = slice_is d v e is
proceeding_is (process.Cancel n) d v e is = slice_is d v e is
proceeding_is process.Wait d v e is = slice_is d v e is

-- a step of a process of version 1 or 2 asks a call of the version
pub step_is_of_its_version : (s : State) (given : Option Answer) → (s.version ≡ 1) ⊎ (s.version ≡ 2) → IsOfVersion s.version (step s given).0
step_is_of_its_version s given is = (proceeding_is s.asked (answered s.asked given s) s.version (answer_keeps s.asked given s s.version refl) is).fits

-- and keeps the version
pub step_keeps_its_version : (s : State) (given : Option Answer) → (s.version ≡ 1) ⊎ (s.version ≡ 2) → (step s given).1.version ≡ s.version
step_keeps_its_version s given is = (proceeding_is s.asked (answered s.asked given s) s.version (answer_keeps s.asked given s s.version refl) is).version

-- after an Exit it ends
pub step_ends_after_an_exit : (s : State) (given : Option Answer) → s.asked ≡ process.Exit → (step s given).0 ≡ next.Ended
step_ends_after_an_exit s given e = ap (λ (a : Asked). (proceeds a (answered s.asked given s)).next) e
