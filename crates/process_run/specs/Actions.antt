-- What a process does with the actions of its threads (rules 7 and 8). Those that are calls themselves are not here.
use Rattle.std.specs.Prelude.{ℕ, suc, ◌==◌, Bool, true, false, ◌||◌, if◌then◌else◌, List, [], ◌∷◌, Option, None, Some, slice_get, slice_set}
use Rattle.std.specs.List.{list_any}
use Rattle.charlotte_calls.specs.EndEq.{same_link}
use Rattle.typing_rules.specs.declared.exception.Exception.{Exception}
use Rattle.typing_rules.specs.declared.exception.Exception.TheVariants as exceptions
use Rattle.code_shapes.specs.Shapes.{PartTypes}
use Rattle.lynx_meaning.specs.Courses.{Action, Destroy, Bind, Unbind, Reply, Close, Stop}
use Rattle.lynx_meaning.specs.Courses as actions
use Rattle.lynx_meaning.specs.Needs.{types_of}
use Rattle.lynx_meaning.specs.Values.{Value}
use Rattle.end_protocol.specs.declared.kept.Response.{Response}
use Rattle.end_protocol.specs.declared.messages.Connect.{Connect}
use Rattle.end_protocol.specs.Asking.{connected, accepts_too, binds, unbinds, replied}
use Rattle.end_protocol.specs.Deeds.{issued_deeds, replied_deeds}
use Rattle.end_protocol.specs.Wanting.{is_busy}
use Rattle.process_run.specs.States.{Held, Open, Module, State, Done, quietly, deeds_on}
use Rattle.process_run.specs.Ends.{held_at, keeps, lets_go, link_of, links_in, ends_at, values_of}
use Rattle.process_run.specs.Deaths.{raises, does, destroys}

-- ---- links (rule 8)

-- on a link that the process holds, else NOLINK is raised
abbrev pub on_held : ℕ → Option Held → State → (Held → Done) → Done
on_held thread None s next = quietly (raises thread exceptions.NoLink s)
on_held thread (Some h) s next = next h

abbrev pub on_live : Bool → ℕ → State → Done → Done
on_live true thread s done = quietly (raises thread exceptions.DeadLink s)
on_live false thread s done = done

-- the end may not be named in a message that goes on this one, with these named before it
abbrev pub is_kept_back : Held → List ℕ → Held → Bool
is_kept_back on before h = list_any (λ n. n == h.number) before || same_link h.end on.end || is_busy h.kept

-- what is raised for a link value, if anything
abbrev pub link_fault : Held → List ℕ → Option Held → Option Exception
link_fault on before None = Some exceptions.NoLink
link_fault on before (Some h) = if is_kept_back on before h then Some exceptions.BusyLink else None

abbrev pub or_fault : Option Exception → Option Exception → Option Exception
or_fault (Some first) others = Some first
or_fault None others = others

-- the first of the link values decides for which something is raised
abbrev pub fault_among : Held → List ℕ → List ℕ → State → Option Exception
fault_among on before [] s = None
fault_among on before (n ∷ ns) s = or_fault (link_fault on before (held_at n s)) (fault_among on (n ∷ before) ns s)

-- Nothing moves before all tests pass
abbrev pub unless : ℕ → Option Exception → State → Done → Done
unless thread (Some exception) s done = quietly (raises thread exception s)
unless thread None s done = done

-- a message with these values may go on the end
abbrev pub tested : ℕ → Held → List Value → State → Done → Done
tested thread on vs s done = unless thread (fault_among on [] (links_in vs) s) s done

-- ---- operations

-- for the operation of this signature; where there is none, nothing is done, and the outcome is without values
abbrev pub with_signature : ℕ → Option (List ℕ) → State → (List ℕ → Done) → Done
with_signature thread None s next = quietly (does thread s)
with_signature thread (Some signature) s next = next signature

abbrev pub served_by : Module → Option ℕ → Option (List ℕ)
served_by m None = None
served_by m (Some op) = slice_get m.signatures op

abbrev pub served_in : Module → Option PartTypes → Option (List ℕ)
served_in m None = None
served_in m (Some p) = served_by m p.op

-- the signature of the operation that an entry serves
abbrev pub served : Module → ℕ → Option (List ℕ)
served m entry = served_in m (slice_get m.parts (suc entry))

-- ---- connects

-- the request of a connect, which gets its number later
abbrev pub asking : ℕ → ℕ → List ℕ → List Value → State → Connect
asking thread op signature vs s =
    record {
      thread = thread;
      number = 0;
      signature = signature;
      values = values_of vs;
      results = types_of (λ o. o.results) (slice_get s.code.types.ops op);
      ends = ends_at (links_in vs) s;
    }

abbrev pub issues : Connect → Held → List Value → State → Done
issues c h vs s =
    record {
      state = keeps h (connected s.version c h.kept) (lets_go (links_in vs) s);
      deeds = deeds_on h.end (issued_deeds c h.kept);
    }

-- ---- replies (rule 7)

abbrev pub listed : Option (List Open) → List Open
listed None = []
listed (Some os) = os

-- the requests that are open in a thread
abbrev pub opened_in : ℕ → State → List Open
opened_in thread s = listed (slice_get s.opened thread)

abbrev pub with_opened : ℕ → List Open → State → State
with_opened thread os s = record s { opened = slice_set s.opened thread os }

abbrev pub and_then : Done → (State → State) → Done
and_then d next = record d { state = next d.state }

-- this is replied on the end
abbrev pub answers_on : Held → Response → State → Done
answers_on h r s =
    record { state = keeps h (replied s.version r h.kept) s; deeds = deeds_on h.end (replied_deeds r h.kept) }

abbrev pub done_with : Open → List Value → State → Response
done_with o vs s = record { number = o.number; status = 0; values = values_of vs; ends = ends_at (links_in vs) s }

abbrev pub failed : Open → Response
failed o = record { number = o.number; status = 1; values = []; ends = [] }

abbrev pub replies_on : ℕ → List Value → Open → List Open → Option Held → State → Done
replies_on thread vs o os None s = quietly (raises thread exceptions.DeadLink s)
replies_on thread vs o os (Some h) s =
    on_live h.kept.dead thread s
    (tested thread h vs s
    (and_then (answers_on h (done_with o vs s) (lets_go (links_in vs) s))
    (λ t. does thread (with_opened thread (record o { answered = true } ∷ os) t))))

-- a reply to the innermost open request
abbrev pub replies : ℕ → List Value → List Open → State → Done
replies thread vs [] s = quietly (does thread s)
replies thread vs (o ∷ os) s =
    if o.answered then quietly (raises thread exceptions.Replied s) else replies_on thread vs o os (held_at o.on s) s

-- a request that was not answered has failed
abbrev pub fails : Open → Option Held → State → Done
fails o None s = quietly s
fails o (Some h) s = if o.answered then quietly s else answers_on h (failed o) s

-- the innermost open request is closed
abbrev pub closes : ℕ → List Open → State → Done
closes thread [] s = quietly (does thread s)
closes thread (o ∷ os) s = and_then (fails o (held_at o.on s) s) (λ t. does thread (with_opened thread os t))

-- ---- all actions

-- A thread asks for this. A connect or accept has no outcome yet, and any other action has it at once; a `stop` has none
abbrev pub acts : ℕ → Action → State → Done
acts thread (Destroy link) s = on_held thread (held_at (link_of link) s) s (λ h. quietly (does thread (destroys h s)))
acts thread (Bind link entry) s =
    with_signature thread (served s.code entry) s
    (λ signature. on_held thread (held_at (link_of link) s) s
    (λ h. on_live h.kept.dead thread s
    (quietly (does thread (keeps h (binds (record { entry = entry; signature = signature }) h.kept) s)))))
acts thread (Unbind link entry) s =
    with_signature thread (served s.code entry) s
    (λ signature. on_held thread (held_at (link_of link) s) s (λ h. quietly (does thread (keeps h (unbinds entry h.kept) s))))
acts thread (actions.Connect link op vs) s =
    with_signature thread (slice_get s.code.signatures op) s
    (λ signature. on_held thread (held_at (link_of link) s) s
    (λ h. on_live h.kept.dead thread s (tested thread h vs s (issues (asking thread op signature vs s) h vs s))))
acts thread (actions.Accept link op) s =
    with_signature thread (slice_get s.code.signatures op) s
    (λ signature. on_held thread (held_at (link_of link) s) s
    (λ h. on_live h.kept.dead thread s
    (quietly (keeps h (accepts_too (record { thread = thread; signature = signature }) h.kept) s))))
acts thread (Reply vs) s = replies thread vs (opened_in thread s) s
acts thread Close s = closes thread (opened_in thread s) s
acts thread Stop s = quietly (record s { over = true })
acts thread _ s = quietly (does thread s)
