-- The definition of a process run: what a process does, step by step (rules 3 and 10).
use Rattle.std.specs.Prelude.{ℕ, zero, suc, ◌+◌, ◌*◌, not, ◌||◌, Bool, true, false, List, [], ◌∷◌, ◌++◌, length, map, sum_by, Option, None, Some}
use Rattle.std.specs.List.{list_any}
use Rattle.charlotte_calls.specs.declared.calls.Answer.{Answer}
use Rattle.charlotte_calls.specs.declared.calls.Call.{Call}
use Rattle.charlotte_calls.specs.declared.calls.Call.TheVariants as call
use Rattle.charlotte_calls.specs.declared.names.EndId.{EndId}
use Rattle.charlotte_calls.specs.declared.names.Way.TheVariants.{Inward}
use Rattle.charlotte_calls.specs.declared.program.Next.{Next}
use Rattle.charlotte_calls.specs.declared.program.Next.TheVariants as next
use Rattle.charlotte_calls.specs.Program.{steps}
use Rattle.lynx_packets.specs.Spelling.{spelling}
use Rattle.lynx_code.specs.declared.code.Code.{Code}
use Rattle.code_shapes.specs.Shapes.{program}
use Rattle.lynx_meaning.specs.Courses.{New, Write}
use Rattle.machine_turns.specs.Turns.{Beat, Stops, Spent, Act, AllBlocked, Finished, run}
use Rattle.end_protocol.specs.declared.going.Due.{Due}
use Rattle.end_protocol.specs.declared.going.Due.TheVariants as due
use Rattle.end_protocol.specs.declared.kept.Kept.{Kept}
use Rattle.end_protocol.specs.declared.messages.Message.{Message}
use Rattle.end_protocol.specs.Going.{settled, due_call, enclosed}
use Rattle.end_protocol.specs.Lists.{head, tail, is_nil}
use Rattle.end_protocol.specs.Wanting.{is_silent}
use Rattle.process_run.specs.States.{Holding, Keeps, Gone, Place, Asked, Nothing, Make, Print, Destroy, Send, Receive, Cancel, Wait, Exit, State, Done, DeedOn, start}
use Rattle.process_run.specs.Ends.{room}
use Rattle.process_run.specs.Actions.{acts}
use Rattle.process_run.specs.Reports.{answered}

-- ---- a step

-- what a step does, the state that it leaves, and the deeds in it
pub record Did : Type 0 where
  pub next : Next
  pub state : State
  pub deeds : List DeedOn

abbrev pub asks : Asked → Call → State → Did
asks asked call s = record { next = next.Ask call; state = record s { asked = asked }; deeds = [] }

abbrev pub pauses : State → Did
pauses s = record { next = next.Pause; state = record s { asked = Nothing }; deeds = [] }

abbrev pub ends : State → Did
ends s = record { next = next.Ended; state = s; deeds = [] }

-- after these deeds
abbrev pub with_deeds : List DeedOn → Did → Did
with_deeds ds d = record d { deeds = ds ++ d.deeds }

-- ---- due calls (rule 3)

abbrev pub settled_in : Bool → Holding → Holding
settled_in free (Keeps k) = Keeps (settled free k)
settled_in free (Gone own) = Gone own

abbrev pub settled_at : Bool → Place → Place
settled_at free p = record p { holding = settled_in free p.holding }

-- each allow that is due is queued
unfoldable pub settles : State → State
settles s = record s { places = map (settled_at (room s)) s.places }

-- a call, and what it is asked for
pub record Asking : Type 0 where
  pub asked : Asked
  pub call : Call

abbrev pub sending : ℕ → ℕ → EndId → Option Message → Option Asking
sending version n x None = None
sending version n x (Some m) = Some (record { asked = Send n; call = call.Send x (spelling m.packet) (enclosed version m) })

abbrev pub due_so : ℕ → ℕ → EndId → Kept → Due → Option Asking
due_so version n x k due.Nothing = None
due_so version n x k due.Send = sending version n x (head k.queue)
due_so version n x k due.Receive = Some (record { asked = Receive n; call = call.Receive x })
due_so version n x k due.Cancel = Some (record { asked = Cancel n; call = call.Cancel x Inward })

-- the call that is due on an end
abbrev pub due_on : ℕ → Bool → ℕ → EndId → Holding → Option Asking
due_on version free n x (Keeps k) = due_so version n x k (due_call free k)
due_on version free n x (Gone own) = None

abbrev pub or_asking : Option Asking → Option Asking → Option Asking
or_asking (Some first) others = Some first
or_asking None others = others

-- the first of these ends, from this number on, for which a call is due
abbrev pub due_among : ℕ → Bool → ℕ → List Place → Option Asking
due_among version free n [] = None
due_among version free n (p ∷ ps) = or_asking (due_on version free n p.end p.holding) (due_among version free (n + 1) ps)

-- ends are destroyed before any other call is due
abbrev pub first_due : List EndId → State → Option Asking
first_due [] s = due_among s.version (room s) 1 s.places
first_due (x ∷ xs) s = Some (record { asked = Destroy; call = call.Destroy x })

abbrev pub asks_first : Option Asking → State → (State → Did) → Did
asks_first None s next = next s
asks_first (Some a) s next = asks a.asked a.call (record s { doomed = tail s.doomed })

-- the first call that is due is asked; where none is, the process goes on
abbrev pub calls : State → (State → Did) → Did
calls s next = let t = settles s in asks_first (first_due t.doomed t) t next

-- ---- a slice (rule 10)

abbrev pub most_instructions : ℕ
most_instructions = 1000

-- how many actions there may be in a slice
abbrev pub most_actions : State → ℕ
most_actions s = 2 * most_instructions + sum_by length s.opened

-- an entry is bound to the end, or a packet is queued or started
abbrev pub is_in_use : Holding → Bool
is_in_use (Keeps k) = not (is_nil k.bindings) || not (is_nil k.queue) || not (is_silent k.sending)
is_in_use (Gone own) = false

abbrev pub exits : State → Did
exits s = asks Exit call.Exit (record s { over = true })

abbrev pub waits : State → Did
waits s = asks Wait call.Wait s

-- no thread stands
abbrev pub finishes : Bool → State → Did
finishes true s = waits s
finishes false s = exits s

-- the machine goes on, unless it stopped for good
abbrev pub unless_over : Bool → State → (State → Did) → Did
unless_over true s next = exits s
unless_over false s next = next s

-- how the machine stopped, and what comes of that; with this fuel left it goes on after an action
abbrev pub stopped : Beat → State → (ℕ → Done → Did) → Did
stopped (Stops (Act n New) left t) s next = asks (Make n) call.Make (record s { turns = t })
stopped (Stops (Act n (Write bytes)) left t) s next = asks (Print n) (call.Print bytes) (record s { turns = t })
stopped (Stops (Act n a) left t) s next = next left (acts n a (record s { turns = t }))
stopped (Stops AllBlocked left t) s next = calls (record s { turns = t }) waits
stopped (Stops Finished left t) s next = calls (record s { turns = t }) (λ now. finishes (list_any (λ p. is_in_use p.holding) now.places) now)
stopped (Stops Spent left t) s next = pauses (record s { turns = t })
stopped _ s next = pauses s

abbrev pub machine_run : ℕ → State → Beat
machine_run fuel s = run (program s.code.types s.code.instructions) fuel s.turns

-- with at most so many actions, and so many instructions
abbrev pub goes_on : ℕ → ℕ → State → Did
goes_on zero fuel s = calls s (λ t. unless_over t.over t pauses)
goes_on (suc k) fuel s =
    calls s
    (λ t. unless_over t.over t
    (λ u. stopped (machine_run fuel u) u (λ left d. with_deeds d.deeds (goes_on k left d.state))))

abbrev pub slice : State → Did
slice s = goes_on (most_actions s) most_instructions s

-- ---- steps

-- after the answer to an Exit it has ended
abbrev pub proceeds : Asked → Done → Did
proceeds Exit d = ends d.state
proceeds _ d = with_deeds d.deeds (slice d.state)

-- a step, with the answer to what was asked in the last one
abbrev pub did : State → Option Answer → Did
did s given = proceeds s.asked (answered s.asked given s)

-- what it does, and the state after it
abbrev pub step : State → Option Answer → Next × State
step s given = ((did s given).next, (did s given).state)

abbrev pub deeds : State → Option Answer → List DeedOn
deeds s given = (did s given).deeds

-- ---- a process run

-- what a process of this version, with this code and these ends, does with these answers; at the start and after a pause there is none
abbrev pub process_run : ℕ → Code → List EndId → List (Option Answer) → List Next
process_run version code xs given = steps step (start version code xs) given

-- the deeds in these steps
abbrev pub deeds_of : State → List (Option Answer) → List DeedOn
deeds_of s [] = []
deeds_of s (a ∷ given) = deeds s a ++ deeds_of (step s a).1 given
