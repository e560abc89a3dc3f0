-- What is done with an end of a number, if it is held.
use Rattle.std.specs.Prelude.{ℕ, Bool, false, List, [], Option, None, Some, if◌then◌else◌}
use Rattle.charlotte_calls.specs.declared.calls.Report.{Report}
use Rattle.charlotte_calls.specs.declared.names.EndId.{EndId}
use Rattle.charlotte_calls.specs.declared.names.Outcome.TheVariants.{Done}
use Rattle.charlotte_calls.specs.declared.names.Way.TheVariants.{Inward}
use Rattle.typing_rules.specs.declared.exception.Exception.{Exception}
use Rattle.typing_rules.specs.declared.exception.Exception.TheVariants as exceptions
use Rattle.code_shapes.specs.Shapes.{PartTypes}
use Rattle.end_protocol.specs.declared.kept.Kept.{Kept}
use Rattle.end_protocol.specs.declared.hearing.Heard.{Heard}
use Rattle.end_protocol.specs.declared.hearing.Heard.TheVariants as heard
use Rattle.end_protocol.specs.Going.{returns, send_over}
use Rattle.end_protocol.specs.Kept.{fresh}
use Rattle.end_protocol.specs.Wanting.{is_busy}
use Rattle.process_run.specs.States.{Gone, Held, Open, State}
use Rattle.process_run.specs.Deaths.{destroys, dies_at}
use Rattle.process_run.specs.Ends.{dooms, held_at, keeps, puts}
use Rattle.process_run.specs.Actions.{fault_among}
use Rattle.process_run.specs.Reports.{held_if, reported_on, returns_to, takes}
use Rattle.process_sound.specs.May.{at_end}

-- what is kept for it becomes this
abbrev pub changes : ℕ → (Kept → Kept) → State → State
changes n change s = at_end n (λ h t. keeps h (change h.kept) t) s

-- what was kept for the end is taken out, if it was held
abbrev pub taken_so : Option Kept → ℕ → State → State
taken_so None n s = s
taken_so (Some k) n s = puts n (Gone false) s

-- ---- exceptions

-- of an end that is held
abbrev pub live_fault : Held → List ℕ → State → Option Exception
live_fault h links s = if h.kept.dead then Some exceptions.DeadLink else fault_among h [] links s

abbrev pub held_fault : Option Held → List ℕ → State → Option Exception
held_fault None links s = Some exceptions.DeadLink
held_fault (Some h) links s = live_fault h links s

-- what a reply to an open request raises, with these links among its values
abbrev pub reply_fault : Open → List ℕ → State → Option Exception
reply_fault o links s = if o.answered then Some exceptions.Replied else held_fault (held_at o.on s) links s

-- what is raised for the first of these links that may not go on the end, where that is held
abbrev pub fault_on : Option Held → List ℕ → State → Option Exception
fault_on None links s = None
fault_on (Some h) links s = fault_among h [] links s

-- what is raised where the end is not held, or is dead
abbrev pub dead_fault : Option Held → Option Exception
dead_fault None = Some exceptions.NoLink
dead_fault (Some h) = if h.kept.dead then Some exceptions.DeadLink else None

-- an end of this name, of which no more matters
abbrev pub named : EndId → Held
named x = record { number = 0; end = x; kept = fresh }

-- an end that is held may not be named in a message
abbrev pub busy_so : Option Held → Bool
busy_so None = false
busy_so (Some h) = is_busy h.kept

-- ---- deaths

-- the end dies, once what is kept for it has become this
abbrev pub dies_after : (Kept → Kept) → Held → State → State
dies_after change h s = dies_at (record h { kept = change h.kept }) s

-- ---- sends

-- the ends of the send that is started on the end were the process's own
abbrev pub own_so : Option Kept → Bool
own_so None = false
own_so (Some k) = returns k.sending

-- a report Destroyed of a send, which returns these ends
abbrev pub falls_back : List EndId → Held → State → State
falls_back xs h s = held_if (returns h.kept.sending) xs (dies_after send_over h s)

-- ---- what is heard

-- this comes of what was heard on the end of this number
abbrev pub comes_at : ℕ → Heard → State → State
comes_at n heard.Nothing s = s
comes_at n (heard.Accepted w) s = takes w.by n w s
comes_at n (heard.Returned thread r) s = returns_to thread r.status r s
comes_at n (heard.TooLate xs) s = dooms xs s
comes_at n (heard.Unreadable xs) s = dooms xs (at_end n destroys s)

-- this is reported of an end that is held
abbrev pub hears_of : Report → Held → State → State
hears_of r h s = (reported_on h r.way r.outcome r s).state

-- a message that came on it is read
abbrev pub reads_of : Report → Held → State → State
reads_of r h s = (reported_on h Inward Done r s).state

-- ---- operations

-- the operation of a part, if there is one
abbrev pub op_of : Option PartTypes → Option ℕ
op_of None = None
op_of (Some p) = p.op
