-- When a process may do something: its threads ask for what they are given, and what it sends can be spelled. Each is the weakest such condition,
-- by cases of what is done.
use Rattle.std.specs.Prelude.{◌≡◌, ◌≤◌, ℕ, zero, suc, false, List, [], ◌∷◌, length, Ok, Err, Option, None, Some, slice_get, ⊤}
use Rattle.charlotte_calls.specs.declared.calls.Answer.{Answer}
use Rattle.charlotte_calls.specs.declared.calls.Answer.TheVariants as answer
use Rattle.charlotte_calls.specs.declared.calls.Report.{Report}
use Rattle.charlotte_calls.specs.declared.names.Outcome.{Outcome}
use Rattle.charlotte_calls.specs.declared.names.Outcome.TheVariants as outcomes
use Rattle.charlotte_calls.specs.declared.names.Way.{Way}
use Rattle.charlotte_calls.specs.declared.names.Way.TheVariants.{Inward, Outward}
use Rattle.typing_rules.specs.declared.exception.Exception.TheVariants as exceptions
use Rattle.code_shapes.specs.Shapes.{PartTypes}
use Rattle.compiler_runnable.specs.Runnable.{parameters}
use Rattle.lynx_meaning.specs.Courses.{Action}
use Rattle.lynx_meaning.specs.Courses as actions
use Rattle.lynx_meaning.specs.Values.{HaveTypes, Value}
use Rattle.lynx_packets.specs.declared.packet.RtPacket.{RtPacket}
use Rattle.lynx_packets.specs.declared.value.RtValue.{RtValue}
use Rattle.lynx_packets.specs.declared.value.RtValue.TheVariants as packed
use Rattle.lynx_packets.specs.Packets.{packet_of}
use Rattle.lynx_packets.specs.Spelling.{IsPacket, spelling}
use Rattle.machine_turns.specs.Turns.{Beat, Stops, Act, AllBlocked, Finished}
use Rattle.end_protocol.specs.declared.hearing.Heard.{Heard}
use Rattle.end_protocol.specs.declared.hearing.Heard.TheVariants as heard
use Rattle.end_protocol.specs.declared.kept.Kept.{Kept}
use Rattle.end_protocol.specs.declared.kept.Response.{Response}
use Rattle.end_protocol.specs.declared.kept.Taker.{Taker}
use Rattle.end_protocol.specs.declared.kept.Taker.TheVariants as takers
use Rattle.end_protocol.specs.declared.kept.Wanted.{Wanted}
use Rattle.end_protocol.specs.declared.messages.Message.{Message}
use Rattle.end_protocol.specs.Falling.{fallen, raised}
use Rattle.end_protocol.specs.Going.{receive_over}
use Rattle.end_protocol.specs.Lists.{head}
use Rattle.process_run.specs.States.{Held, Keeps, Asked, State}
use Rattle.process_run.specs.States as process
use Rattle.process_run.specs.Actions.{acts}
use Rattle.process_run.specs.Deaths.{destroys}
use Rattle.process_run.specs.Ends.{held_at, link_of, number_of, puts, room, unpacked}
use Rattle.process_ends.specs.Ends.{kept_at}
use Rattle.process_run.specs.Reports.{answered, listens, on_end}
use Rattle.process_run.specs.Runs.{first_due, machine_run, most_actions, most_instructions, settles}
use Rattle.process_sound.specs.Machine.{Fits, MayRaise}
use Rattle.process_sound.specs.Packets.{AreOfBytes}

-- ---- ends by number

abbrev pub raised_so : Option Kept → List ℕ
raised_so None = []
raised_so (Some k) = raised (fallen k)

-- the threads in which DEADLINK is raised where the end dies, if it is held
abbrev pub raised_at : ℕ → State → List ℕ
raised_at n s = raised_so (kept_at n s.places)

-- this is done with the end, if the process holds it
abbrev pub at_end : ℕ → (Held → State → State) → State → State
at_end n next s = (on_end (held_at n s) next s).state

-- ---- deaths

-- the end of this number dies, or is destroyed
abbrev pub MayDie : ℕ → State → Type 0
MayDie n s = MayRaise (raised_at n s) exceptions.DeadLink s

-- ---- actions

-- a thread asks for something, and an exception is raised in it
abbrev pub MayFail : ℕ → State → Type 0
MayFail thread s = Fits thread (Err exceptions.NoLink) s

-- a thread destroys the end of this number
pub record MayDestroy (thread n : ℕ) (s : State) : Type 0 where
  pub falls : MayDie n s
  pub goes_on : Fits thread (Ok []) (at_end n destroys s)

-- ---- what is heard

-- a thread goes on with values
abbrev pub MayGoOnWith : ℕ → List RtValue → State → Type 0
MayGoOnWith thread vs s = Fits thread (Ok (unpacked (length s.places) vs)) s

-- the entry is there, and the values are for its parameters
abbrev pub IsEntry : ℕ → List Value → State → Type 0
IsEntry entry vs s = (p : PartTypes) × (slice_get s.code.parts (suc entry) ≡ Some p) × HaveTypes (parameters s.code.types p) vs

abbrev pub MaySpawn : ℕ → Wanted → State → Type 0
MaySpawn entry w s = IsEntry entry (unpacked (length s.places) w.values) s

-- a request that was accepted is taken
abbrev pub MayTake : Taker → Wanted → State → Type 0
MayTake (takers.Thread thread) w s = MayGoOnWith thread w.values s
MayTake (takers.Entry entry) w s = MaySpawn entry w s

-- a connect goes on with its reply
abbrev pub MayReturn : ℕ → ℕ → Response → State → Type 0
MayReturn thread zero r s = MayGoOnWith thread r.values s
MayReturn thread (suc status) r s = MayFail thread s

-- this comes of what was heard on the end of this number
abbrev pub MayComeOf : ℕ → Heard → State → Type 0
MayComeOf n (heard.Accepted w) s = MayTake w.by w s
MayComeOf n (heard.Returned thread r) s = MayReturn thread r.status r s
MayComeOf n (heard.Unreadable xs) s = MayDie n s
MayComeOf n _ s = ⊤

abbrev pub MayHear : ℕ → Kept × Heard → State → Type 0
MayHear n x s = MayComeOf n x.1 (puts n (Keeps x.0) s)

-- a message came
abbrev pub MayListen : ℕ → Kept → Report → State → Type 0
MayListen n k r s = MayHear n (listens s.version (room s) (packet_of s.version r.bytes) r.enclosed (receive_over k)) s

-- this is reported of an end that is held
abbrev pub MayReportOn : ℕ → Kept → Way → Outcome → Report → State → Type 0
MayReportOn n k way outcomes.Destroyed r s = MayDie n s
MayReportOn n k Inward outcomes.Done r s = MayListen n k r s
MayReportOn n k Outward outcomes.Done r s = ⊤

abbrev pub MayReportIn : ℕ → Option Kept → Report → State → Type 0
MayReportIn n None r s = ⊤
MayReportIn n (Some k) r s = MayReportOn n k r.way r.outcome r s

abbrev pub MayReport : Report → State → Type 0
MayReport r s = MayReportIn (number_of r.on s.places) (kept_at (number_of r.on s.places) s.places) r s

-- what was asked has this answer
abbrev pub MayAnswer : Asked → Option Answer → State → Type 0
MayAnswer (process.Make thread) (Some (answer.Made a b)) s = MayGoOnWith thread (packed.Link ∷ packed.Link ∷ []) s
MayAnswer (process.Make thread) given s = MayFail thread s
MayAnswer (process.Print thread) given s = Fits thread (Ok []) s
MayAnswer (process.Send n) given s = MayDie n s
MayAnswer (process.Receive n) given s = MayDie n s
MayAnswer (process.Cancel n) given s = MayDie n s
MayAnswer process.Wait (Some (answer.Reported r)) s = MayReport r s
MayAnswer _ given s = ⊤

-- ---- calls

-- a packet that can be sent
pub record IsSendable (p : RtPacket) : Type 0 where
  pub obeys : AreOfBytes p → IsPacket p
  pub size : length (spelling p) ≤ 256

-- the first packet of each queue can be
abbrev pub AreSendable : State → Type 0
AreSendable s = (n : ℕ) (k : Kept) (m : Message) → kept_at n s.places ≡ Some k → head k.queue ≡ Some m → IsSendable m.packet

-- a call is asked, or, where none is due, this may be done
pub record MayCall (Next : State → Type 0) (s : State) : Type 0 where
  pub sendable : AreSendable (settles s)
  pub next : first_due (settles s).doomed (settles s) ≡ None → Next (settles s)

abbrev pub AnyState : State → Type 0
AnyState s = ⊤

-- ---- a slice

-- the machine stopped for this, in which the thread asks for what has an outcome
abbrev pub MayStopFor : ℕ → Action → State → Type 0
MayStopFor thread (actions.Destroy link) s = MayDestroy thread (link_of link) s
MayStopFor thread _ s = ⊤

abbrev pub MayStop : Beat → State → (ℕ → State → Type 0) → Type 0
MayStop (Stops (Act n actions.New) left t) s Next = ⊤
MayStop (Stops (Act n (actions.Write bytes)) left t) s Next = ⊤
MayStop (Stops (Act n a) left t) s Next = MayStopFor n a (record s { turns = t }) × Next left (acts n a (record s { turns = t })).state
MayStop (Stops AllBlocked left t) s Next = MayCall AnyState (record s { turns = t })
MayStop (Stops Finished left t) s Next = MayCall AnyState (record s { turns = t })
MayStop _ s Next = ⊤

-- with at most so many actions, and so many instructions
abbrev pub MayGoOn : ℕ → ℕ → State → Type 0
MayGoOn zero fuel s = MayCall AnyState s
MayGoOn (suc k) fuel s = MayCall (λ t. t.over ≡ false → MayStop (machine_run fuel t) t (MayGoOn k)) s

-- ---- steps

-- after the answer to an Exit it has ended
abbrev pub MayProceed : Asked → State → Type 0
MayProceed process.Exit s = ⊤
MayProceed _ s = MayGoOn (most_actions s) most_instructions s

-- A process may make a step with this answer
pub record MayStep (s : State) (given : Option Answer) : Type 0 where
  pub answer : MayAnswer s.asked given s
  pub next : MayProceed s.asked (answered s.asked given s).state
