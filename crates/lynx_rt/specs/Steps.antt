-- What a process does in a step, as code tells it: the next, and the state after it.
use Rattle.std.specs.Prelude.{◌≡◌, ℕ, suc, Bool, true, false, if◌then◌else◌, List, [], ◌∷◌, Option, None, Some, Result, Ok, Err, slice_get, ⊤}
use Rattle.charlotte_calls.specs.declared.calls.Call.TheVariants as call
use Rattle.charlotte_calls.specs.declared.names.Way.TheVariants.{Inward}
use Rattle.charlotte_calls.specs.declared.program.Next.{Next}
use Rattle.charlotte_calls.specs.declared.program.Next.TheVariants as next
use Rattle.charlotte_calls.specs.declared.names.EndId.{EndId}
use Rattle.lynx_packets.specs.declared.packet.RtPacket.{RtPacket}
use Rattle.code_shapes.specs.Shapes.{PartTypes, opened_by}
use Rattle.compiler_runnable.specs.Runnable.{start_locals}
use Rattle.lynx_meaning.specs.Courses.{Action}
use Rattle.lynx_meaning.specs.Courses as actions
use Rattle.lynx_meaning.specs.Values.{Value}
use Rattle.machine_turns.specs.Turns.{Act, Stop, Stops, spawned}
use Rattle.end_protocol.specs.declared.going.Due.{Due}
use Rattle.end_protocol.specs.declared.going.Due.TheVariants as due
use Rattle.end_protocol.specs.declared.hearing.Heard.{Heard}
use Rattle.end_protocol.specs.declared.hearing.Heard.TheVariants as heard
use Rattle.end_protocol.specs.declared.kept.Kept.{Kept}
use Rattle.end_protocol.specs.declared.messages.Message.{Message}
use Rattle.end_protocol.specs.Lists.{head, tail}
use Rattle.process_run.specs.States.{Asked, Destroy, Receive, Cancel, Exit, Done, State}
use Rattle.process_run.specs.Actions.{acts}
use Rattle.process_run.specs.Reports.{listens}
use Rattle.process_run.specs.Runs.{Asking, Did, first_due, goes_on, sending, settles, stopped}
use Rattle.process_ends.specs.Ends.{kept_at}
use Rattle.process_sound.specs.May.{MayGoOn}

-- ---- packets

-- the packet that was read, if there is one
abbrev pub IsRead : Option RtPacket → Result RtPacket ℕ → Type 0
IsRead None read = (left : ℕ) × (read ≡ Err left)
IsRead (Some p) read = read ≡ Ok p

-- what is heard of bytes that spell none
abbrev pub unread : Bool → List EndId → Heard
unread dead xs = if dead then heard.TooLate xs else heard.Unreadable xs

-- this is heard of it, and kept then
abbrev pub Listens : ℕ → Bool → Option RtPacket → List EndId → Kept → Kept → Heard → Type 0
Listens version free packet xs before now comes = (read : Result RtPacket ℕ) → IsRead packet read → (now, comes) ≡ listens version free read xs before

-- ---- threads

-- a thread of the entry begins
abbrev pub Begins : ℕ → ℕ → List Value → State → State → Type 0
Begins n entry vs s t =
    (p : PartTypes) → slice_get s.code.parts (suc entry) ≡ Some p
    → t ≡ record s { turns = spawned n (opened_by p.op) p.start (start_locals p.locals vs) s.turns }

-- ---- calls

-- what is done next, where this says that something is
abbrev pub next_if : Bool → Next → Option Next
next_if true n = Some n
next_if false n = None

abbrev pub first_in : Option Kept → Option Message
first_in None = None
first_in (Some k) = head k.queue

-- the first packet that is queued on the end of this number
abbrev pub first_at : ℕ → State → Option Message
first_at n s = first_in (kept_at n s.places)

-- this was asked, and nothing else changed
abbrev pub Asks : Option Asking → State → Option Next → State → Type 0
Asks None s n t = (n ≡ None) × (t ≡ s)
Asks (Some a) s n t = (n ≡ Some (next.Ask a.call)) × (t ≡ record s { asked = a.asked })

-- what is asked for a call of this kind that is due on the end of this number
abbrev pub due_by : ℕ → ℕ → EndId → Option Message → Due → Option Asking
due_by version n x first due.Nothing = None
due_by version n x first due.Send = sending version n x first
due_by version n x first due.Receive = Some (record { asked = Receive n; call = call.Receive x })
due_by version n x first due.Cancel = Some (record { asked = Cancel n; call = call.Cancel x Inward })

-- the first of these ends is destroyed
abbrev pub DestroysOf : List EndId → State → Option Next → State → Type 0
DestroysOf [] s n t = (n ≡ None) × (t ≡ s)
DestroysOf (x ∷ xs) s n t = (n ≡ Some (next.Ask (call.Destroy x))) × (t ≡ record s { asked = Destroy; doomed = xs })

-- the first call that is due was asked, or none is
abbrev pub IsDue : Option Asking → State → Option Next → State → Type 0
IsDue None s n t = (n ≡ None) × (t ≡ s)
IsDue (Some a) s n t = (n ≡ Some (next.Ask a.call)) × (t ≡ record s { asked = a.asked; doomed = tail s.doomed })

-- of the ends as they are once each allow that is due is queued
abbrev pub IsFirstCall : State → Option Next → State → Type 0
IsFirstCall s n t = IsDue (first_due (settles s).doomed (settles s)) (settles s) n t

-- ---- steps

abbrev pub is_exit : Asked → Bool
is_exit Exit = true
is_exit _ = false

-- this is done next, and leaves this state
pub record Leads (d : Did) (n : Next) (t : State) : Type 0 where
  pub next : d.next ≡ n
  pub state : d.state ≡ t

-- the action is no call
abbrev pub IsNoCall : Action → Type 0
IsNoCall actions.New = ⊥
IsNoCall (actions.Write bytes) = ⊥
IsNoCall _ = ⊤

-- the machine stopped for an action that is no call, and was done
pub record ActsOn (stop : Stop) (s t : State) : Type 0 where
  pub thread : ℕ
  pub action : Action
  pub no_call : IsNoCall action
  pub is : stop ≡ Act thread action
  pub acted : t ≡ (acts thread action s).state

-- a stop of the machine leads to this, or it goes on after an action
abbrev pub StopsSo : Stop → State → Option Next → State → Type 0
StopsSo stop s (Some n) t = (left : ℕ) (more : ℕ → Done → Did) → Leads (stopped (Stops stop left s.turns) s more) n t
StopsSo stop s None t = ActsOn stop s t

-- it goes on in this state, with one action less
pub record GoesOn (k fuel : ℕ) (s : State) (left : ℕ) (t : State) : Type 0 where
  pub fewer : ℕ
  pub one_less : k ≡ suc fewer
  pub may : MayGoOn fewer left t
  pub leads : (n : Next) (u : State) → Leads (goes_on fewer left t) n u → Leads (goes_on k fuel s) n u

-- A round of a slice: this is done next, or it goes on
abbrev pub IsRound : ℕ → ℕ → State → Option Next → ℕ → State → Type 0
IsRound k fuel s (Some n) left t = Leads (goes_on k fuel s) n t
IsRound k fuel s None left t = GoesOn k fuel s left t
