-- The steps of a run.
use Rattle.std.specs.Prelude.{◌≡◌, ◌<◌, ℕ, true, Option, None, Some, IfSome, IfNone, is_some, slice_get, ⊤}
use Rattle.lynx_meaning.specs.Code.{Program}
use Rattle.code_shapes.specs.Shapes.{program}
use Rattle.machine_turns.specs.Threads.{Standing}
use Rattle.lynx_meaning.specs.Needs.{wanted_by}
use Rattle.machine_turns.specs.Turns.{Beat, RunsOn, Stops, Act, Turns, beat, beats, comes, with_thread}
use Rattle.machine_turns.specs.Turns as turns
use Rattle.machine_steps.specs.Operands.{IsCourse, StaysReady}
use Rattle.machine_thread.specs.Told.{action_of, told}
use Rattle.machine_thread.specs.declared.action.Action.{Action}
use Rattle.machine_thread.specs.declared.action.Move.{Move}
use Rattle.machine_sound.specs.Sound.{IsAsking, StayBlocked}
use Rattle.machine_sound.specs.Taken.{next_number}
use Rattle.machine_sound.specs.Weights.{weight}
use Rattle.machine_never_stuck.specs.Sound.{IsAction}
use Rattle.machine_requests.specs.Open.{open_of}
use Rattle.lynx_interp.specs.Machines.{IsMachine, State}
use Rattle.lynx_interp.specs.declared.stop.Stop.{Stop}
use Rattle.lynx_interp.specs.declared.stop.Stop.TheVariants as stop

abbrev pub stop_of : Stop → turns.Stop
stop_of stop.Spent = turns.Spent
stop_of (stop.Act thread action) = Act thread (action_of action)
stop_of stop.AllBlocked = turns.AllBlocked
stop_of stop.Finished = turns.Finished

-- how far a run came: it goes on, or stops so
abbrev pub beat_of : Option Stop → ℕ → Turns → Beat
beat_of None left t = RunsOn left t
beat_of (Some stop) left t = Stops (stop_of stop) left t

-- some beats lead to this
abbrev pub Comes : Program → ℕ → Turns → Beat → Type 0
Comes p fuel t b = (k : ℕ) × (beats p k (RunsOn fuel t) ≡ b)

-- where a run stopped for an action, the thread waits for its outcome
abbrev pub IsAsked : Stop → Turns → Type 0
IsAsked (stop.Act thread action) t = IsAsking thread (wanted_by (action_of action)) t
IsAsked _ t = ⊤

-- The action for which it stopped is one of the code, where the requests are open that are open in its thread: the operation or entry is
-- there, what it sends has the types of the operation, and a reply or close finds a request open.
abbrev pub IsOfCode : Stop → State → Type 0
IsOfCode (stop.Act thread action) now = IsAction now.types (open_of now.instructions thread now.turns) (action_of action)
IsOfCode _ now = ⊤

-- the open requests of each thread that stands are as before, and a thread that ended had none
abbrev pub KeepRequests : State → State → Type 0
KeepRequests before now = (n : ℕ) → open_of before.instructions n now.turns ≡ open_of before.instructions n before.turns

-- ---- a turn

-- this thread can go on
abbrev pub CanGoOn : ℕ → State → Type 0
CanGoOn n state =
    (s : Standing) × (slice_get state.turns.threads n ≡ Some (Some s))
    × StaysReady (program state.types state.instructions) state.turns.globals s

-- it went on with so much fuel, and so much is left
abbrev pub IsTurn : ℕ → ℕ → State → State → Move → ℕ → Type 0
IsTurn n fuel before after made left =
    (s t : Standing) × (slice_get before.turns.threads n ≡ Some (Some s))
    × (after ≡ record before { turns = with_thread n (Some t) (record before.turns { globals = after.turns.globals }) })
    × IsCourse (program before.types before.instructions) fuel before.turns.globals s left (told made after.turns.globals t)

-- ---- what comes of a turn

-- its thread may have asked for this
abbrev pub after_turn : ℕ → ℕ → Option Action → Turns → Beat
after_turn fuel n None t = RunsOn fuel t
after_turn fuel n (Some a) t = Stops (Act n (action_of a)) fuel t

-- those that wait are changed by what came of the turn of this thread
abbrev pub Settles : ℕ → Move → Option Action → State → State → Type 0
Settles n made action before after =
    (after ≡ record before { turns = after.turns })
    × ((fuel : ℕ) (s : Standing) → slice_get before.turns.threads n ≡ Some (Some s)
    → after_turn fuel n action after.turns ≡ comes fuel n before.turns (told made before.turns.globals s))

-- ---- rounds

-- a thread can go on, and there is fuel
pub record MayGoOn (fuel : ℕ) (t : Turns) : Type 0 where
  pub stands : turns.stands t ≡ true
  pub next : is_some (next_number t.running t.ready) ≡ true
  pub fueled : 0 < fuel

-- a run with this fuel stops so at once
pub record StopsAt (fuel : ℕ) (t : Turns) (stop : Stop) : Type 0 where
  pub stops : (p : Program) → beat p fuel t ≡ Stops (stop_of stop) fuel t
  pub asked : IsAsked stop t

-- Some beats of a machine lead here: the run goes on, and less is left to do, or it stops so.
pub record IsRound (fuel : ℕ) (before : State) (stopped : Option Stop) (left : ℕ) (now : State) : Type 0 where
  pub come : Comes (program before.types before.instructions) fuel before.turns (beat_of stopped left now.turns)
  pub asked : IfSome stopped (λ stop. IsAsked stop now.turns)
  pub of_code : IfSome stopped (λ stop. IsOfCode stop now)
  pub blocked : StayBlocked before.turns now.turns
  pub requests : KeepRequests before now
  pub less : IfNone stopped (weight left now.turns < weight fuel before.turns)
  pub machine : IsMachine now
  pub same : now ≡ record before { turns = now.turns }
