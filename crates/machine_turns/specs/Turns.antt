-- The turns of threads: which of them goes on, and how far a run of so many instructions comes.
use Rattle.std.specs.Prelude.{◌≡◌, ℕ, zero, suc, ◌+◌, ◌*◌, ◌-◌, List, [], ◌∷◌, ◌++◌, replicate, Bool, true}
use Rattle.std.specs.Prelude.{false, if◌then◌else◌, Option, None, Some, slice_get, slice_set}
use Rattle.std.specs.List.{list_any}
use Rattle.std.specs.Option.{is_some}
use Rattle.lynx_meaning.specs.Code.{Program}
use Rattle.lynx_meaning.specs.Courses.{Action, Connect, Accept, Outcome}
use Rattle.lynx_meaning.specs.Values.{Value}
use Rattle.machine_turns.specs.Threads.{Standing, Made}
use Rattle.lynx_meaning.specs.Needs.{Wanted, Results, Arguments}
use Rattle.machine_turns.specs.Threads.{Went, Acts, Awaits, Ends, begun, comes_of, fuel_after}
use Rattle.machine_turns.specs.Threads as threads

-- ---- threads that take turns

-- of the threads that stand
pub record Turns : Type 0 where
  -- the variables of the module
  pub globals : List Value
  -- the threads, each at its number
  pub threads : List (Option Standing)
  -- the one that has the turn
  pub running : Option ℕ
  -- those that wait for a turn, in the order of becoming ready
  pub ready : List ℕ
  -- those whose await found false, in the order of their last turns
  pub awaiting : List ℕ

abbrev pub most_threads : ℕ
most_threads = 32

abbrev pub stands : Turns → Bool
stands t = list_any is_some t.threads

abbrev pub with_thread : ℕ → Option Standing → Turns → Turns
with_thread n s t = record t { threads = slice_set t.threads n s }

-- a thread has blocked or ended: each await is tried again
abbrev pub wakes : Turns → Turns
wakes t = record t { running = None; ready = t.ready ++ t.awaiting; awaiting = [] }

-- an await found false: a first try has blocked, and one more has not
abbrev pub awaits : ℕ → Bool → Turns → Turns
awaits n again t =
    let others = if again then record t { running = None } else wakes t in
    record others { awaiting = others.awaiting ++ n ∷ [] }

-- to connect or to accept is to block; a thread that asks for another action keeps its turn
abbrev pub asks_for : ℕ → Action → Turns → Turns
asks_for n (Connect link op values) t = wakes t
asks_for n (Accept link op) t = wakes t
asks_for n a t = record t { running = Some n }

-- ---- a run

-- why a run stops
pub data Stop : Type 0 where
  -- the fuel is spent, and a thread can go on
  Spent : Stop
  -- a thread asks for this
  Act : ℕ → Action → Stop
  -- threads stand, and none can go on
  AllBlocked : Stop
  -- no thread stands
  Finished : Stop

-- what comes of one instruction of one thread: it goes on with the fuel that is left, or stops
pub data Beat : Type 0 where
  RunsOn : ℕ → Turns → Beat
  Stops : Stop → ℕ → Turns → Beat
  -- no code of a module comes to this
  Broken : Beat

-- what comes of the instruction of this thread
abbrev pub comes : ℕ → ℕ → Turns → Made → Beat
comes fuel n t (Went globals s) = RunsOn fuel (with_thread n (Some s) (record t { globals = globals; running = Some n }))
comes fuel n t (Acts a globals s) = Stops (Act n a) fuel (with_thread n (Some s) (asks_for n a (record t { globals = globals })))
comes fuel n t (Awaits globals s) = RunsOn fuel (with_thread n (Some s) (awaits n s.again (record t { globals = globals })))
comes fuel n t (Ends globals) = RunsOn fuel (with_thread n None (wakes (record t { globals = globals })))
comes fuel n t threads.Broken = Broken

abbrev pub turn_of : Program → ℕ → ℕ → Option (Option Standing) → Turns → Beat
turn_of p fuel n (Some (Some s)) t = comes (fuel_after fuel s) n t (comes_of p t.globals s)
turn_of p fuel n _ t = Broken

-- where a thread can go on, it does so if there is fuel
abbrev pub with_fuel : Program → ℕ → ℕ → Turns → Turns → Beat
with_fuel p zero n t chosen = Stops Spent zero t
with_fuel p (suc fuel) n t chosen = turn_of p (suc fuel) n (slice_get chosen.threads n) chosen

-- the thread that runs, or else the first that is ready
abbrev pub next_turn : Program → ℕ → Turns → Option ℕ → List ℕ → Beat
next_turn p fuel t (Some n) ready = with_fuel p fuel n t t
next_turn p fuel t None (n ∷ ready) = with_fuel p fuel n t (record t { running = Some n; ready = ready })
next_turn p fuel t None [] = Stops AllBlocked fuel t

abbrev pub beat : Program → ℕ → Turns → Beat
beat p fuel t = if stands t then next_turn p fuel t t.running t.ready else Stops Finished fuel t

-- so many beats more
abbrev pub beats : Program → ℕ → Beat → Beat
beats p zero b = b
beats p (suc k) (RunsOn fuel t) = beats p k (beat p fuel t)
beats p (suc k) (Stops stop fuel t) = Stops stop fuel t
beats p (suc k) Broken = Broken

-- A run makes at most so many beats: each after which it goes on takes fuel, or comes behind an instruction that a thread stood amid.
abbrev pub most_beats : ℕ → ℕ
most_beats fuel = 2 * fuel + most_threads + 1

-- a run with this fuel: how it stops, with the fuel that is left and the turns then
abbrev pub run : Program → ℕ → Turns → Beat
run p fuel t = beats p (most_beats fuel) (RunsOn fuel t)

-- ---- what a process does to the turns

-- a thread with these open requests begins at the end of the ready list
abbrev pub spawned : ℕ → List ℕ → ℕ → List Value → Turns → Turns
spawned n requests start locals t = with_thread n (Some (begun requests start locals)) (record t { ready = t.ready ++ n ∷ [] })

-- the number is one of no thread that stands
abbrev pub IsFree : ℕ → Turns → Type 0
IsFree n t = slice_get t.threads n ≡ Some None

-- the module's body begins as the only thread, as number 0
abbrev pub at_start : List Value → Turns
at_start globals =
    record {
      globals = globals;
      threads = Some (begun [] 0 []) ∷ replicate (most_threads - 1) None;
      running = None;
      ready = 0 ∷ [];
      awaiting = [];
    }

-- a thread that connected or accepted is ready again, and any other keeps its turn
abbrev pub is_ready_after : Option Wanted → Bool
is_ready_after (Some (Results op)) = true
is_ready_after (Some (Arguments op)) = true
is_ready_after _ = false

abbrev pub gives_to : ℕ → Outcome → Option (Option Standing) → Turns → Turns
gives_to n outcome (Some (Some s)) t =
    with_thread n (Some (record s { given = s.given ++ outcome ∷ []; wanted = None }))
    (if is_ready_after s.wanted then record t { ready = t.ready ++ n ∷ [] } else t)
gives_to n outcome _ t = t

-- an action of this thread has this outcome
abbrev pub given_to : ℕ → Outcome → Turns → Turns
given_to n outcome t = gives_to n outcome (slice_get t.threads n) t
