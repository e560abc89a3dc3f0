-- How a service keeps its state.
use Rattle.std.specs.Prelude.{◌≡◌, ℕ, ◌+◌, ◌-◌, ◌<◌, ◌&&◌, IsTrue, All, List, Some, length, slice_get, slice_index, slice_set, take}
use Rattle.std.specs.List.{fold}
use Rattle.charlotte_calls.specs.Causes.{link_limit}
use Rattle.charlotte_calls.specs.declared.calls.ServiceStep.{ServiceStep}
use Rattle.charlotte_calls.specs.Names.{opposite}
use Rattle.charlotte_calls.specs.declared.names.EndId.{EndId}
use Rattle.charlotte_calls.specs.declared.names.LinkId.{LinkId}
use Rattle.charlotte_calls.specs.declared.names.Pid.{Pid}
use Rattle.charlotte_calls.specs.declared.names.Side.TheVariants.{A}
use Rattle.charlotte_calls.specs.declared.setting.Setting.{Setting}
use Rattle.link_service.specs.declared.service.ApplyFault.{ApplyFault}
use Rattle.link_service.specs.declared.service.ApplyFault.TheVariants as fault
use Rattle.service_links.specs.Links.{ends_of}
use Rattle.service_processes.specs.Known.{Known, known_of, active_of, IsKnown}
use Rattle.service_processes.specs.Processes.{process_of}
use Rattle.service_processes.specs.declared.processes.ControlBlock.{ControlBlock}
use Rattle.service_step.specs.Ends.{is_owned_by, is_active, put, fresh}
use Rattle.service_step.specs.Run.{Wired, wires_one, nothing_wired, new_processes}
use Rattle.service_step.specs.State.{State}
use Rattle.service_step.specs.Steps.{IsAllowed, step_number}
use Rattle.service_step.specs.declared.state.End.{End}
use Rattle.service_step.specs.declared.state.Place.TheVariants.{Owned}

-- what contracts see of a service
pub record ServiceView : Type 0 where
  pub version : ℕ
  pub homes : List ℕ
  pub made : List ℕ
  pub links : List (List (End × End))
  pub processes : List ControlBlock

-- the state of a service
unfoldable pub state_of : ServiceView → State
state_of v =
    record {
      version = v.version;
      homes = v.homes;
      made = v.made;
      ends = ends_of v.links;
      process = process_of v.processes;
    }

-- an end may be so: the process that owns it is known to have it, and so with an activity where one is started
abbrev pub MayBe : Known → EndId → End → Type 0
MayBe k e x = (p : Pid) → IsTrue (is_owned_by p x.place) → IsTrue (k.held p.0 e) × (IsTrue (is_active x) → IsTrue (k.active p.0 e))

-- each end that a process owns is known
pub record AreKnown (k : Known) (t : EndId → End) : Type 0 where
  pub all : (e : EndId) → MayBe k e (t e)

-- what is true of every service
abbrev pub IsWellKept : ServiceView → Type 0
IsWellKept v = AreKnown (known_of v.processes) (ends_of v.links)

-- a fault that the answer to a step may be: want of memory, or, only where the step is not allowed, its number
abbrev pub IsFault : State → ServiceStep → ApplyFault → Type 0
IsFault s made (fault.NotAllowed n) = (n ≡ step_number made) × (IsAllowed s made → ⊥)
IsFault s made fault.NoMemory = Unit {0}

-- these ends are known to be the process's that owns an end
pub record OwnerKnows (v : ServiceView) (e : EndId) (xs : List EndId) : Type 0 where
  pub all : (p : Pid) → IsTrue (is_owned_by p (ends_of v.links e).place) → All (IsKnown (known_of v.processes) p) xs

-- the last end on which p is known to have an activity
abbrev pub IsLastActive : Pid → ServiceView → EndId → Type 0
IsLastActive p v e = slice_get (active_of v.processes p.0) (length (active_of v.processes p.0) - 1) ≡ Some e

-- p has no activity on the last end on which it is known to have one
pub record HasIdleLast (p : Pid) (v : ServiceView) : Type 0 where
  pub last : EndId
  pub is : IsLastActive p v last
  pub idle : IsTrue (is_owned_by p (ends_of v.links last).place && is_active (ends_of v.links last)) → ⊥

-- a link is made, and its ends are owned by two processes
abbrev pub adds_link : LinkId → Pid × Pid → State → State
adds_link link owners s =
    let a : EndId = record { link = link; side = A } in
    record s {
      made = slice_set s.made link.maker (link.count + 1);
      ends = put (put s.ends a (fresh (Owned owners.0))) (opposite a) (fresh (Owned owners.1));
    }

-- the state before any step, with the links wired so far
abbrev pub wired_state : Setting → Wired → State
wired_state s so_far =
    record { version = s.version; homes = s.homes; made = so_far.made; ends = so_far.ends; process = new_processes (length s.homes) }

-- the links of so many wires of a setting
abbrev pub wired_links : Setting → ℕ → Wired
wired_links s count = fold (wires_one s.homes) (nothing_wired s.kernels) (take count s.wires)

-- so many wires of a setting are made, and nothing else
pub record HasWired (s : Setting) (made : ℕ) (v : ServiceView) : Type 0 where
  pub state : state_of v ≡ wired_state s (wired_links s made)
  pub count : length v.processes ≡ length s.homes

-- a wire of the start
abbrev pub wires : Pid × Pid → State → State
wires wire s =
    let after : Wired = wires_one s.homes (record { made = s.made; ends = s.ends }) wire in
    record s { made = after.made; ends = after.ends }

-- the home of a process is there, and may make one link more
pub record HasRoom (v : ServiceView) (p : Pid) : Type 0 where
  pub there : p.0 < length v.homes
  pub home : slice_index v.homes p.0 < length v.made
  pub room : slice_index v.made (slice_index v.homes p.0) < link_limit
