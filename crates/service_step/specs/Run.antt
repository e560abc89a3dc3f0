-- Service runs: from the start of a setting, steps that are each allowed in the state that the steps before it leave.
use Rattle.std.specs.Prelude.{ℕ, nat_lt, if◌then◌else◌, List, [], ◌∷◌, length, slice_index, replicate}
use Rattle.std.specs.List.{fold}
use Rattle.charlotte_calls.specs.Names.{opposite}
use Rattle.charlotte_calls.specs.declared.calls.ServiceStep.{ServiceStep}
use Rattle.charlotte_calls.specs.declared.names.EndId.{EndId}
use Rattle.charlotte_calls.specs.declared.names.Pid.{Pid}
use Rattle.charlotte_calls.specs.declared.names.Side.TheVariants.{A}
use Rattle.charlotte_calls.specs.declared.setting.Setting.{Setting}
use Rattle.service_step.specs.Ends.{fresh, put, unmade}
use Rattle.service_step.specs.State.{State, Process, no_process, counts}
use Rattle.service_step.specs.Steps.{IsServiceStep}
use Rattle.service_step.specs.declared.state.End.{End}
use Rattle.service_step.specs.declared.state.Phase.TheVariants.{Running}
use Rattle.service_step.specs.declared.state.Place.TheVariants.{Owned}

-- the links wired so far
pub record Wired : Type 0 where
  -- how many each kernel has made
  pub made : List ℕ
  pub ends : EndId → End

-- the first end of a link with this maker and count
abbrev pub first_end : ℕ → ℕ → EndId
first_end k count = record { link = record { maker = k; count = count }; side = A }

-- a wire: the home of the first process makes a link, whose end a is the first process's and whose end b the second's
unfoldable pub wires_one : List ℕ → Wired → Pid × Pid → Wired
wires_one homes so_far wire =
    let maker = slice_index homes wire.0.0 in
    let a = first_end maker (slice_index so_far.made maker) in
    record {
      made = counts maker so_far.made;
      ends = put (put so_far.ends a (fresh (Owned wire.0))) (opposite a) (fresh (Owned wire.1));
    }

abbrev pub nothing_wired : ℕ → Wired
nothing_wired kernels = record { made = replicate kernels 0; ends = λ _. unmade }

abbrev pub wired : Setting → Wired
wired s = fold (wires_one s.homes) (nothing_wired s.kernels) s.wires

-- a process at the start
abbrev pub new_process : Process
new_process = record { phase = Running; reports = [] }

-- this many processes at the start
unfoldable pub new_processes : ℕ → ℕ → Process
new_processes count = λ q. if nat_lt q count then new_process else no_process

-- the state before any step
abbrev pub start_state : Setting → State
start_state s =
    record {
      version = s.version;
      homes = s.homes;
      made = (wired s).made;
      ends = (wired s).ends;
      process = new_processes (length s.homes);
    }

-- steps, each with the state that it leaves: each is allowed in the state before it
abbrev pub IsRunFrom : State → List (ServiceStep × State) → Type 0
IsRunFrom s [] = Unit {0}
IsRunFrom s (made ∷ others) = IsServiceStep s made.0 made.1 × IsRunFrom made.1 others

-- the state that these steps leave
abbrev pub state_after : State → List (ServiceStep × State) → State
state_after s [] = s
state_after s (made ∷ others) = state_after made.1 others

-- a service run of a setting
abbrev pub IsServiceRun : Setting → List (ServiceStep × State) → Type 0
IsServiceRun s run = IsRunFrom (start_state s) run
