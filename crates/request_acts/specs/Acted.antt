-- The deeds of a run whose processes are LYNX programs: when they are replayed by the entries, and what one replay of all of them gives.
use Rattle.std.specs.Prelude.{◌≡◌, ℕ, zero, suc, ◌<◌, ◌≤◌, nat_eq, List, [], ◌∷◌, ◌++◌, length, map, filter, Option, None, Some}
use Rattle.std.specs.List.{flat_map, range_with_len}
use Rattle.charlotte_calls.specs.Program.{steps as steps_given}
use Rattle.charlotte_calls.specs.declared.calls.Answer.{Answer}
use Rattle.charlotte_calls.specs.declared.calls.Call.{Call}
use Rattle.charlotte_calls.specs.declared.names.EndId.{EndId}
use Rattle.charlotte_calls.specs.declared.names.Pid.{Pid}
use Rattle.charlotte_calls.specs.declared.program.Next.{Next}
use Rattle.charlotte_calls.specs.declared.program.Next.TheVariants as next
use Rattle.charlotte_calls.specs.declared.setting.Setting.{Setting}
use Rattle.kernel_entries.specs.Order.{of_kernel}
use Rattle.kernel_entries.specs.declared.entry.Placed.{Placed}
use Rattle.kernel_step.specs.Start.{home}
use Rattle.language_links.specs.Told.{call_of}
use Rattle.language_links.specs.Replay.{ReplaysProgram}
use Rattle.lynx_code.specs.declared.code.Code.{Code}
use Rattle.process_sound.specs.States.{DeedOn, State, module_of, start_of}
use Rattle.process_sound.specs.Runs.{deeds_of as run_deeds, step}
use Rattle.language_links.specs.Acting.{Acts, Done, Fleet, Program, at_end, at_start}

-- the process of this number, and its kernel
abbrev pub process : ℕ → Pid
process i = record { 0 = i }

abbrev pub home_of : Setting → ℕ → ℕ
home_of s i = home s (process i)

-- ---- programs

-- a program of no process
abbrev pub no_program : Program
no_program = record { code = record { instructions = []; types = record { globals = []; ops = []; entries = 0 }; parts = []; signatures = [] }; ends = [] }

-- these codes, with these ends, by the numbers of their processes
abbrev pub programs_of : List Code → List (List EndId) → ℕ → Program
programs_of (code ∷ codes) (ends ∷ others) zero = record { code = module_of code; ends = ends }
programs_of (code ∷ codes) (ends ∷ others) (suc i) = programs_of codes others i
programs_of codes ends i = no_program

-- ---- replays

-- The processes of a setting replay these programs over these entries, each over those of its kernel, in so many steps
pub record AreReplayed (s : Setting) (programs : ℕ → Program) (merged : List Placed) (steps : ℕ → ℕ) : Type 0 where
  pub replays : (i : ℕ) → i < length s.homes
      → (state : State) × ReplaysProgram step (start_of s.version (programs i).code (programs i).ends) (process i) (of_kernel (home_of s i) merged) state (steps i)

-- One replay of all: the deeds that stand before calls, and the processes as they are at the end, after so many steps
pub record AreActed (s : Setting) (programs : ℕ → Program) (merged : List Placed) (steps : ℕ → ℕ) : Type 0 where
  pub before_calls : List Done
  pub last : Fleet
  pub acts : Acts (home_of s) 0 (at_start s.version programs) merged before_calls last
  pub steps_are : (i : ℕ) → i < length s.homes → (last i).replayed.steps ≡ steps i
  -- there are no other processes
  pub idle : (i : ℕ) → length s.homes ≤ i → (last i).replayed.steps ≡ 0

-- the deeds of the run: those that no call followed stand at the end
abbrev pub deeds_of : (s : Setting) (programs : ℕ → Program) (merged : List Placed) (steps : ℕ → ℕ) → AreActed s programs merged steps → List Done
deeds_of s programs merged steps acted = acted.before_calls ++ at_end (length merged) acted.last (map process (range_with_len 0 (length s.homes)))

-- ---- what one process does

-- its deeds among those of all
abbrev pub deeds_by : ℕ → List Done → List DeedOn
deeds_by i ds = map (λ d. record { on = d.on; deed = d.deed }) (filter (λ d. nat_eq d.by.0 i) ds)

abbrev pub calls_of : Option Call → List Call
calls_of None = []
calls_of (Some c) = c ∷ []

-- the calls that it makes in these entries
abbrev pub calls_by : ℕ → List Placed → List Call
calls_by i es = flat_map (λ e. calls_of (call_of (process i) e.entry.what)) es

abbrev pub asked_of : Next → List Call
asked_of (next.Ask c) = c ∷ []
asked_of n = []

-- the calls in what a process does
abbrev pub asked_in : List Next → List Call
asked_in ns = flat_map asked_of ns

-- What process i does in a run is a process run: given these answers its program makes its calls, and its deeds, in as many steps
pub record IsRunBy (s : Setting) (programs : ℕ → Program) (merged : List Placed) (made : ℕ → ℕ) (a : AreActed s programs merged made) (i : ℕ)
    : Type 0 where
  pub given : List (Option Answer)
  pub count : length given ≡ made i
  pub deeds : deeds_by i (deeds_of s programs merged made a) ≡ run_deeds (start_of s.version (programs i).code (programs i).ends) given
  pub calls : calls_by i merged ≡ asked_in (steps_given step (start_of s.version (programs i).code (programs i).ends) given)
