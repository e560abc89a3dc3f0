-- Runs of the service that a text tells, and what is answered of it.
use Rattle.std.specs.Prelude.{◌≡◌, ℕ, List, [], ◌∷◌, ◌++◌, Option, Some, None, Result, Ok, Err, IsTrue}
use Rattle.charlotte_calls.specs.declared.names.EndId.{EndId}
use Rattle.charlotte_calls.specs.declared.names.Pid.{Pid}
use Rattle.history_run.specs.declared.fault.TextFault.{TextFault}
use Rattle.history_run.specs.declared.fault.TextFault.TheVariants as fault
use Rattle.history_text.specs.Lines.{Numbered, Told}
use Rattle.history_text.specs.declared.meaning.Act.{Act}
use Rattle.service_step.specs.Ends.{is_owned_by}
use Rattle.service_step.specs.Run.{start_state}
use Rattle.service_step.specs.State.{State}
use Rattle.service_step.specs.Steps.{IsAllowed, IsServiceStep}

-- the process that a line names owns the end
abbrev pub IsOwners : State → Option (Pid × EndId) → Type 0
IsOwners s None = Unit {0}
IsOwners s (Some named) = IsTrue (is_owned_by named.0 (s.ends named.1).place)

-- the step of a line is allowed, to the process that it names
pub record IsActAllowed (s : State) (act : Act) : Type 0 where
  pub owner : IsOwners s act.owner
  pub step : IsAllowed s act.step

-- it is allowed in s and leaves t
pub record IsAct (s : State) (act : Act) (t : State) : Type 0 where
  pub owner : IsOwners s act.owner
  pub made : IsServiceStep s act.step t

-- steps, each allowed in the state that the steps before it leave; all of them leave t
abbrev pub IsRun : State → List Numbered → State → Type 0
IsRun s [] t = t ≡ s
IsRun s (a ∷ others) t = (u : State) × IsAct s a.act u × IsRun u others t

-- all steps of a text are a run from the start of its setting
abbrev pub IsRunOf : Told → Type 0
IsRunOf told = (t : State) × IsRun (start_state told.setting) told.acts t

-- the steps before that of a line are a run, and that one is not allowed behind them
pub record IsRefusedAt (told : Told) (line : ℕ) : Type 0 where
  pub before : List Numbered
  pub act : Act
  pub behind : List Numbered
  pub acts : told.acts ≡ before ++ record { line = line; act = act } ∷ behind
  pub state : State
  pub run : IsRun (start_state told.setting) before state
  pub refused : IsActAllowed state act → ⊥

-- What is answered of what a text tells: that its lines have their forms and its steps are a run; the first line that has no form in its place, before
-- which all steps are a run; or the first line of which the step is not allowed where it stands. Want of memory comes at any text.
abbrev pub IsAnswer : {X : Type 0} → Told → Result X TextFault → Type 0
IsAnswer told (Ok x) = (told.wrong ≡ None) × IsRunOf told
IsAnswer told (Err (fault.Form line)) = (told.wrong ≡ Some line) × IsRunOf told
IsAnswer told (Err (fault.NotAllowed line)) = IsRefusedAt told line
IsAnswer told (Err fault.NoMemory) = Unit {0}
