-- A history as it is followed, line by line.
use Rattle.std.specs.Prelude.{◌≡◌, ◌⊎◌, ℕ, Bool, true, false, List, ◌++◌, Option, Some, None, Ok, Err}
use Rattle.charlotte_calls.specs.Setting.{IsValid}
use Rattle.charlotte_calls.specs.declared.setting.Setting.{Setting}
use Rattle.charlotte_text.specs.declared.fault.Fault.{Fault}
use Rattle.history_run.specs.Runs.{IsAct, IsActAllowed, IsRun}
use Rattle.history_run.specs.declared.fault.HistoryFault.{HistoryFault}
use Rattle.history_run.specs.declared.fault.HistoryFault.TheVariants as fault
use Rattle.history_run.specs.declared.fault.TextFault.{TextFault}
use Rattle.history_run.specs.declared.fault.TextFault.TheVariants as text
use Rattle.history_run.specs.declared.history.History.{History}
use Rattle.history_text.specs.Given.{Given, nothing, setting_given}
use Rattle.history_text.specs.Lines.{Numbered, Told, line_read, lines_told, told_by}
use Rattle.history_text.specs.declared.line.LineFault.{LineFault}
use Rattle.history_text.specs.declared.line.LineFault.TheVariants as line
use Rattle.history_text.specs.declared.meaning.Act.{Act}
use Rattle.link_service.specs.Service.{ServiceView, state_of}
use Rattle.link_service.specs.declared.service.ApplyFault.{ApplyFault}
use Rattle.link_service.specs.declared.service.ApplyFault.TheVariants as apply
use Rattle.service_step.specs.Run.{start_state}
use Rattle.service_step.specs.State.{State}

abbrev pub fault_of_line : LineFault → HistoryFault
fault_of_line line.Form = fault.Form
fault_of_line line.NoMemory = fault.NoMemory

abbrev pub fault_of_apply : ApplyFault → HistoryFault
fault_of_apply (apply.NotAllowed n) = fault.NotAllowed
fault_of_apply apply.NoMemory = fault.NoMemory

-- a fault at the line with this number
abbrev pub fault_at : ℕ → HistoryFault → TextFault
fault_at n fault.Form = text.Form n
fault_at n fault.NotAllowed = text.NotAllowed n
fault_at n fault.NoMemory = text.NoMemory

-- the service, or its start where no step was told
abbrev pub state_now : Bool → ServiceView → Given → State
state_now false v g = start_state (setting_given g)
state_now true v g = state_of v

-- why a step was not made
abbrev pub IsActFault : State → Act → ApplyFault → Type 0
IsActFault s act (apply.NotAllowed n) = IsActAllowed s act → ⊥
IsActFault s act apply.NoMemory = Unit {0}

-- before the first line
pub record IsNew (h : History) : Type 0 where
  pub draft : h.draft ≡ nothing
  pub begun : h.begun ≡ false

-- why a service was not started
abbrev pub IsStartFault : Setting → HistoryFault → Type 0
IsStartFault setting fault.Form = IsValid setting → ⊥
IsStartFault setting fault.NotAllowed = ⊥
IsStartFault setting fault.NoMemory = Unit {0}

-- no step was told, and the service was not started
abbrev pub IsBeginFault : History → HistoryFault → Type 0
IsBeginFault h why = (h.begun ≡ false) × IsStartFault (setting_given h.draft) why

-- the service is there
pub record Begins (old new : History) : Type 0 where
  pub act : new.act ≡ old.act
  pub begun : new.begun ≡ true
  pub state : state_of new.service ≡ state_now old.begun old.service old.draft

-- a step was made, where these were read last
pub record Makes (old : History) (act : Act) (new : History) : Type 0 where
  pub begun : new.begun ≡ true
  pub made : IsAct (state_now old.begun old.service old.draft) act (state_of new.service)

-- why a step was not made
abbrev pub IsStepFault : History → Act → HistoryFault → Type 0
IsStepFault h act fault.Form = (h.begun ≡ false) × (IsValid (setting_given h.draft) → ⊥)
IsStepFault h act fault.NotAllowed = IsActAllowed (state_now h.begun h.service h.draft) act → ⊥
IsStepFault h act fault.NoMemory = Unit {0}

-- the service is as it was
pub record IsStill (old new : History) : Type 0 where
  pub begun : new.begun ≡ old.begun
  pub service : new.service ≡ old.service

-- what a line that was read does: nothing more, or its step
abbrev pub Does : History → Option Act → History → Type 0
Does old None new = IsStill old new
Does old (Some act) new = Makes old act new

-- a line was followed
pub record Follows (text : List ℕ) (old new : History) : Type 0 where
  pub act : Option Act
  pub read : line_read old.draft text ≡ Ok (new.draft, act)
  pub does : Does (record old { draft = new.draft }) act new

-- a line was read, and its step was not made
pub record IsStopped (text : List ℕ) (old : History) (why : HistoryFault) : Type 0 where
  pub given : Given
  pub act : Act
  pub read : line_read old.draft text ≡ Ok (given, Some act)
  pub fault : IsStepFault (record old { draft = given }) act why

-- a line has no form
pub record IsFormless (text : List ℕ) (old : History) : Type 0 where
  pub fault : Fault
  pub read : line_read old.draft text ≡ Err fault

-- why a line was not followed
abbrev pub IsFaultOf : List ℕ → History → HistoryFault → Type 0
IsFaultOf text old fault.Form = IsFormless text old ⊎ IsStopped text old fault.Form
IsFaultOf text old fault.NotAllowed = IsStopped text old fault.NotAllowed
IsFaultOf text old fault.NoMemory = Unit {0}

-- the setting and the steps of the lines so far, once a step was told
abbrev pub Seen : Type 0
Seen = Option (Setting × List Numbered)

-- what these tell and the lines behind them
abbrev pub joined : Seen → Told → Told
joined None rest = rest
joined (Some seen) rest = record { setting = seen.0; acts = seen.1 ++ rest.acts; wrong = rest.wrong }

-- the service has made these steps
abbrev pub HasMade : Seen → Bool → ServiceView → Type 0
HasMade None false v = Unit {0}
HasMade None true v = ⊥
HasMade (Some seen) false v = ⊥
HasMade (Some seen) true v = IsRun (start_state seen.0) seen.1 (state_of v)

-- after the line with this number, where these lines are left
pub record IsAt (bytes : List ℕ) (n : ℕ) (rest : List (List ℕ)) (h : History) : Type 0 where
  pub seen : Seen
  pub told : told_by bytes ≡ joined seen (lines_told n h.draft rest)
  pub made : HasMade seen h.begun h.service
