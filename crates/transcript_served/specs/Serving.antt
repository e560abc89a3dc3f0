-- One service line of a transcript as a step of the link service.
use Rattle.std.specs.Prelude.{◌≡◌, ℕ, Ok, Err}
use Rattle.charlotte_calls.specs.declared.calls.ServiceStep.{ServiceStep}
use Rattle.charlotte_text.specs.declared.fault.Fault.TheVariants.{Form}
use Rattle.kernel_entries.specs.declared.entry.Happened.{Happened}
use Rattle.service_step.specs.State.{State}
use Rattle.service_step.specs.Steps.{IsAllowed, IsServiceStep, step_number}
use Rattle.transcript_reading.specs.Kinds.{full_step}
use Rattle.transcript_reading.specs.declared.line.ServiceLine.{ServiceLine}
use Rattle.transcript_served.specs.declared.trouble.Trouble.{Trouble}
use Rattle.transcript_served.specs.declared.trouble.Trouble.TheVariants.{NotWhole, NotAllowed, NoMemory}

-- the step that a line and the entry above it tell is made
pub record Makes (above : Happened) (line : ServiceLine) (old new : State) : Type 0 where
  pub step : ServiceStep
  pub told : full_step above line ≡ Ok step
  pub made : IsServiceStep old step new

-- the step that a line and the entry above it tell has this number and is not allowed
pub record IsRefused (above : Happened) (line : ServiceLine) (s : State) (number : ℕ) : Type 0 where
  pub step : ServiceStep
  pub told : full_step above line ≡ Ok step
  pub which : number ≡ step_number step
  pub refused : IsAllowed s step → ⊥

-- what can go wrong with the line of a number
abbrev pub IsTroubleOf : ℕ → Happened → ServiceLine → State → Trouble → Type 0
IsTroubleOf number above line s (NotWhole n) = (n ≡ number) × (full_step above line ≡ Err Form)
IsTroubleOf number above line s (NotAllowed n step) = (n ≡ number) × IsRefused above line s step
IsTroubleOf number above line s NoMemory = Unit {0}
IsTroubleOf number above line s _ = ⊥
