-- A Cancel that is answered Late, in a lawful run of the link service.
use Rattle.std.specs.Prelude.{◌≡◌, ℕ, true, List, ◌∷◌, ◌++◌}
use Rattle.charlotte_calls.specs.Names.{opposite}
use Rattle.charlotte_calls.specs.declared.calls.Call.{Call}
use Rattle.charlotte_calls.specs.declared.calls.Call.TheVariants as call
use Rattle.charlotte_calls.specs.declared.calls.Cause.TheVariants.{Late}
use Rattle.charlotte_calls.specs.declared.calls.ServiceStep.{ServiceStep}
use Rattle.charlotte_calls.specs.declared.calls.ServiceStep.TheVariants as step
use Rattle.charlotte_calls.specs.declared.names.EndId.{EndId}
use Rattle.charlotte_calls.specs.declared.names.Pid.{Pid}
use Rattle.charlotte_calls.specs.declared.names.Way.{Way}
use Rattle.charlotte_calls.specs.declared.names.Way.TheVariants.{Inward}
use Rattle.charlotte_calls.specs.declared.setting.Setting.{Setting}
use Rattle.kernel_entries.specs.declared.entry.Placed.{Placed}
use Rattle.service_step.specs.Lawful.{IsRightStep}
use Rattle.service_step.specs.Run.{start_state}
use Rattle.service_step.specs.State.{State}
use Rattle.theorem.specs.Law.{joined}
use Rattle.theorem.specs.Record.{IsLawfulRecord}

-- a step that answers the Cancel of p on e of this way Late: its refusal, or for a receive that a message is taken late
abbrev pub IsLateFor : Pid → EndId → Way → ServiceStep → Type 0
IsLateFor p e w (step.Refuse q c Late) = (q ≡ p) × (c ≡ call.Cancel e w)
IsLateFor p e Inward (step.Take on n q true) = on ≡ opposite e
IsLateFor p e w _ = ⊥

-- in the run of the link service that these entries show there is such a step, and it is right: so its message was matched before
pub record IsLateByMatch (s : Setting) (merged : List Placed) (p : Pid) (e : EndId) (w : Way) : Type 0 where
  pub lawful : IsLawfulRecord s merged
  pub before : List (ServiceStep × State)
  pub after : List (ServiceStep × State)
  pub late : ServiceStep
  pub left : State
  pub there : joined lawful.lawfully.served.parts ≡ before ++ (late, left) ∷ after
  pub is_late : IsLateFor p e w late
  pub right : IsRightStep (start_state s) (joined lawful.lawfully.served.parts) before late
