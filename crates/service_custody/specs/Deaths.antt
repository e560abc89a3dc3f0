-- When a step tells that a link is dead, and when a receive is over.
use Rattle.std.specs.Prelude.{◌≡◌, ◌⊎◌, ℕ, List, Some}
use Rattle.charlotte_calls.specs.Names.{opposite}
use Rattle.charlotte_calls.specs.declared.calls.Answer.TheVariants as answer
use Rattle.charlotte_calls.specs.declared.calls.Call.{Call}
use Rattle.charlotte_calls.specs.declared.calls.Call.TheVariants as call
use Rattle.charlotte_calls.specs.declared.calls.Cause.TheVariants as cause
use Rattle.charlotte_calls.specs.declared.calls.Report.{Report}
use Rattle.charlotte_calls.specs.declared.calls.ServiceStep.{ServiceStep}
use Rattle.charlotte_calls.specs.declared.calls.ServiceStep.TheVariants as step
use Rattle.charlotte_calls.specs.declared.names.EndId.{EndId}
use Rattle.charlotte_calls.specs.declared.names.Outcome.TheVariants as outcome
use Rattle.charlotte_calls.specs.declared.names.Pid.{Pid}
use Rattle.charlotte_calls.specs.declared.names.Way.{Way}
use Rattle.charlotte_calls.specs.declared.names.Way.TheVariants as way
use Rattle.service_step.specs.State.{State}
use Rattle.service_step.specs.declared.state.Inward.TheVariants as inward
use Rattle.service_step.specs.declared.state.Place.TheVariants as place
use Rattle.told_answers.specs.Told.{cancel_in}

abbrev pub IsGone : State → EndId → Type 0
IsGone s x = (s.ends x).place ≡ place.Destroyed

-- a call on this end
pub data IsOn (x : EndId) : Call → Type 0 where
  Sends : (bytes : List ℕ) (xs : List EndId) → IsOn x (call.Send x bytes xs)
  Receives : IsOn x (call.Receive x)
  Cancels : (w : Way) → IsOn x (call.Cancel x w)

-- what is told of a death is true, at an end that lives
pub record AreDeathsTrue (s : State) (made : ServiceStep) (t : State) : Type 0 where
  pub refused : (p : Pid) (c : Call) (x : EndId) → made ≡ step.Refuse p c cause.Dead → IsOn x c → IsGone t (opposite x)
  pub reported : (p : Pid) (r : Report) → made ≡ step.Report p r → r.outcome ≡ outcome.Destroyed → IsGone t r.on ⊎ IsGone t (opposite r.on)
  pub cancelled : (x : EndId) → cancel_in x made ≡ Some (answer.Refused cause.Dead) → IsGone t x ⊎ IsGone t (opposite x)

-- a receive starts with its call alone, and is over once its report is given or its Cancel is answered Ok
pub record AreReceives (s : State) (made : ServiceStep) (t : State) : Type 0 where
  pub starts : (x : EndId) → ((t.ends x).inward ≡ inward.Idle → ⊥) → ((s.ends x).inward ≡ inward.Idle → ⊥) ⊎ (made ≡ step.Receive x)
  pub reported : (p : Pid) (r : Report) → made ≡ step.Report p r → r.way ≡ way.Inward → (t.ends r.on).inward ≡ inward.Idle
  pub cancelled : (x : EndId) → cancel_in x made ≡ Some answer.Ok → (t.ends x).inward ≡ inward.Idle
