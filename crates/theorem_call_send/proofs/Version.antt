-- The service keeps its version.
use Rattle.std.proofs.Common.{◌≡◌, List, [], ◌∷◌, Option, Some, None, refl, ap, ◌∙◌}
use Rattle.charlotte_calls.specs.declared.calls.ServiceStep.{ServiceStep}
use Rattle.charlotte_calls.specs.declared.calls.ServiceStep.TheVariants as step
use Rattle.charlotte_calls.specs.declared.names.EndId.{EndId}
use Rattle.charlotte_calls.specs.declared.names.Pid.{Pid}
use Rattle.charlotte_calls.specs.declared.names.Way.{Way}
use Rattle.charlotte_calls.specs.declared.names.Way.TheVariants as way
use Rattle.service_step.specs.Ends.{owner}
use Rattle.service_step.specs.Run.{IsRunFrom, state_after}
use Rattle.service_step.specs.State.{State}
use Rattle.service_step.specs.Steps.{IsServiceStep, after_cancel}

cancel-version : (o : Option Pid) (e : EndId) (w : Way) (s : State) → (after_cancel o e w s).version ≡ s.version
cancel-version None e w s = refl
cancel-version (Some p) e way.Outward s = refl
cancel-version (Some p) e way.Inward s = refl

-- in each step
pub step-version : (s : State) (x : ServiceStep) (t : State) → IsServiceStep s x t → t.version ≡ s.version
step-version s (step.Cancel e w) t is = ap (λ (z : State). z.version) is.after ∙ cancel-version (owner (s.ends e).place) e w s
step-version s (step.Exit p) t is = ap (λ (z : State). z.version) is.after.after
step-version s (step.Make p a b) t is = ap (λ (z : State). z.version) is.after
step-version s (step.Refuse p call cause) t is = ap (λ (z : State). z.version) is.after
step-version s (step.Destroy e) t is = ap (λ (z : State). z.version) is.after
step-version s (step.Send e n bytes xs) t is = ap (λ (z : State). z.version) is.after
step-version s (step.Receive e) t is = ap (λ (z : State). z.version) is.after
step-version s (step.Wait p) t is = ap (λ (z : State). z.version) is.after
step-version s (step.Report p r) t is = ap (λ (z : State). z.version) is.after
step-version s (step.Match e n) t is = ap (λ (z : State). z.version) is.after
step-version s (step.Take e n p late) t is = ap (λ (z : State). z.version) is.after
step-version s (step.Complete e n) t is = ap (λ (z : State). z.version) is.after
step-version s (step.Withdraw e) t is = ap (λ (z : State). z.version) is.after
step-version s (step.Free e) t is = ap (λ (z : State). z.version) is.after
step-version s (step.Notice e dead) t is = ap (λ (z : State). z.version) is.after
step-version s (step.Back e n dead) t is = ap (λ (z : State). z.version) is.after

-- and in each run
pub run-version : (s : State) (part : List (ServiceStep × State)) → IsRunFrom s part → (state_after s part).version ≡ s.version
run-version s [] run = refl
run-version s (x ∷ xs) run = run-version x.1 xs run.1 ∙ step-version s x.0 x.1 run.0
