-- What every service run keeps: its states are consistent, and it is lawful.
use Rattle.std.proofs.Common.{sym, subst}
use Rattle.charlotte_calls.specs.declared.calls.ServiceStep.{ServiceStep}
use Rattle.charlotte_calls.specs.declared.calls.ServiceStep.TheVariants as step
use Rattle.service_consistent.proofs.StepsOfCalls.{consistent-cancel, consistent-destroy, consistent-receive, consistent-send, consistent-wait}
use Rattle.service_lawful.specs.Consistent.{IsConsistent}
use Rattle.service_consistent.proofs.Exits.{consistent-exit}
use Rattle.service_consistent.proofs.Makes.{consistent-make}
use Rattle.service_consistent.proofs.StepsOfDeaths.{consistent-notice, consistent-report, consistent-return}
use Rattle.service_consistent.proofs.StepsOfMessages.{consistent-complete, consistent-free, consistent-match, consistent-take, consistent-withdraw}
use Rattle.service_step.specs.State.{State}
use Rattle.service_step.specs.Steps.{IsServiceStep}

pub consistent_after : (s : State) (x : ServiceStep) (t : State) → IsConsistent s → IsServiceStep s x t → IsConsistent t
consistent_after s (step.Make p a b) t k is = subst IsConsistent (sym is.after) (consistent-make s p a b k is.allowed)
consistent_after s (step.Refuse p call cause) t k is = subst IsConsistent (sym is.after) k
consistent_after s (step.Destroy e) t k is = subst IsConsistent (sym is.after) (consistent-destroy s e k is.allowed)
consistent_after s (step.Send e n bytes xs) t k is = subst IsConsistent (sym is.after) (consistent-send s e n bytes xs k is.allowed)
consistent_after s (step.Receive e) t k is = subst IsConsistent (sym is.after) (consistent-receive s e k is.allowed)
consistent_after s (step.Cancel e w) t k is = subst IsConsistent (sym is.after) (consistent-cancel s e w k is.allowed)
consistent_after s (step.Wait p) t k is = subst IsConsistent (sym is.after) (consistent-wait s p k is.allowed.0)
consistent_after s (step.Report p r) t k is = subst IsConsistent (sym is.after) (consistent-report s p r k is.allowed)
consistent_after s (step.Exit p) t k is = consistent-exit s t p k is.allowed is.after
consistent_after s (step.Match e n) t k is = subst IsConsistent (sym is.after) (consistent-match s e n k is.allowed)
consistent_after s (step.Take e n p late) t k is = subst IsConsistent (sym is.after) (consistent-take s e n p late k is.allowed)
consistent_after s (step.Complete e n) t k is = subst IsConsistent (sym is.after) (consistent-complete s e n k is.allowed)
consistent_after s (step.Withdraw e) t k is = subst IsConsistent (sym is.after) (consistent-withdraw s e k is.allowed)
consistent_after s (step.Free e) t k is = subst IsConsistent (sym is.after) (consistent-free s e k is.allowed)
consistent_after s (step.Notice e dead) t k is = subst IsConsistent (sym is.after) (consistent-notice s e dead k is.allowed)
consistent_after s (step.Back e n dead) t k is = subst IsConsistent (sym is.after) (consistent-return s e n dead k is.allowed)
