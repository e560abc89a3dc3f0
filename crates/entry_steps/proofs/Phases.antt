-- The phases of the processes of other kernels stay.
use Rattle.std.proofs.Common.{◌≡◌, ◌≢◌, ◌⊎◌, inl, inr, ◌<◌, ◌≤◌, List, [], ◌∷◌, length, Option, Some, None, slice_index, refl, sym, ap, subst, ◌∙◌, if◌then◌else◌}
use Rattle.std.proofs.lemmas.Bool.{cases_lt, ne_eqb}
use Rattle.charlotte_calls.specs.declared.calls.ServiceStep.{ServiceStep}
use Rattle.charlotte_calls.specs.declared.calls.ServiceStep.TheVariants as step
use Rattle.charlotte_calls.specs.declared.names.EndId.{EndId}
use Rattle.charlotte_calls.specs.declared.names.Pid.{Pid}
use Rattle.charlotte_calls.specs.declared.names.Way.{Way}
use Rattle.charlotte_calls.specs.declared.names.Way.TheVariants as way
use Rattle.charlotte_calls.specs.declared.setting.Setting.{Setting}
use Rattle.kernel_step.specs.Start.{home}
use Rattle.kernel_world.specs.World.{Event, World, happens, kernel_of, outcome}
use Rattle.service_consistent.proofs.Laws.{consistent_after}
use Rattle.service_lawful.specs.Consistent.{IsConsistent}
use Rattle.service_step.specs.Ends.{owner}
use Rattle.service_step.specs.Run.{IsRunFrom, state_after}
use Rattle.service_step.specs.State.{Process, State}
use Rattle.service_step.specs.Steps.{IsServiceStep, after_cancel}
use Rattle.theorem_meaning.specs.StandsFor.{StandsFor, service_phase}

-- ---- the service keeps the kernels of processes, and is consistent

cancel-homes : (o : Option Pid) (e : EndId) (w : Way) (s : State) → (after_cancel o e w s).homes ≡ s.homes
cancel-homes None e w s = refl
cancel-homes (Some p) e way.Outward s = refl
cancel-homes (Some p) e way.Inward s = refl

step-homes : (s : State) (x : ServiceStep) (t : State) → IsServiceStep s x t → t.homes ≡ s.homes
step-homes s (step.Cancel e w) t is = ap (λ (z : State). z.homes) is.after ∙ cancel-homes (owner (s.ends e).place) e w s
step-homes s (step.Exit p) t is = ap (λ (z : State). z.homes) is.after.after
step-homes s x t is = ap (λ (z : State). z.homes) is.after

pub run-homes : (s : State) (part : List (ServiceStep × State)) → IsRunFrom s part → (state_after s part).homes ≡ s.homes
run-homes s [] run = refl
run-homes s (x ∷ xs) run = run-homes x.1 xs run.1 ∙ step-homes s x.0 x.1 run.0

pub run-consistent : (s : State) (part : List (ServiceStep × State)) → IsRunFrom s part → IsConsistent s → IsConsistent (state_after s part)
run-consistent s [] run is = is
run-consistent s (x ∷ xs) run is = run-consistent x.1 xs run.1 (consistent_after s x.0 x.1 is run.0)

-- ---- over one event

module _ (g : Setting) (w : World) (e : Event) (s t : State) (before : StandsFor w s) (after : StandsFor (happens w e) t) (was : s.homes ≡ g.homes) (are : t.homes ≡ g.homes) (consistent : IsConsistent s) (still : IsConsistent t) (q : Pid) where
  -- a process of the setting is where its kernel has it
  there : q.0 < length g.homes → home g q ≢ kernel_of e → (t.process q.0).phase ≡ (s.process q.0).phase
  there below other =
      (after.processes q (subst (λ hs. q.0 < length hs) (sym are) below)).phase ∙ ap (λ hs. service_phase (((happens w e).kernel (slice_index hs q.0)).process q.0).phase) are
      ∙ ap (λ b. service_phase ((if b then (outcome w e).kernel else w.kernel (home g q)).process q.0).phase) (ne_eqb (home g q) (kernel_of e) other)
      ∙ sym ((before.processes q (subst (λ hs. q.0 < length hs) (sym was) below)).phase ∙ ap (λ hs. service_phase ((w.kernel (slice_index hs q.0)).process q.0).phase) was)

  -- and there is no other
  away : length g.homes ≤ q.0 → (t.process q.0).phase ≡ (s.process q.0).phase
  away above =
      ap (λ (z : Process). z.phase) (still.processes.others q (subst (λ hs. length hs ≤ q.0) (sym are) above) ∙ sym (consistent.processes.others q (subst (λ hs. length hs ≤ q.0) (sym was) above)))

  pub others-stay : home g q ≢ kernel_of e → (t.process q.0).phase ≡ (s.process q.0).phase
  others-stay other = by (cases_lt q.0 (length g.homes))
    where
      by : (q.0 < length g.homes) ⊎ (length g.homes ≤ q.0) → (t.process q.0).phase ≡ (s.process q.0).phase
      by (inl below) = there below other
      by (inr above) = away above
